-- What one more read adds at the front of a buffer: the octets before it stay, and those that it gave follow them. Assumes nothing.
use Rattle.std.proofs.Common.{◌≡◌, ℕ, ◌+◌, ◌≤◌, List, ◌++◌, length, take, ap, ◌∙◌, Option, None, Some}
use Rattle.std.proofs.Math.Seq.{take-append-add}
use Rattle.std.proofs.lemmas.List.{take-append-le, length-take-le, append_assoc}
use Rattle.std.specs.Io.KnownBytes.{Consumes}

front : (at got : ℕ) (buf mid rest : List ℕ) → at ≤ length buf → got ≤ length mid → take (at + got) (take at buf ++ (mid ++ rest)) ≡ take at buf ++ take got mid
front at got buf mid rest l m =
    let s = take-append-add (take at buf) (mid ++ rest) got in
    rw length-take-le at s ∙ ap (λ (xs : List ℕ). take at buf ++ xs) (take-append-le got mid rest m)

pub further : (old now new : Option (List ℕ)) (at got : ℕ) (buf mid rest : List ℕ)
    → at ≤ length buf → got ≤ length mid → Consumes old now (take at buf) → Consumes now new (take got mid) → Consumes old new (take (at + got) (take at buf ++ (mid ++ rest)))
further None now new at got buf mid rest l m a b = tt
further (Some xs) None new at got buf mid rest l m a b = absurd a
further (Some xs) (Some ys) None at got buf mid rest l m a b = absurd b
further (Some xs) (Some ys) (Some zs) at got buf mid rest l m a b =
    rw front (a ∙ ap (λ (us : List ℕ). take at buf ++ us) b ∙ rw append_assoc)
