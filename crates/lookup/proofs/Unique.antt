-- Two answers that the statement allows are alike: nothing twice, or the same octets at the same place. Assumes nothing.
use mathlib.Core.Path.{◌≡◌, sym, ◌∙◌, ap}
use mathlib.Core.Bool.{true, false}
use mathlib.Core.List.{List}
use Prim.Native.Nat.{ℕ}
use native.Mathlib.Omega.{arith}
use denote.Ref.{Bor}
use Rattle.std.specs.Prelude.{Option, Some, None}
use Rattle.rules.specs.declared.Span.{Span}
use Rattle.lookup.specs.Lent.{Finds}

abbrev pub Alike : Option (Bor (List ℕ)) → Option (Bor (List ℕ)) → Type 0
Alike None None = Unit {0}
Alike (Some p) (Some q) = (p.now ≡ q.now) × (p.ref_ptr.0 ≡ q.ref_ptr.0) × (p.ref_ptr.1 ≡ q.ref_ptr.1)
Alike None (Some q) = ⊥
Alike (Some p) None = ⊥

not-there : {A : Type 0} (s : Span) → s.there ≡ false → s.there ≡ true → A
not-there s e f = let z : false ≡ true = sym e ∙ f in let y : ◌≡◌ {A = ℕ} 0 1 = cc in absurd (omega arith)

pub finds_unique : (buffer : Bor (List ℕ)) (s : Span) (r r' : Option (Bor (List ℕ))) → Finds buffer s r → Finds buffer s r' → Alike r r'
finds_unique buffer s None None f g = tt
finds_unique buffer s (Some p) (Some q) f g =
    let x = f.1 in let y = g.1 in (x.octets ∙ sym y.octets, x.block ∙ sym y.block, x.place ∙ sym y.place)
finds_unique buffer s None (Some q) f g = not-there s (ap (λ (a : Span). a.there) f) g.0
finds_unique buffer s (Some p) None f g = not-there s (ap (λ (a : Span). a.there) g) f.0
