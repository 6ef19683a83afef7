-- Where the elements begin, if checks 1 to 8 pass: one law for each way out of the code. Assumes nothing.
use mathlib.Core.Path.{◌≡◌, refl, sym, ap, ◌∙◌}
use mathlib.Core.List.{List}
use Prim.Native.Nat.{ℕ, ◌+◌}
use Rattle.rules.specs.Framing.{length_field}
use Rattle.rules.specs.Listings.{book}
use Rattle.rules.specs.Verdicts.{accepted, opening_checks, first}
use Rattle.rules.specs.declared.Verdict.{Verdict}
use Rattle.answers.specs.declared.Refusal.{Refusal}
use Rattle.answers.specs.Refusals.{verdict_of}
use Rattle.answers.proofs.Refusing.{named_refuses}
use Rattle.taking.specs.Held.{no_counts}
use Rattle.pieces.specs.declared.Going.{Going}
use Rattle.pieces.specs.Coded.{settle_top, idle_by, entry_by, body_by}
use Rattle.pieces.specs.Agreements.{Enters}
use Rattle.pieces.proofs.Bodies.{Heads, heads}

-- ---- the body begins

module _ (k : ℕ) (h : List ℕ) {n : ℕ} (hn : n ≡ length_field h + 4) where
  checked : {v : Verdict} → v ≡ first (opening_checks book k h n) → first (opening_checks book k h (length_field h + 4)) ≡ v
  checked e = ap (λ (j : ℕ). first (opening_checks book k h j)) (sym hn) ∙ sym e

  pub body_out : (f : Refusal) {r : Going} → verdict_of f ≡ first (opening_checks book k h n) → r ≡ idle_by no_counts → r ≡ body_by k h
  unfolding body_by
  body_out f v e = rw (checked v, named_refuses f) e

  module _ (v : accepted ≡ first (opening_checks book k h n)) where
    pub body_in : {r e : Going} → e ≡ entry_by h → r ≡ settle_top k e → r ≡ body_by k h
    unfolding body_by
    body_in {r} {e} a b = rw (checked v) (b ∙ ap (settle_top k) a)

    pub passes : Heads k h (length_field h + 4)
    passes = heads k h (length_field h + 4) (rw (checked v) refl)

    pub entering : Enters h n
    entering = record { is = hn; room = rw hn passes.has_header; listed = passes.listed }
