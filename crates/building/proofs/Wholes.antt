-- Whether a message is accepted with every row kept, by what its reading comes to. Assumes nothing.
use mathlib.Core.Path.{◌≡◌, refl, sym, ap, ◌∙◌}
use mathlib.Core.Bool.{Bool, true, false, cond}
use mathlib.Core.List.{List, [], ◌∷◌}
use Prim.Native.Nat.{ℕ}
use native.Mathlib.Omega.{arith}
use native.Mathlib.Nat.{pos_of_ne-zero}
use borrow.Author.Tests.{lt-ltb, le-ltb}
use lib.Dec.{eqb}
use lib.ListN.{length}
use Rattle.rules.specs.Sizes.{used}
use Rattle.rules.specs.Listings.{book}
use Rattle.rules.specs.Taking.{body_level}
use Rattle.rules.specs.Table.{kept_rows}
use Rattle.rules.specs.Verdicts.{accepted, refuses, first, framing_checks, short_verdict, lack_verdict, items}
use Rattle.rules.specs.Answers.{reading_of}
use Rattle.rules.specs.Emitting.{amply, accepted_whole}
use Rattle.rules.specs.declared.Verdict.{Verdict}
use Rattle.rules.specs.declared.Reading.{Reading}
use Rattle.rules.proofs.Checks.{first_append}
use Rattle.rules.proofs.Readings.{refusal_is}
use Rattle.emitted.proofs.Refusals.{judged-roomy}

-- the first of two refuses where one does
either : (a c : Verdict) → refuses (first (a ∷ c ∷ [])) ≡ cond (refuses a) true (refuses c)
unfolding first
either a c = go (refuses a) (refuses c) refl refl
  where
    go : (p q : Bool) → refuses a ≡ p → refuses c ≡ q → refuses (cond p a (cond q c accepted)) ≡ cond p true q
    go true q e f = e
    go false true e f = f
    go false false e f = refl

joined : (a c : Verdict) (p : Bool) → refuses a ≡ p → refuses (cond p a c) ≡ cond p true (refuses c)
joined a c true e = e
joined a c false e = refl

module _ (k : ℕ) (m : List ℕ) where
  abbrev framing : Verdict
  framing = first (framing_checks book k m)

  abbrev late : Verdict
  late = first (short_verdict (items book k m) ∷ lack_verdict book k (body_level book m) (items book k m) ∷ [])

  amply-by : refuses (amply book k m) ≡ cond (refuses framing) true (refuses late)
  amply-by =
      ap refuses (judged-roomy book k m (used (length (items book k m))) (λ e. omega arith) ∙ first_append (framing_checks book k m) _)
      ∙ joined framing late (refuses framing) refl

  module _ (r : Reading) (e : r ≡ reading_of book k m) (v : Verdict) (w : v ≡ first (r.refusal ∷ first (r.short ∷ r.lack ∷ []) ∷ [])) where
    late_by : refuses framing ≡ false → first (r.short ∷ r.lack ∷ []) ≡ late
    unfolding reading_of
    late_by z = rw (e, z)

    refuses-same : refuses v ≡ refuses (amply book k m)
    refuses-same =
        ap refuses w ∙ either r.refusal (first (r.short ∷ r.lack ∷ []))
        ∙ ap (λ (x : Verdict). cond (refuses x) true (refuses (first (r.short ∷ r.lack ∷ [])))) (ap (λ (x : Reading). x.refusal) e ∙ refusal_is book k m)
        ∙ go (refuses framing) refl
        ∙ sym amply-by
      where
        go : (c : Bool) → refuses framing ≡ c → cond c true (refuses (first (r.short ∷ r.lack ∷ []))) ≡ cond c true (refuses late)
        go true z = refl
        go false z = ap refuses (late_by z)

    open_framing : refuses (amply book k m) ≡ false → refuses framing ≡ false
    open_framing z = go (refuses framing) (sym amply-by ∙ z)
      where
        go : (c : Bool) → cond c true (refuses late) ≡ false → c ≡ false
        go true y = y
        go false y = refl

    counts : refuses framing ≡ false → eqb r.kept r.rows ≡ eqb (kept_rows (items book k m)) (length (items book k m))
    unfolding reading_of
    counts z = rw (e, z)

    pub not-whole : (v.code ≡ 0 → ⊥) → false ≡ accepted_whole book k m
    not-whole z = rw (← refuses-same, lt-ltb 0 v.code (pos_of_ne-zero z))

    pub whole-counts : v.code ≡ 0 → eqb r.kept r.rows ≡ accepted_whole book k m
    whole-counts z =
        let y : refuses (amply book k m) ≡ false = sym refuses-same ∙ le-ltb 0 v.code (omega arith) in
        rw y (counts (open_framing y))
