-- What is settled: a refusal by the reading, 13, or the copy. Assumes nothing.
use mathlib.Core.Path.{◌≡◌, refl, ◌∙◌}
use mathlib.Core.Bool.{Bool, true, false, cond}
use mathlib.Core.List.{List, [], ◌∷◌}
use Prim.Native.Nat.{ℕ, zero, suc, ◌≤◌, ◌<◌}
use native.Mathlib.Omega.{arith}
use borrow.Author.Tests.{lt-ltb, le-ltb, ltb-false}
use lib.Dec.{ltb}
use lib.ListN.{length}
use Rattle.rules.specs.Framing.{header_length}
use Rattle.rules.specs.Verdicts.{accepted, refused, check, refuses, first}
use Rattle.rules.specs.declared.Verdict.{Verdict}
use Rattle.rules.specs.declared.Reading.{Reading}
use Rattle.rules.specs.declared.Sent.{Sent}
use Rattle.rules.proofs.Checks.{AllPass, all_pass}
use Rattle.emitting.specs.Emits.{put_rows}
use Rattle.cleaning.specs.Cleaning.{size, front_octets, copy_of, room_check, Copied, Settled}

-- ---- the copy

module _ (count : ℕ) (rows m out : List ℕ) (n : ℕ) (s : n ≡ size count rows m) where
  pub by-room : length out < n → (v : Verdict) → v ≡ refused 13 0 → Copied count rows m out (record { verdict = v; length = 0 }) out
  unfolding check
  by-room l v e =
      let t : ltb (length out) (size count rows m) ≡ true = lt-ltb (length out) (size count rows m) (omega (arith, s)) in
      record { verdict_is = rw t e; length_is = rw t; out_left = rw t }

  pub by_rows : n ≤ length out → (v : Verdict) → v ≡ accepted → (out' : List ℕ) → out' ≡ copy_of count rows m out
      → Copied count rows m out (record { verdict = v; length = n }) out'
  unfolding check
  by_rows l v e out' q =
      let t : ltb (length out) (size count rows m) ≡ false = le-ltb (length out) (size count rows m) (omega (arith, s)) in
      record { verdict_is = rw t e; length_is = rw t s; out_left = rw t q }

-- the header with the size of the copy, then the rows
pub copied : (count : ℕ) (rows m out : List ℕ) {front : List ℕ} {at n : ℕ} → at ≡ header_length m → n ≡ size count rows m → front ≡ front_octets m at n out
    → put_rows rows count m true front at ≡ copy_of count rows m out
copied count rows m out e f h = rw (h, e, f)

-- ---- by a reading

-- the first of three, with one more check after them
firsts : (a c d x : Verdict) → first (a ∷ c ∷ d ∷ x ∷ []) ≡ cond (refuses (first (a ∷ first (c ∷ d ∷ []) ∷ []))) (first (a ∷ first (c ∷ d ∷ []) ∷ [])) (first (x ∷ []))
unfolding first
firsts a c d x = go (refuses a) (refuses c) (refuses d) refl refl refl
  where
    go : (p q r : Bool) → refuses a ≡ p → refuses c ≡ q → refuses d ≡ r
        → cond p a (cond q c (cond r d (cond (refuses x) x accepted)))
        ≡ cond (refuses (cond p a (cond (refuses (cond q c (cond r d accepted))) (cond q c (cond r d accepted)) accepted)))
        (cond p a (cond (refuses (cond q c (cond r d accepted))) (cond q c (cond r d accepted)) accepted)) (cond (refuses x) x accepted)
    go true q r e f g = rw e
    go false true r e f g = rw (f, f)
    go false false true e f g = rw (g, g)
    go false false false e f g = refl

last : (x : Bool) (v : Verdict) → first (check x (refused 13 0) ∷ []) ≡ check x (refused 13 0)
unfolding first check
last true v = refl
last false v = refl

module _ (r : Reading) (rows m out : List ℕ) (v : Verdict) (e : v ≡ first (r.refusal ∷ first (r.short ∷ r.lack ∷ []) ∷ [])) where
  abbrev late : Verdict
  late = room_check r.rows rows m out

  verdict-by : first (r.refusal ∷ r.short ∷ r.lack ∷ late ∷ []) ≡ cond (refuses v) v late
  verdict-by = rw e (firsts r.refusal r.short r.lack late ∙ rw (last (ltb (length out) (size r.rows rows m)) v))

  pub by-refusal : refuses v ≡ true → Settled r rows m out (record { verdict = v; length = 0 }) out
  by-refusal z = rw (verdict-by, z) (record { verdict_is = refl; length_is = rw z; out_left = rw z })

  pub by_copy : refuses v ≡ false → {s : Sent} {out' : List ℕ} → Copied r.rows rows m out s out' → Settled r rows m out s out'
  by_copy z c = rw (verdict-by, z) c

  -- it was not refused by 1 to 9
  pub passes : refuses v ≡ false → r.refusal.code ≡ 0
  unfolding AllPass
  passes z =
      let a = (all_pass (r.refusal ∷ first (r.short ∷ r.lack ∷ []) ∷ [])).0 (rw (← e) z) in
      none r.refusal.code a.0
    where
      none : (n : ℕ) → ltb 0 n ≡ false → n ≡ 0
      none zero f = refl
      none (suc n) f = absurd (omega (arith, ltb-false 0 (suc n) f))
