-- Every answer of the judge is acceptance or has one of its numbers: no check applies, or one is the first, and that one has its number. Assumes nothing.
use mathlib.Core.Path.{◌≡◌, refl}
use mathlib.Core.Logic.{◌⊎◌, inl, inr}
use mathlib.Core.Bool.{Bool, true, false, ◌||◌}
use mathlib.Core.List.{List, [], ◌∷◌}
use Prim.Native.Nat.{ℕ, zero, suc, ◌<◌}
use native.Mathlib.Omega.{arith}
use borrow.Author.Tests.{eq-eqb}
use lib.Dec.{eqb}
use lib.ListN.{length, get_or}
use Rattle.rules.specs.Types.{among}
use Rattle.rules.specs.Listings.{book}
use Rattle.rules.specs.Verdicts.{accepted, refuses, header_checks, framing_checks, judge_checks, judge_verdict, judge_numbers}
use Rattle.rules.specs.declared.Verdict.{Verdict}
use Rattle.rules.proofs.Checks.{AllPass, first-pass, OwnCase}
use Rattle.rules.proofs.Header.{judge_case}

-- acceptance, or one of the numbers
abbrev pub OneOf : List ℕ → Verdict → Type 0
OneOf ns v = (v ≡ accepted) ⊎ (among v.code ns ≡ true)

-- no check applies, or one is the first that does
first-own : (vs : List Verdict) → AllPass vs ⊎ ((j : ℕ) × (j < length vs) × OwnCase vs j)
unfolding AllPass
first-own [] = inl tt
first-own (v ∷ vs) = go (refuses v) refl (first-own vs)
  where
    go : (r : Bool) → refuses v ≡ r → AllPass vs ⊎ ((j : ℕ) × (j < length vs) × OwnCase vs j) → AllPass (v ∷ vs) ⊎ ((j : ℕ) × (j < length (v ∷ vs)) × OwnCase (v ∷ vs) j)
    go true e x = inr (0, omega arith, record { applies = e; none_before = λ i l. absurd (omega arith) })
    go false e (inl a) = inl (e, a)
    go false e (inr x) = inr (suc x.0, omega (arith, x.1), record { applies = x.2.applies; none_before = before })
      where
        before : (i : ℕ) → i < suc x.0 → refuses (get_or (v ∷ vs) i accepted) ≡ false
        before zero l = e
        before (suc i) l = x.2.none_before i (omega arith)

number-among : (ns : List ℕ) (j : ℕ) → j < length ns → among (get_or ns j 0) ns ≡ true
number-among [] j l = absurd (omega arith)
number-among (n ∷ ns) zero l = rw (eq-eqb n n refl)
number-among (n ∷ ns) (suc j) l = right (eqb (get_or ns j 0) n) (number-among ns j (omega arith))
  where
    right : (a : Bool) {c : Bool} → c ≡ true → a || c ≡ true
    right true e = refl
    right false e = e

many : (k : ℕ) (m : List ℕ) (room : ℕ) → length (judge_checks book k m room) ≡ length judge_numbers
unfolding judge_checks framing_checks header_checks
many k m room = refl

pub judge_one-of : (k : ℕ) (m : List ℕ) (room : ℕ) → OneOf judge_numbers (judge_verdict book k m room)
judge_one-of k m room = go (first-own (judge_checks book k m room))
  where
    go : AllPass (judge_checks book k m room) ⊎ ((j : ℕ) × (j < length (judge_checks book k m room)) × OwnCase (judge_checks book k m room) j) → OneOf judge_numbers (judge_verdict book k m room)
    go (inl a) = inl (first-pass (judge_checks book k m room) a)
    go (inr x) = let l : x.0 < length judge_numbers = omega (arith, x.1, many k m room) in inr (rw ((judge_case book k m room x.0 l).1 x.2) (number-among judge_numbers x.0 l))
