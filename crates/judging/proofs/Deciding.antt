-- The verdict on a message's reading is the judge's. Assumes nothing.
use mathlib.Core.Path.{◌≡◌, refl, sym, ◌∙◌}
use mathlib.Core.Bool.{Bool, true, false, cond}
use mathlib.Core.List.{List}
use Prim.Native.Nat.{ℕ}
use Rattle.rules.specs.Listings.{book}
use Rattle.rules.specs.Verdicts.{refuses, first, framing_checks, table_checks, judge_checks, judge_verdict}
use Rattle.rules.specs.Answers.{reading_of, Read}
use Rattle.rules.specs.declared.Reading.{Reading}
use Rattle.rules.proofs.Checks.{first_append}
use Rattle.judging.specs.Judging.{given}

module _ (k : ℕ) (m : List ℕ) where
  -- checks 1 to 9 come first
  framing-first : (room : ℕ) → judge_verdict book k m room ≡ cond (refuses (first (framing_checks book k m))) (first (framing_checks book k m)) (first (table_checks book k m room))
  unfolding judge_checks
  framing-first room = first_append (framing_checks book k m) (table_checks book k m room)

  given_case : (room : ℕ) (c : Bool) → refuses (first (framing_checks book k m)) ≡ c → given (reading_of book k m) room ≡ judge_verdict book k m room
  unfolding given reading_of first
  given_case room true e = rw e (sym (framing-first room ∙ rw e))
  given_case room false e = rw e (sym (framing-first room ∙ rw e))

  pub verdict_is : {rows rows' : List ℕ} (room : ℕ) {r : Reading} → Read k m rows r rows' → given r room ≡ judge_verdict book k m room
  verdict_is room x = rw x.answers (given_case room (refuses (first (framing_checks book k m))) refl)
