-- What leaves all as it was lent, on a reading, is what the rules say: 1 to 9, then 13, then 10. Where none of them applies the rest is 11 and 12. Assumes nothing.
--     lent_is   on a reading          call_lent   the call's verdict by it          lent-passes   what is known where it refuses nothing
use mathlib.Core.Path.{◌≡◌, refl, sym, ap, ◌∙◌}
use mathlib.Core.Bool.{Bool, true, false, cond}
use mathlib.Core.List.{List, [], ◌∷◌, append_assoc}
use Prim.Native.Nat.{ℕ, ◌≤◌}
use borrow.Author.Tests.{ltb-false}
use lib.Dec.{ltb}
use lib.ListN.{length}
use Rattle.rules.specs.Sizes.{used}
use Rattle.rules.specs.Listings.{book}
use Rattle.rules.specs.Taking.{body_level}
use Rattle.rules.specs.Verdicts.{refused, refuses, first, framing_checks, items, copy_check, room_check, short_verdict, lack_verdict, lent_checks, call_checks, call_verdict}
use Rattle.rules.specs.Answers.{reading_of, Read}
use Rattle.rules.specs.declared.Verdict.{Verdict}
use Rattle.rules.specs.declared.Reading.{Reading}
use Rattle.rules.proofs.Checks.{first_append, both-pass, check-off, AllPass, all_pass}
use Rattle.calling.specs.Calling.{lent_on}

module _ (k : ℕ) (m : List ℕ) (octets room : ℕ) where
  abbrev lent : Verdict
  lent = first (lent_checks book k m octets room)

  lent-first : lent ≡ cond (refuses (first (framing_checks book k m))) (first (framing_checks book k m)) (first (copy_check book k m octets ∷ room_check book k m room ∷ []))
  unfolding lent_checks
  lent-first = first_append (framing_checks book k m) (copy_check book k m octets ∷ room_check book k m room ∷ [])

  on_reading : (c : Bool) → refuses (first (framing_checks book k m)) ≡ c → lent_on (reading_of book k m) (length m) octets room ≡ lent
  unfolding lent_on reading_of first
  on_reading true e = rw e (sym (lent-first ∙ rw e))
  on_reading false e = rw e (sym (lent-first ∙ rw e))

  pub lent_is : {rows rows' : List ℕ} {r : Reading} → Read k m rows r rows' → lent_on r (length m) octets room ≡ lent
  lent_is x = rw x.answers (on_reading (refuses (first (framing_checks book k m))) refl)

  abbrev rest : List Verdict
  rest = short_verdict (items book k m) ∷ lack_verdict book k (body_level book m) (items book k m) ∷ []

  pub call_lent : call_verdict book k m octets room ≡ cond (refuses lent) lent (first rest)
  unfolding call_checks lent_checks
  call_lent =
      ap first (sym (append_assoc (framing_checks book k m) (copy_check book k m octets ∷ room_check book k m room ∷ []) rest))
      ∙ first_append (lent_checks book k m octets room) rest

  -- 1 to 9 pass, and copy and table have room
  pub lent-passes : refuses lent ≡ false → (refuses (first (framing_checks book k m)) ≡ false) × (length m ≤ octets) × (used (length (items book k m)) ≤ room)
  unfolding lent_checks AllPass
  lent-passes e =
      let b = both-pass (framing_checks book k m) (copy_check book k m octets ∷ room_check book k m room ∷ []) e in
      let a = (all_pass (copy_check book k m octets ∷ room_check book k m room ∷ [])).0 b.1 in (
        b.0,
        ltb-false _ _ (sym (check-off (ltb octets (length m)) (refused 13 0) refl) ∙ a.0),
        ltb-false _ _ (sym (check-off (ltb room (used (length (items book k m)))) (refused 10 0) refl) ∙ a.1.0),
      )
