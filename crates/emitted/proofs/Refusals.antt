-- The cleaned copy is refused as the judge refuses with room for any table, and then by 13 alone: the checks are the judge's, but for 10, which such a table
-- never meets. Assumes nothing.
--     as_judged        the verdict, by the judge's
--     clean-judged     what is not refused, the judge accepts        clean-fits   and the buffer holds it
--     clean-most       the length is at most 4,096
use mathlib.Core.Path.{◌≡◌, refl, sym, ap, ◌∙◌}
use mathlib.Core.Bool.{Bool, true, false, cond}
use mathlib.Core.List.{List, [], ◌∷◌, ◌++◌, append_assoc}
use Prim.Native.Nat.{ℕ, ◌≤◌}
use native.Mathlib.Omega.{arith}
use borrow.Author.Tests.{le-ltb, ltb-false}
use lib.Dec.{ltb}
use lib.ListN.{length}
use Rattle.rules.specs.Sizes.{largest_message, most_rows, used}
use Rattle.rules.specs.Listings.{Book}
use Rattle.rules.specs.Taking.{body_level}
use Rattle.rules.specs.Verdicts.{accepted, refused, check, refuses, first, framing_checks, table_checks, short_verdict, lack_verdict, items, judge_checks, judge_verdict}
use Rattle.rules.specs.Emitting.{amply}
use Rattle.rules.specs.Cleaned.{cleaned, is_too_short, clean_checks, clean_verdict, clean_length}
use Rattle.rules.specs.Sound.{sound}
use Rattle.rules.specs.declared.Verdict.{Verdict}
use Rattle.rules.proofs.Checks.{first_append, check-off, AllPass, all_pass}
use Rattle.rules.proofs.Header.{framed}
use Rattle.rules.proofs.Rows.{few-rows}
use Rattle.emitted.proofs.Wholes.{amply-accepted}
use Rattle.emitted.proofs.Cleaning.{clean_shorter}

module _ (b : Book) (k : ℕ) (m : List ℕ) where
  abbrev framing : Verdict
  framing = first (framing_checks b k m)

  abbrev late : List Verdict
  late = short_verdict (items b k m) ∷ lack_verdict b k (body_level b m) (items b k m) ∷ []

  -- the judge's verdict with a table that has room where 1 to 9 pass
  pub judged-roomy : (big : ℕ) → (refuses framing ≡ false → used (length (items b k m)) ≤ big) → judge_verdict b k m big ≡ first (framing_checks b k m ++ late)
  unfolding judge_checks first check
  judged-roomy big l = first_append (framing_checks b k m) (table_checks b k m big) ∙ go (refuses framing) refl ∙ sym (first_append (framing_checks b k m) late)
    where
      go : (c : Bool) → refuses framing ≡ c → cond c framing (first (table_checks b k m big)) ≡ cond c framing (first late)
      go true e = refl
      go false e = rw (le-ltb big (used (length (items b k m))) (l e))

  -- one for 1,022 rows has
  pub judged_largely : (big : ℕ) → used most_rows ≤ big → judge_verdict b k m big ≡ first (framing_checks b k m ++ late)
  judged_largely big l = judged-roomy big (λ e.
      let x = framed b k m e in
      let few : length (items b k m) ≤ most_rows = rw x.1.1 (few-rows b k m x.1.0 x.1.1 x.0.most) in
      omega (arith, l, few))

  pub amply_largely : (big : ℕ) → used most_rows ≤ big → judge_verdict b k m big ≡ amply b k m
  amply_largely big l = judged_largely big l ∙ sym (judged-roomy (used (length (items b k m))) (λ e. omega arith))

  -- so what is accepted with some table is accepted with any that has room
  pub amply-roomy : (big : ℕ) → used (length (items b k m)) ≤ big → judge_verdict b k m big ≡ amply b k m
  amply-roomy big l = judged-roomy big (λ e. l) ∙ sym (judged-roomy (used (length (items b k m))) (λ e. omega arith))

  one_more : (vs : List Verdict) (x : Verdict) → first (vs ++ (x ∷ [])) ≡ first (first vs ∷ x ∷ [])
  unfolding first
  one_more vs x = first_append vs (x ∷ [])

  pub as_judged : (room big : ℕ) → used most_rows ≤ big → clean_verdict b k m room ≡ first (judge_verdict b k m big ∷ is_too_short b k m room ∷ [])
  unfolding clean_checks
  as_judged room big l =
      rw (judged_largely big l)
      (ap first (sym (append_assoc (framing_checks b k m) late (is_too_short b k m room ∷ []))) ∙ one_more (framing_checks b k m ++ late) (is_too_short b k m room))

  -- none refuses exactly where the judge accepts, and there is room
  pub clean-judged : (room big : ℕ) → used most_rows ≤ big → refuses (clean_verdict b k m room) ≡ false → refuses (judge_verdict b k m big) ≡ false
  unfolding AllPass
  clean-judged room big l e = ((all_pass (judge_verdict b k m big ∷ is_too_short b k m room ∷ [])).0 (rw (as_judged room big l) at e)).0

  pub clean-fits : (room : ℕ) → refuses (clean_verdict b k m room) ≡ false → length (cleaned b k m) ≤ room
  unfolding AllPass
  clean-fits room e =
      let a = (all_pass (judge_verdict b k m (used most_rows) ∷ is_too_short b k m room ∷ [])).0 (rw (as_judged room (used most_rows) (omega arith)) at e) in
      omega (arith, ltb-false room (length (cleaned b k m)) (sym (check-off (ltb room (length (cleaned b k m))) (refused 13 0) refl) ∙ a.1.0))

  pub judged-clean : (room big : ℕ) → used most_rows ≤ big → refuses (judge_verdict b k m big) ≡ false → length (cleaned b k m) ≤ room → clean_verdict b k m room ≡ accepted
  unfolding first check
  judged-clean room big l e f = as_judged room big l ∙ rw (e, le-ltb room (length (cleaned b k m)) f)

  -- as the judge with a table of just the room needed
  pub clean-amply : (room : ℕ) → refuses (clean_verdict b k m room) ≡ false → refuses (amply b k m) ≡ false
  clean-amply room e =
      rw (judged-roomy (used (length (items b k m))) (λ f. omega arith), ← judged_largely (used most_rows) (omega arith)) (clean-judged room (used most_rows) (omega arith) e)

-- what is written is never longer than a message can be
pub clean-most : (b : Book) → sound b ≡ true → (k : ℕ) (m : List ℕ) (room : ℕ) → clean_length b k m room ≤ largest_message
unfolding clean_length
clean-most b fine k m room = go (refuses (clean_verdict b k m room)) refl
  where
    go : (c : Bool) → refuses (clean_verdict b k m room) ≡ c → cond c 0 (length (cleaned b k m)) ≤ largest_message
    go true e = (omega arith)
    go false e =
        let ok = clean-amply b k m room e in
        omega (arith, clean_shorter b fine k m ok, (amply-accepted b k m ok).1.passed.most)
