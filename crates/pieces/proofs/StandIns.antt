-- Calls that only look like those of the pieces form are turned down, each by what one of them does in one run on kind 1 with a table of 25 numbers. Assumes nothing.
use mathlib.Core.Path.{◌≡◌, refl, sym, ap, ◌∙◌}
use mathlib.Core.Logic.{◌≢◌}
use mathlib.Core.Bool.{Bool, true, false, ◌&&◌}
use mathlib.Core.List.{List, [], ◌∷◌}
use Prim.Native.Nat.{ℕ, zero, suc, ◌<◌}
use native.Mathlib.Omega.{arith}
use borrow.Author.Tests.{ltb-true}
use lib.Dec.{ltb}
use lib.ListN.{length, get_or, take, replicate}
use Rattle.rules.specs.Framing.{octet, version, flag_p, flag_t, message_type, length_field, header_length, head_of}
use Rattle.rules.specs.Types.{parteds, least_by_type, least_of}
use Rattle.rules.specs.Listings.{levels, messages, book, seek, seek_message, listing, message_of, is_message}
use Rattle.rules.specs.Frames.{seen, filled_by, frames_by, frames_of, tally, exceeds}
use Rattle.rules.specs.Standing.{is_short, mark_after, standing, marked, entered, item_of}
use Rattle.rules.specs.Taking.{run, walk, items_of, body_level, taken}
use Rattle.rules.specs.Verdicts.{accepted, refused, refused_at, check, first, short_checks, has_kept, level_checks, group_checks, lack_checks, header_checks, framing_checks, judge_checks, judge_verdict}
use Rattle.rules.specs.Examples.{message_d}
use Rattle.rules.specs.declared.Verdict.{Verdict}
use Rattle.rules.proofs.Rows.{Octets}
use Rattle.pieces.specs.declared.Pieces.{Pieces}
use Rattle.pieces.specs.declared.Told.{Told}
use Rattle.pieces.specs.Feeding.{joined_parts}
use Rattle.pieces.specs.Answers.{Parted, Ended}
use Rattle.pieces.proofs.Promised.{Runs, by_end, run-right, promised, part-answers-nothing, zero-refused, over-part}

-- every number is an octet
unfoldable below : List ℕ → Bool
below [] = true
below (x ∷ xs) = ltb x 256 && below xs

octets-by : (xs : List ℕ) → below xs ≡ true → Octets xs
unfolding below
octets-by [] e j = omega arith
octets-by (x ∷ xs) e j = go (ltb x 256) refl e (octets-by xs) j
  where
    go : (c : Bool) → ltb x 256 ≡ c → c && below xs ≡ true → (below xs ≡ true → Octets xs) → (j : ℕ) → octet (x ∷ xs) j < 256
    go true u f rest zero = ltb-true _ _ u
    go true u f rest (suc j) = rest f j
    go false u f rest j = let y : ◌≡◌ {A = ℕ} 0 1 = cc in absurd (omega arith)

-- D with one octet more, which its length counts: its element is taken, and then it is cut
abbrev pub cut_d : List ℕ
cut_d = 0x40 ∷ 0x01 ∷ 0x00 ∷ 0x0A ∷ 0x00 ∷ 0x00 ∷ 0x01 ∷ 0x00 ∷ 0x03 ∷ 0x00 ∷ 0x01 ∷ 0x00 ∷ 0x07 ∷ 0x03 ∷ []

accepts_d : judge_verdict book 1 message_d 25 ≡ accepted
unfolding version flag_p flag_t message_type length_field header_length head_of parteds least_by_type least_of levels messages book seek seek_message listing message_of is_message is_short mark_after standing marked entered item_of run walk items_of body_level taken check first short_checks has_kept level_checks group_checks lack_checks header_checks framing_checks judge_checks seen filled_by frames_by frames_of tally exceeds
accepts_d = refl

refuses-short : (judge_verdict book 1 (take 12 message_d) 25).code ≡ 6
unfolding version flag_p flag_t message_type length_field header_length head_of parteds least_by_type least_of levels messages book seek seek_message listing message_of is_message is_short mark_after standing marked entered item_of run walk items_of body_level taken check first short_checks has_kept level_checks group_checks lack_checks header_checks framing_checks judge_checks seen filled_by frames_by frames_of tally exceeds
refuses-short = refl

refuses-cut : judge_verdict book 1 cut_d 25 ≡ refused_at 9 67 13 0 0
unfolding version flag_p flag_t message_type length_field header_length head_of parteds least_by_type least_of levels messages book seek seek_message listing message_of is_message is_short mark_after standing marked entered item_of run walk items_of body_level taken check first short_checks has_kept level_checks group_checks lack_checks header_checks framing_checks judge_checks seen filled_by frames_by frames_of tally exceeds
refuses-cut = refl

module _ {ps : List (List ℕ)} {p : Pieces} {t : List ℕ} (ran : Runs 1 25 ps p t) where
  -- a part that answers 3 at the first wrong octet
  pub answers-early : (r : Told) (t' : List ℕ) → Parted p (0x00 ∷ []) t r t' → r.verdict ≡ refused 3 0 → ⊥
  answers-early r t' c e = omega (arith, ap (λ (v : Verdict). v.code) (sym e ∙ part-answers-nothing ran (0x00 ∷ []) r t' c))

  -- one that forgets the last octet of a part: D is judged as if it were shorter
  pub forgets_last : joined_parts ps ≡ message_d → (r : Told) (t' : List ℕ) → Ended p t r t' → r.verdict ≡ judge_verdict book 1 (take 12 message_d) 25 → ⊥
  unfolding below
  forgets_last d r t' c e =
      let oct : Octets (joined_parts ps) = rw d (octets-by message_d refl) in
      let a : r.verdict ≡ accepted = (promised ran oct r t' c).0 ∙ rw d accepts_d in
      omega (arith, refuses-short, ap (λ (v : Verdict). v.code) (sym a ∙ e))

  -- an end that leaves the row of D's element in the table (its type, 3), though it gives 9
  pub leaves-rows : joined_parts ps ≡ cut_d → (r : Told) (t' : List ℕ) → Ended p t r t' → get_or t' 7 0 ≡ 3 → ⊥
  unfolding below
  leaves-rows d r t' c e =
      let oct : Octets (joined_parts ps) = rw d (octets-by cut_d refl) in
      let a : r.verdict ≡ refused_at 9 67 13 0 0 = (promised ran oct r t' c).0 ∙ rw d refuses-cut in
      let n : r.verdict.code ≡ 9 = ap (λ (v : Verdict). v.code) a in
      let z : t' ≡ replicate 25 0 = zero-refused p t r t' c (λ x. omega (arith, x, n)) (λ x. omega (arith, x, n)) ∙ rw (run-right ran).long in
      omega (arith, e, ap (λ (u : List ℕ). get_or u 7 0) z)

  -- a part that is taken after the end
  pub takes-after-end : (r r' : Told) (t' t'' part : List ℕ) → Ended p t r t' → Parted r.state part t' r' t'' → r'.verdict ≡ accepted → ⊥
  takes-after-end r r' t' t'' part c c' e =
      omega (arith, ap (λ (v : Verdict). v.code) (sym e ∙ (over-part r.state part t' r' t'' (by_end ran c) c').verdict))

  -- a count that stops at 4,096, so that 4,097 octets are not 2
  pub stops-counting : length (joined_parts ps) ≡ 4097 → Octets (joined_parts ps) → (r : Told) (t' : List ℕ) → Ended p t r t' → r.verdict.code ≢ 2 → ⊥
  unfolding first check book judge_checks framing_checks header_checks
  stops-counting n oct r t' c e = e (ap (λ (v : Verdict). v.code) (promised ran oct r t' c).0 ∙ rw n)
