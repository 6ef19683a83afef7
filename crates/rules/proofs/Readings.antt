-- What a reading says of the elements, and when the scratch holds all their rows: where the count of rows, which goes on where the scratch
-- is full, fits it. Assumes nothing.
--     refusal_is          its refusal is the first of checks 1 to 9
--     few                 its rows are at most 1,022; rows_are   and are those that are counted
--     count_is, kept_is   its counts, where none of them applies
--     all_laid            with room for so many rows, all of them are in the scratch
use mathlib.Core.Path.{◌≡◌, refl, sym}
use mathlib.Core.Bool.{Bool, true, false}
use mathlib.Core.List.{List, [], ◌∷◌}
use Prim.Native.Nat.{ℕ, ◌*◌, ◌/◌, ◌≤◌}
use native.Mathlib.Omega.{arith}
use lib.ListN.{length}
use lib.Seq.{take_all}
use Rattle.rules.specs.Sizes.{most_rows, row_numbers}
use Rattle.rules.specs.Listings.{Book}
use Rattle.rules.specs.Taking.{taken}
use Rattle.rules.specs.Table.{rows_of, kept_rows, laid}
use Rattle.rules.specs.Verdicts.{refuses, first, cut_check, header_checks, framing_checks, items}
use Rattle.rules.specs.Counting.{count_rows}
use Rattle.rules.specs.Answers.{reading_of, read_items, read_rows}
use Rattle.rules.specs.declared.Verdict.{Verdict}
use Rattle.rules.proofs.Checks.{both-pass, all_pass, first-pass}
use Rattle.rules.proofs.Header.{framed}
use Rattle.rules.proofs.Rows.{few-rows}

module _ (b : Book) (k : ℕ) (m : List ℕ) where
  abbrev framing : Verdict
  framing = first (framing_checks b k m)

  pub refusal_is : (reading_of b k m).refusal ≡ framing
  unfolding reading_of
  refusal_is = go (refuses framing) refl
    where
      go : (c : Bool) → refuses framing ≡ c → (reading_of b k m).refusal ≡ framing
      go true e = rw e
      go false e = rw e (sym (first-pass (framing_checks b k m) ((all_pass (framing_checks b k m)).0 e)))

  pub few : (reading_of b k m).rows ≤ most_rows
  unfolding reading_of
  few = go (refuses framing) refl
    where
      go : (c : Bool) → refuses framing ≡ c → (reading_of b k m).rows ≤ most_rows
      go true e = rw e (omega arith)
      go false e = let x = framed b k m e in rw (e, x.1.1) (few-rows b k m x.1.0 x.1.1 x.0.most)

  -- they are the rows of rule 14
  pub rows_are : (reading_of b k m).rows ≡ count_rows b k m
  unfolding reading_of count_rows
  rows_are = go (refuses framing) refl
    where
      go : (c : Bool) → refuses framing ≡ c → (reading_of b k m).rows ≡ count_rows b k m
      go true e = rw e
      go false e = rw e

  module _ (pass : refuses framing ≡ false) where
    pub count_is : (reading_of b k m).rows ≡ length (items b k m)
    unfolding reading_of
    count_is = rw pass

    pub kept_is : (reading_of b k m).kept ≡ kept_rows (items b k m)
    unfolding reading_of
    kept_is = rw pass

    header-pass : refuses (first (header_checks b k m)) ≡ false
    unfolding framing_checks
    header-pass = (both-pass (header_checks b k m) (cut_check (taken b k m) ∷ []) pass).0

    pub all_laid : (rows : List ℕ) → row_numbers * (reading_of b k m).rows ≤ length rows → read_rows b k m rows ≡ laid (rows_of (items b k m)) rows
    unfolding read_rows read_items
    all_laid rows l =
        let f : length (items b k m) ≤ length rows / row_numbers = omega (arith, count_is) in
        rw (header-pass, take_all (length rows / row_numbers) (items b k m) f)
