-- What a reading says of the scratch where the judge accepts: it has room for the rows, and the table's numbers are there and fit. Assumes nothing.
--     most-rows   rows in any case          ready   on acceptance
use mathlib.Core.Path.{◌≡◌, refl, sym, ap, ◌∙◌}
use mathlib.Core.Bool.{false}
use mathlib.Core.List.{List}
use Prim.Native.Nat.{ℕ, ◌*◌, ◌≤◌}
use native.Mathlib.Omega.{arith}
use borrow.Author.Tests.{ltb-false}
use lib.Dec.{ltb}
use lib.ListN.{length, take, drop, length-append}
use lib.Seq.{take_at}
use Rattle.rules.specs.Sizes.{most_rows, row_numbers, used}
use Rattle.rules.specs.Framing.{message_type}
use Rattle.rules.specs.Listings.{book}
use Rattle.rules.specs.Table.{rows_of, kept_rows, header, table_of, numbers_by, laid}
use Rattle.rules.specs.Verdicts.{refused, refuses, first, framing_checks, table_checks, judge_checks, judge_verdict, items}
use Rattle.rules.specs.Answers.{Read}
use Rattle.rules.specs.declared.Reading.{Reading}
use Rattle.rules.proofs.Checks.{both-pass, check-off, AllPass, all_pass}
use Rattle.rules.proofs.Rows.{rows-length, kept-most}
use Rattle.rules.proofs.Readings.{few, count_is, kept_is, all_laid}

-- the scratch holds what the table of a message takes, which fits in so many numbers
pub record Ready (k : ℕ) (m rows : List ℕ) (room : ℕ) (r : Reading) : Type 0 where
  pub few : r.rows ≤ most_rows
  pub kept_few : r.kept ≤ r.rows
  pub there : row_numbers * r.rows ≤ length rows
  pub fits : used r.rows ≤ room
  pub numbers : numbers_by r.rows r.kept (message_type m) k rows ≡ table_of (message_type m) k (items book k m)

module _ (k : ℕ) (m : List ℕ) {rows rows' : List ℕ} {r : Reading} (x : Read k m rows r rows') where
  pub most-rows : r.rows ≤ most_rows
  most-rows = rw x.answers (few book k m)

  module _ (room : ℕ) (accepts : refuses (judge_verdict book k m room) ≡ false) (held : row_numbers * r.rows ≤ length rows) where
    passes : (refuses (first (framing_checks book k m)) ≡ false) × (refuses (first (table_checks book k m room)) ≡ false)
    unfolding judge_checks
    passes = both-pass (framing_checks book k m) (table_checks book k m room) accepts

    rows_is : r.rows ≡ length (items book k m)
    rows_is = ap (λ (a : Reading). a.rows) x.answers ∙ count_is book k m passes.0

    kept-counted : r.kept ≡ kept_rows (items book k m)
    kept-counted = ap (λ (a : Reading). a.kept) x.answers ∙ kept_is book k m passes.0

    table_fits : used (length (items book k m)) ≤ room
    unfolding AllPass
    table_fits = ltb-false _ _ (sym (check-off (ltb room (used (length (items book k m)))) (refused 10 0) refl) ∙ ((all_pass (table_checks book k m room)).0 passes.1).0)

    scratch_is : rows' ≡ laid (rows_of (items book k m)) rows
    scratch_is = x.rows_left ∙ all_laid book k m passes.0 rows (rw (ap (λ (a : Reading). a.rows) x.answers) at held)

    pub ready : Ready k m rows' room r
    unfolding table_of header laid
    ready =
        let n = rows-length (items book k m) in
        let t : take (row_numbers * length (items book k m)) rows' ≡ rows_of (items book k m) = rw scratch_is (take_at (rows_of (items book k m)) _ _ n) in
        record {
          few = most-rows;
          kept_few = rw (rows_is, kept-counted) (kept-most (items book k m));
          there = rw (scratch_is, rows_is) (omega (arith, n, length-append (rows_of (items book k m)) (drop (length (rows_of (items book k m))) rows)));
          fits = rw rows_is table_fits;
          numbers = rw (rows_is, kept-counted, t);
        }
