-- Clearing by a scratch with room for the rows that a reading counted makes the masked copy. Assumes nothing.
--     masks   those rows are there, and lie in a copy that is long enough        masked-is   cleared by them, the message is its masked copy
use mathlib.Core.Path.{◌≡◌, sym, ap, ◌∙◌}
use mathlib.Core.Bool.{false}
use mathlib.Core.List.{List}
use Prim.Native.Nat.{ℕ, ◌+◌, ◌*◌, ◌≤◌}
use native.Mathlib.Omega.{arith}
use lib.ListN.{length, drop, length-drop}
use Rattle.rules.specs.Sizes.{row_numbers}
use Rattle.rules.specs.Framing.{header_length}
use Rattle.rules.specs.Listings.{book}
use Rattle.rules.specs.Standing.{Item, value_end}
use Rattle.rules.specs.Taking.{whole, taken}
use Rattle.rules.specs.Table.{rows_of, laid}
use Rattle.rules.specs.Verdicts.{refuses, first, framing_checks, items}
use Rattle.rules.specs.Covered.{clear_all, masked}
use Rattle.rules.specs.Answers.{Read}
use Rattle.rules.specs.declared.Verdict.{Verdict}
use Rattle.rules.specs.declared.Reading.{Reading}
use Rattle.rules.proofs.Header.{Passed, framed}
use Rattle.rules.proofs.Readings.{count_is, all_laid}
use Rattle.rules.proofs.Book.{book-sound}
use Rattle.rules.proofs.Frames.{span}
use Rattle.rules.proofs.Unseen.{Shown, shown-holds, rows-shown}
use Rattle.rules.proofs.Rows.{Octets, octets-drop, Every, every_map, Fits, all_fit, body-met}
use Rattle.masking.specs.Clearing.{cleared_rows, Masks}
use Rattle.masking.proofs.Rowed.{clear-is, within-is}
use Rattle.masking.proofs.Laying.{clear-laid}

module _ (k : ℕ) (m : List ℕ) {rows rows' : List ℕ} {r : Reading} (read : Read k m rows r rows') where
  abbrev framing : Verdict
  framing = first (framing_checks book k m)

  module _ (octets : Octets m) (held : row_numbers * r.rows ≤ length rows) where
    module _ (pass : refuses framing ≡ false) where
      -- the elements, all of which are taken
      all : Passed book k m × ((is : List Item) × (taken book k m ≡ whole is))
      all = framed book k m pass

      abbrev is : List Item
      is = all.1.0

      items_are : items book k m ≡ is
      items_are = rw all.1.1

      rows_is : r.rows ≡ length is
      rows_is = ap (λ (x : Reading). x.rows) read.answers ∙ count_is book k m pass ∙ ap length items_are

      scratch_is : rows' ≡ laid (rows_of is) rows
      scratch_is = read.rows_left ∙ all_laid book k m pass rows (rw read.answers at held) ∙ ap (λ (js : List Item). laid (rows_of js) rows) items_are

      fit : Every (Fits (0 + length is) (length m)) is
      fit =
          let e : header_length m + length (drop (header_length m) m) ≡ length m = omega (arith, length-drop (header_length m) m, all.0.has_header) in
          rw e at (all_fit (body-met book k m is all.1.1) (octets-drop (header_length m) m octets) (omega arith))

      show : Every (Shown m) is
      show = rows-shown book book-sound k m is all.1.1 all.0.has_header

      cleared-is : (copy : List ℕ) → cleared_rows rows' m r.rows (laid m copy) ≡ laid (clear_all m is) copy
      cleared-is copy =
          let ends = every_map (Fits (0 + length is) (length m)) (λ i. value_end i ≤ length m) is (λ i x. x.ends) fit in
          let holds = every_map (Shown m) (λ i. span i.hidden ≤ i.len) is (λ i x. shown-holds x) show in
          ap (λ (n : ℕ). cleared_rows rows' m n (laid m copy)) rows_is ∙ clear-is m is rows rows' scratch_is show (laid m copy) ∙ clear-laid m copy is ends holds

    pub masks : refuses framing ≡ false → (room : ℕ) → length m ≤ room → Masks rows' m r.rows room
    masks p room l = record { within = rw (rows_is p) (within-is m (is p) rows rows' (scratch_is p) (show p) (0 + length (is p)) room (all p).0.most (fit p) l); long = l }

    pub masked-is : refuses framing ≡ false → (copy : List ℕ) → cleared_rows rows' m r.rows (laid m copy) ≡ laid (masked book k m) copy
    unfolding masked
    masked-is p copy = cleared-is p copy ∙ ap (λ (js : List Item). laid (clear_all m js) copy) (sym (items_are p))
