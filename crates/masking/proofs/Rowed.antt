-- The numbers of the scratch are those of the elements, so that clearing by them clears the elements. Assumes nothing.
--     number_is   number c of row i is number c of the element's row          clear-is    the rows cleared are the elements cleared
--     within-is   the rows have types, and values within the copy
use mathlib.Core.Path.{◌≡◌, refl, ap, ◌∙◌}
use mathlib.Core.List.{List, [], ◌∷◌, ◌++◌}
use Prim.Native.Nat.{ℕ, zero, suc, ◌+◌, ◌*◌, ◌≤◌, ◌<◌}
use native.Mathlib.Omega.{arith}
use lib.ListN.{length, take, get_or, length-append, get_or-append}
use lib.Seq.{take-suc, take-length}
use Rattle.rules.specs.Sizes.{largest_message, row_numbers}
use Rattle.rules.specs.Standing.{Item}
use Rattle.rules.specs.Table.{row, rows_of, laid, no_item, nth}
use Rattle.rules.specs.Covered.{cleared, clear_all}
use Rattle.rules.proofs.Frames.{all-filled}
use Rattle.rules.proofs.Unseen.{Shown}
use Rattle.rules.proofs.Rows.{rows-length, in_rows, Every, every-at, Fits}
use Rattle.masking.specs.Clearing.{number, cleared_row, cleared_rows, Within}

clear-snoc : (copy : List ℕ) (is : List Item) (i : Item) → clear_all copy (is ++ (i ∷ [])) ≡ cleared (clear_all copy is) i
unfolding clear_all
clear-snoc copy [] i = refl
clear-snoc copy (j ∷ is) i = clear-snoc (cleared copy j) is i

module _ (is : List Item) (scratch rows : List ℕ) (e : rows ≡ laid (rows_of is) scratch) where
  pub number_is : (i c : ℕ) → i < length is → c < row_numbers → number rows i c ≡ get_or (row (nth is i)) c 0
  unfolding laid
  number_is i c l h =
      let n = rows-length is in
      rw e (get_or-append (rows_of is) _ 0 (row_numbers * i + c) (omega arith) ∙ in_rows is i c l h)

module _ (m : List ℕ) (is : List Item) (scratch rows : List ℕ) (e : rows ≡ laid (rows_of is) scratch) (show : Every (Shown m) is) where
  row-cleared : (i : ℕ) (copy : List ℕ) → i < length is → cleared_row rows m i copy ≡ cleared copy (nth is i)
  unfolding cleared_row
  row-cleared i copy l =
      let at = number_is is scratch rows e i in
      rw (at 1 l (omega arith), at 3 l (omega arith), at 4 l (omega arith), at 5 l (omega arith), (every-at (Shown m) is show i l).hidden)

  cleared-take : (copy : List ℕ) (n : ℕ) → n ≤ length is → cleared_rows rows m n copy ≡ clear_all copy (take n is)
  unfolding cleared_rows clear_all
  cleared-take copy zero l = refl
  cleared-take copy (suc n) l =
      rw (take-suc is n no_item (omega arith), clear-snoc copy (take n is) (nth is n), cleared-take copy n (omega arith))
      (row-cleared n (clear_all copy (take n is)) (omega arith))

  pub clear-is : (copy : List ℕ) → cleared_rows rows m (length is) copy ≡ clear_all copy is
  clear-is copy = cleared-take copy (length is) (omega arith) ∙ rw take-length

  -- rows of a message that fits in the copy
  pub within-is : (n room : ℕ) → length m ≤ largest_message → Every (Fits n (length m)) is → length m ≤ room → Within rows m (length is) room
  unfolding laid
  within-is n room few f w i l =
      let x = every-at (Fits n (length m)) is f i l in
      let at = number_is is scratch rows e i in
      record {
        long = omega (arith, rows-length is, simp length-append at (ap length e));
        typ = rw (at 1 l (omega arith)) x.typ;
        ends = rw (at 3 l (omega arith), at 4 l (omega arith)) (omega (arith, x.ends));
        sent = rw (at 3 l (omega arith), at 4 l (omega arith)) x.ends;
        few = few;
        fills = rw (at 3 l (omega arith), at 4 l (omega arith), at 5 l (omega arith)) (λ z. all-filled ((every-at (Shown m) is show i l).fills z));
      }
