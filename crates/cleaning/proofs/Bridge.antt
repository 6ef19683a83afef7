-- The numbers of the scratch are those of the elements: row by row they agree with the rows as they came. Assumes nothing.
--     number_is   number by number         agreeing   row by row
use mathlib.Core.Path.{◌≡◌, sym, ◌∙◌}
use mathlib.Core.Bool.{true}
use mathlib.Core.List.{List}
use Prim.Native.Nat.{ℕ, zero, suc, ◌+◌, ◌-◌, ◌*◌, ◌≤◌, ◌<◌}
use native.Mathlib.Omega.{arith}
use lib.ListN.{length, get_or, take, drop, length-drop, get_or-append}
use lib.Seq.{length-take-le, drop-cons, take-length}
use Rattle.rules.specs.Sizes.{row_numbers}
use Rattle.rules.specs.Standing.{Item, value_place, value_end}
use Rattle.rules.specs.Table.{row, rows_of, laid, no_item, nth}
use Rattle.rules.proofs.Rows.{rows-length, in_rows}
use Rattle.rules.specs.Cleaned.{received, pieces}
use Rattle.emitting.specs.Emits.{number}
use Rattle.emitting.proofs.Bridge.{Agrees, Agreeing}

module _ (es : List Item) (scratch rows m : List ℕ) (e : rows ≡ laid (rows_of es) scratch) (ends : (n : ℕ) → n < length es → value_end (nth es n) ≤ length m) where
  pub number_is : (n c : ℕ) → n < length es → c < row_numbers → number rows n c ≡ get_or (row (nth es n)) c 0
  unfolding laid
  number_is n c l h =
      let k = rows-length es in
      rw e (get_or-append (rows_of es) _ 0 (row_numbers * n + c) (omega arith) ∙ in_rows es n c l h)

  value-size : (n : ℕ) → n < length es → length (take (nth es n).len (drop (value_place (nth es n)) m)) ≡ (nth es n).len
  value-size n l = length-take-le (nth es n).len (drop (value_place (nth es n)) m) (omega (arith, ends n l, length-drop (value_place (nth es n)) m))

  last-place : (i : Item) → value_place i - 1 ≡ i.place + 3
  last-place i = omega arith

  one : (n : ℕ) → n < length es → Agrees rows m true n (received m (nth es n))
  unfolding received
  one n l =
      let typ = number_is n 1 l (omega arith) in
      let place = number_is n 3 l (omega arith) in
      let len = number_is n 4 l (omega arith) in
      record {
        parent = number_is n 0 l (omega arith);
        typ = typ;
        last = rw (place, last-place (nth es n));
        stand = number_is n 5 l (omega arith);
        value = rw (typ, place, len);
        len = λ g. rw (g, place, len) (sym (value-size n l));
      }

  from : (k n : ℕ) → n + k ≤ length es → Agreeing rows m true n (pieces m (take k (drop n es)))
  unfolding Agreeing pieces
  from zero n l = tt
  from (suc k) n l =
      let a : n + 1 ≡ suc n = omega arith in
      rw (drop-cons es n no_item (omega arith), ← a) (one n (omega arith), from k (n + 1) (omega arith))

  pub agreeing : Agreeing rows m true 0 (pieces m es)
  agreeing = rw (take-length es) at (from (length es) 0 (omega arith))
