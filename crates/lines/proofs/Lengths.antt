-- The judge program's text is at most 40,000 octets, so that a buffer of that length never cuts it: a number has at most five digits, and an
-- accepted message at most 1,022 rows. Assumes nothing.
use mathlib.Core.Path.{◌≡◌, refl}
use mathlib.Core.Bool.{Bool, true, false, cond}
use mathlib.Core.List.{List, [], ◌∷◌, ◌++◌}
use Prim.Native.Nat.{ℕ, ◌+◌, ◌*◌, ◌≤◌}
use native.Mathlib.Omega.{arith}
use lib.ListN.{length, length-append}
use Rattle.rules.specs.Sizes.{largest_message, most_rows, used}
use Rattle.rules.specs.Listings.{book}
use Rattle.rules.specs.Standing.{Item, value_place}
use Rattle.rules.specs.Table.{row, kept_rows}
use Rattle.rules.specs.Verdicts.{items, refuses, framing_checks, copy_check, table_checks, call_checks, call_verdict}
use Rattle.rules.specs.Octets.{five}
use Rattle.rules.specs.Program.{decimal, blanked, line, row_lines, text_of, accept_word, refuse_word}
use Rattle.rules.specs.declared.Verdict.{Verdict}
use Rattle.rules.proofs.Checks.{both-pass}
use Rattle.rules.proofs.Readings.{few as few-rows, count_is}
use Rattle.wording.proofs.Decimals.{decimal-length}

blanked-length : (xs : List ℕ) → length (blanked xs) ≤ 6 * length xs + 1
unfolding blanked
blanked-length [] = omega arith
blanked-length (x ∷ xs) = omega (arith, length-append (decimal x) (blanked xs), decimal-length x, blanked-length xs)

line-length : (i : Item) → length (line (row i)) ≤ 36
unfolding line
line-length i =
    omega (arith, length-append (decimal i.parent) (blanked (i.typ ∷ i.inst ∷ value_place i ∷ i.len ∷ i.stand ∷ [])), decimal-length i.parent, blanked-length (i.typ ∷ i.inst ∷ value_place i ∷ i.len ∷ i.stand ∷ []))

lines-length : (is : List Item) → length (row_lines is) ≤ 36 * length is
unfolding row_lines
lines-length [] = omega arith
lines-length (i ∷ is) = omega (arith, length-append (line (row i)) (row_lines is), line-length i, lines-length is)

module _ (k : ℕ) (m : List ℕ) where
  few : refuses (call_verdict book k m largest_message (used most_rows)) ≡ false → length (items book k m) ≤ most_rows
  unfolding call_checks
  few e = let p = (both-pass (framing_checks book k m) (copy_check book k m largest_message ∷ table_checks book k m (used most_rows)) e).0 in rw (← count_is book k m p) (few-rows book k m)

  pub text-length : length (text_of book k m) ≤ 40000
  unfolding text_of
  text-length = go (refuses (call_verdict book k m largest_message (used most_rows))) refl
    where
      v : Verdict
      v = call_verdict book k m largest_message (used most_rows)

      is : List Item
      is = items book k m

      go : (c : Bool) → refuses v ≡ c → length (cond c (refuse_word ++ blanked (five v)) (accept_word ++ (blanked (length is ∷ kept_rows is ∷ []) ++ row_lines is))) ≤ 40000
      go true e = omega (arith, blanked-length (five v))
      go false e =
          omega (arith, few e, length-append (blanked (length is ∷ kept_rows is ∷ [])) (row_lines is), blanked-length (length is ∷ kept_rows is ∷ []), lines-length is)
