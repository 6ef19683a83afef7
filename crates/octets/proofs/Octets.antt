-- A list of numbers as octets, number by number. Assumes nothing.
--     length-octets, high, low, take-octets   its length, its octets and its start
--     laid-more, laid-all                     one number more of those that are laid, and all of them
--     fits, stored                            a table that fits: the header's octets, then the rows'
use mathlib.Core.Bool.{false}
use mathlib.Core.Path.{◌≡◌, refl, ap, ◌∙◌}
use mathlib.Core.List.{List, [], ◌∷◌, ◌++◌, append-nil}
use Prim.Native.Nat.{ℕ, zero, suc, ◌+◌, ◌-◌, ◌*◌, ◌/◌, ◌%◌, ◌≤◌, ◌<◌}
use native.Mathlib.Omega.{arith}
use native.Mathlib.Numerals.{add-one}
use lib.ListN.{length, get_or, set, take, drop, length-drop, drop_of_length-le}
use lib.Seq.{take_all, take-nil, drop-drop}
use borrow.Author.Tests.{le-ltb}
use borrow.Rule.Slice.PartMut.{put_mid, mid_of}
use Rattle.rules.specs.Sizes.{most_rows, row_numbers, used}
use Rattle.rules.specs.Table.{numbers_by, laid}
use Rattle.rules.specs.Octets.{octets_of}
use Rattle.octets.specs.Stored.{put2, misfit}

pub length-octets : (xs : List ℕ) → length (octets_of xs) ≡ 2 * length xs
unfolding octets_of
length-octets [] = refl
length-octets (x ∷ xs) = omega (arith, length-octets xs)

next : (i : ℕ) → 2 * suc i ≡ suc (suc (2 * i))
next i = omega arith

pub high : (xs : List ℕ) (i : ℕ) → get_or (octets_of xs) (2 * i) 0 ≡ get_or xs i 0 / 256
unfolding octets_of
high [] i = refl
high (x ∷ xs) zero = refl
high (x ∷ xs) (suc i) = rw (next i) (high xs i)

pub low : (xs : List ℕ) (i : ℕ) → get_or (octets_of xs) (suc (2 * i)) 0 ≡ get_or xs i 0 % 256
unfolding octets_of
low [] i = refl
low (x ∷ xs) zero = refl
low (x ∷ xs) (suc i) = rw (next i) (low xs i)

pub take-octets : (n : ℕ) (xs : List ℕ) → take (2 * n) (octets_of xs) ≡ octets_of (take n xs)
unfolding octets_of
take-octets zero xs = refl
take-octets (suc n) [] = take-nil (2 * suc n)
take-octets (suc n) (x ∷ xs) = rw (next n) (ap (λ (l : List ℕ). x / 256 ∷ x % 256 ∷ l) (take-octets n xs))

two-more : (xs d : List ℕ) (i : ℕ) → i < length xs → 2 * length xs ≤ length d
    → set (set (laid (octets_of (take i xs)) d) (2 * i) (get_or xs i 0 / 256)) (suc (2 * i)) (get_or xs i 0 % 256) ≡ laid (octets_of (take (suc i) xs)) d
unfolding laid octets_of
two-more [] d i h l = absurd (omega arith)
two-more (x ∷ xs) [] i h l = absurd (omega arith)
two-more (x ∷ xs) (p ∷ []) i h l = absurd (omega arith)
two-more (x ∷ xs) (p ∷ q ∷ d) zero h l = refl
two-more (x ∷ xs) (p ∷ q ∷ d) (suc i) h l = rw (next i) (ap (λ (r : List ℕ). x / 256 ∷ x % 256 ∷ r) (two-more xs d i (omega arith) (omega arith)))

pub laid-more : (xs d : List ℕ) (i : ℕ) → i < length xs → 2 * length xs ≤ length d
    → put2 (laid (octets_of (take i xs)) d) (2 * i) (get_or xs i 0) ≡ laid (octets_of (take (i + 1) xs)) d
laid-more xs d i h l = rw (add-one (2 * i), add-one i) (two-more xs d i h l)

pub laid-all : (xs d : List ℕ) (i : ℕ) → length xs ≤ i → laid (octets_of (take i xs)) d ≡ laid (octets_of xs) d
laid-all xs d i l = rw (take_all i xs l)

module _ (rows : List ℕ) (n kept typ kind : ℕ) (table : List ℕ) where
  pub fits : n ≤ most_rows → kept ≤ n → row_numbers * n ≤ length rows → 2 * used n ≤ length table → misfit rows n kept table ≡ false
  unfolding misfit
  fits few most there room = rw (le-ltb most_rows n few, le-ltb n kept most, le-ltb (length rows) (row_numbers * n) there, le-ltb (length table) (2 * used n) room)

  abbrev head : List ℕ
  head = octets_of (n ∷ kept ∷ 6 ∷ used n ∷ typ ∷ kind ∷ [])

  abbrev rest : List ℕ
  rest = octets_of (take (6 * n) rows)

  pub stored : {headed part : List ℕ} → headed ≡ head ++ drop 12 table → part ≡ laid rest (mid_of 12 (length headed - 12) headed)
      → put_mid 12 (length headed - 12) headed part ≡ laid (octets_of (numbers_by n kept typ kind rows)) table
  unfolding laid octets_of
  stored {headed} {part} h e =
      let all : take (length headed - 12) (drop 12 headed) ≡ drop 12 headed = take_all (length headed - 12) (drop 12 headed) (omega (arith, length-drop 12 headed)) in
      let after : drop (length headed - 12) (drop 12 headed) ≡ [] = drop_of_length-le (drop 12 headed) (omega (arith, length-drop 12 headed)) in
      let size : 12 + length rest ≡ length (octets_of (numbers_by n kept typ kind rows)) = omega arith in
      rw (after, append-nil, e, all, h) (ap (λ (q : List ℕ). head ++ (rest ++ q)) (drop-drop (length rest) 12 table ∙ ap (λ (j : ℕ). drop j table) size))
