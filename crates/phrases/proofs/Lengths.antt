-- How long a text is at most when its slots are filled, whatever the numbers and the table of names are: computed from the texts and slots alone.
-- Assumes nothing.
--     said-length   of a section, by one computed test
--     verdict-length, page-length, row-length, ending-length, mark-length, cover_length, void-length, header-length   of those that others say
use mathlib.Core.Path.{◌≡◌, refl}
use mathlib.Core.Bool.{Bool, true, false, cond, ◌&&◌, ◌||◌}
use mathlib.Core.List.{List, [], ◌∷◌}
use Prim.Native.Nat.{ℕ, ◌+◌, ◌-◌, ◌*◌, ◌≤◌}
use native.Mathlib.Omega.{arith}
use borrow.Author.Tests.{leb-true, eqb-true, ltb-true, eq-eqb}
use lib.Dec.{eqb, leb, ltb}
use lib.ListN.{length, drop, get_or, length-take}
use Rattle.rules.specs.Program.{decimal}
use Rattle.rules.proofs.Lines.{and_left, and_right}
use Rattle.wording.specs.Pieces.{left_of_room, right_in}
use Rattle.wording.proofs.Decimals.{decimal-length}
use Rattle.wording.proofs.Turns.{left-length, right-length, sum_of, each-length}
use Rattle.phrases.specs.Texts.{octets_of, Text, slot_octet, every, key_for, key_of, text_in}
use Rattle.phrases.specs.Table.{slots, texts, text_for, itself, unless_zero, element, verdicts, pages, rows, endings, marks, covers, headers, voids}
use Rattle.phrases.specs.Names.{entry_of, before_blanks, trimmed, element_name}
use Rattle.phrases.proofs.Search.{octet_numbers}
use Rattle.phrases.specs.Sentences.{some_decimal, slot_number, worded, slot_text, piece_text, filled, said}

abbrev larger : ℕ → ℕ → ℕ
larger a c = a + (c - a)

-- ---- the largest of a section, by what is counted of a text

unfoldable most : (List ℕ → ℕ) → ℕ → List Text → ℕ
most f s [] = 0
most f s (t ∷ ts) = larger (cond (eqb t.section s) (f (octets_of t.pieces)) 0) (most f s ts)

capped : (n : ℕ) → cond (ltb n every) n every ≤ 255
capped n = go (ltb n every) refl
  where
    go : (c : Bool) → ltb n every ≡ c → cond c n every ≤ 255
    go true e = omega (arith, ltb-true n every e)
    go false e = omega arith

module _ (f : List ℕ → ℕ) (none : f [] ≡ 0) (s n : ℕ) where
  own : (t : Text) → t.number ≤ 255 → (eqb (key_of t) (key_for s n) || eqb (key_of t) (key_for s every)) ≡ true → t.section ≡ s
  own t l e = go (eqb (key_of t) (key_for s n)) refl e
    where
      go : (c : Bool) → eqb (key_of t) (key_for s n) ≡ c → c || eqb (key_of t) (key_for s every) ≡ true → t.section ≡ s
      go true x y = omega (arith, eqb-true (key_of t) (key_for s n) x, capped n)
      go false x y = omega (arith, eqb-true (key_of t) (key_for s every) y)

  at_most : (ts : List Text) → octet_numbers ts ≡ true → f (text_in ts (key_for s n) (key_for s every)) ≤ most f s ts
  unfolding text_in most octet_numbers
  at_most [] e = omega (arith, none)
  at_most (t ∷ ts) e =
      go (at_most ts (and_right (leb t.number every) (octet_numbers ts) e)) (eqb (key_of t) (key_for s n) || eqb (key_of t) (key_for s every)) refl
    where
      go : f (text_in ts (key_for s n) (key_for s every)) ≤ most f s ts → (c : Bool) → (eqb (key_of t) (key_for s n) || eqb (key_of t) (key_for s every)) ≡ c
          → f (cond c (octets_of t.pieces) (text_in ts (key_for s n) (key_for s every)))
          ≤ larger (cond (eqb t.section s) (f (octets_of t.pieces)) 0) (most f s ts)
      go h true x = rw (eq-eqb t.section s (own t (leb-true t.number every (and_left (leb t.number every) (octet_numbers ts) e)) x)) (omega arith)
      go h false x = omega arith

-- of the texts
most-of : (f : List ℕ → ℕ) → f [] ≡ 0 → (s n : ℕ) → f (text_for s n) ≤ most f s texts
unfolding text_for texts octet_numbers
most-of f none s n = at_most f none s n texts refl

-- ---- an element's name

before-length : (x : ℕ) (xs : List ℕ) → length (before_blanks x xs) ≤ length xs + 1
before-length x xs = go (eqb x 32 && eqb (length xs) 0)
  where
    go : (c : Bool) → length (cond c [] (x ∷ xs)) ≤ length xs + 1
    go true = omega arith
    go false = omega arith

trimmed-length : (xs : List ℕ) → length (trimmed xs) ≤ length xs
unfolding trimmed
trimmed-length [] = omega arith
trimmed-length (x ∷ xs) = omega (arith, before-length x (trimmed xs), trimmed-length xs)

element-length : (names : List ℕ) (t : ℕ) → length (element_name names t) ≤ 32
unfolding element_name
element-length names t = omega (arith, trimmed-length (entry_of names t), length-take 32 (drop (32 * t) names))

-- ---- a slot

unfoldable word_most : ℕ → ℕ → ℕ → ℕ
word_most what width section =
    cond (eqb what itself) (larger 5 width)
    (cond (eqb what unless_zero) 5 (cond (eqb what element) (larger 32 width) (larger (most length section texts) width)))

unfoldable piece_most : ℕ → ℕ
piece_most x =
    let s = x - slot_octet 0 in
    cond (ltb x (slot_octet 0)) 1 (word_most (slot_number s 0) (slot_number s 2) (slot_number s 3))

abbrev text_most : List ℕ → ℕ
text_most t = sum_of piece_most t

some-length : (n : ℕ) → length (some_decimal n) ≤ 5
unfolding some_decimal
some-length n = go (eqb n 0)
  where
    go : (c : Bool) → length (cond c [] (decimal n)) ≤ 5
    go true = omega arith
    go false = decimal-length n

module _ (names : List ℕ) where
  word-length : (what width section n : ℕ) → length (worded names what width section n) ≤ word_most what width section
  unfolding worded word_most
  word-length what width section n = go (eqb what itself) (eqb what unless_zero) (eqb what element)
    where
      go : (a c d : Bool) → length (cond a (right_in width (decimal n)) (cond c (some_decimal n) (cond d (left_of_room width (element_name names n)) (left_of_room width (text_for section n)))))
          ≤ cond a (larger 5 width) (cond c 5 (cond d (larger 32 width) (larger (most length section texts) width)))
      go true c d = omega (arith, right-length width (decimal n), decimal-length n)
      go false true d = some-length n
      go false false true = omega (arith, left-length width (element_name names n), element-length names n)
      go false false false = omega (arith, left-length width (text_for section n), most-of length refl section n)

  module _ (run : List ℕ) where
    piece-length : (x : ℕ) → length (piece_text names run x) ≤ piece_most x
    unfolding piece_text piece_most slot_text
    piece-length x = go (ltb x (slot_octet 0))
      where
        s : ℕ
        s = x - slot_octet 0

        n : ℕ
        n = get_or run (slot_number s 1) 0

        go : (c : Bool) → length (cond c (x ∷ []) (worded names (slot_number s 0) (slot_number s 2) (slot_number s 3) n)) ≤ cond c 1 (word_most (slot_number s 0) (slot_number s 2) (slot_number s 3))
        go true = omega arith
        go false = word-length (slot_number s 0) (slot_number s 2) (slot_number s 3) n

    said-length : (section n m : ℕ) → leb (most text_most section texts) m ≡ true → length (said names run section n) ≤ m
    unfolding said filled sum_of
    said-length section n m e =
        omega (arith, each-length (piece_text names run) piece_most piece-length (text_for section n), most-of text_most refl section n, leb-true (most text_most section texts) m e)

    -- ---- what is computed of the texts

    pub verdict-length : (n : ℕ) → length (said names run verdicts n) ≤ 200
    unfolding most sum_of piece_most word_most slots texts octets_of
    verdict-length n = said-length verdicts n 200 refl

    pub page-length : (n : ℕ) → length (said names run pages n) ≤ 100
    unfolding most sum_of piece_most word_most slots texts octets_of
    page-length n = said-length pages n 100 refl

    pub row-length : (n : ℕ) → length (said names run rows n) ≤ 68
    unfolding most sum_of piece_most word_most slots texts octets_of
    row-length n = said-length rows n 68 refl

    pub ending-length : (n : ℕ) → length (said names run endings n) ≤ 11
    unfolding most sum_of piece_most word_most slots texts octets_of
    ending-length n = said-length endings n 11 refl

    pub mark-length : (n : ℕ) → length (said names run marks n) ≤ 12
    unfolding most sum_of piece_most word_most slots texts octets_of
    mark-length n = said-length marks n 12 refl

    pub cover_length : (n : ℕ) → length (said names run covers n) ≤ 8
    unfolding most sum_of piece_most word_most slots texts octets_of
    cover_length n = said-length covers n 8 refl

    pub void-length : (n : ℕ) → length (said names run voids n) ≤ 29
    unfolding most sum_of piece_most word_most slots texts octets_of
    void-length n = said-length voids n 29 refl

    pub header-length : (n : ℕ) → length (said names run headers n) ≤ 13
    unfolding most sum_of piece_most word_most slots texts octets_of
    header-length n = said-length headers n 13 refl
