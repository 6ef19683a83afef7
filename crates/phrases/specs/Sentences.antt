-- A text with its slots filled, of a run of numbers and with a table of the elements' names. Assumes nothing.
use Rattle.std.specs.Prelude.{ℕ, ◌+◌, ◌-◌, ◌*◌, cond, List, [], ◌∷◌, eqb, ltb, length, get_or}
use Rattle.rules.specs.Program.{decimal}
use Rattle.wording.specs.Pieces.{for_each, left_of_room, right_in}
use Rattle.phrases.specs.Texts.{slot_octet}
use Rattle.phrases.specs.Table.{slots, text_for, itself, unless_zero, element}
use Rattle.phrases.specs.Names.{element_name}

-- a number of 16 bits: one that is more is said as 65,535
unfoldable pub narrow : ℕ → ℕ
narrow n = cond (ltb n 65536) n 65535

-- a number in decimal, and nothing for 0
unfoldable pub some_decimal : ℕ → List ℕ
some_decimal n = cond (eqb n 0) [] (decimal n)

-- number j of slot s
abbrev pub slot_number : ℕ → ℕ → ℕ
slot_number s j = get_or slots (4 * s + j) 0

module _ (names : List ℕ) where
  -- what is said of the number n: numbers at the right of a column, words at its left; a text is put as it stands, its own slots are not filled
  unfoldable pub worded : ℕ → ℕ → ℕ → ℕ → List ℕ
  worded what width section n =
      cond (eqb what itself) (right_in width (decimal n))
      (cond (eqb what unless_zero) (some_decimal n)
      (cond (eqb what element) (left_of_room width (element_name names n)) (left_of_room width (text_for section n))))

  module _ (run : List ℕ) where
    -- slot s
    unfoldable pub slot_text : ℕ → List ℕ
    slot_text s = worded (slot_number s 0) (slot_number s 2) (slot_number s 3) (get_or run (slot_number s 1) 0)

    -- what an octet of a text stands for
    unfoldable pub piece_text : ℕ → List ℕ
    piece_text x = cond (ltb x (slot_octet 0)) (x ∷ []) (slot_text (x - slot_octet 0))

    unfoldable pub filled : List ℕ → List ℕ
    filled t = for_each (λ i. piece_text (get_or t i 0)) 0 (length t)

    -- the text that a section has for a number, with its slots filled
    unfoldable pub said : ℕ → ℕ → List ℕ
    said section n = filled (text_for section n)
