-- The texts and slots as the code lays them down. Assumes nothing.
use Rattle.std.specs.Prelude.{◌≡◌, ℕ, List, [], ◌∷◌, map}
use Rattle.std.specs.Borrow.{Bor}
use Rattle.phrases.specs.declared.sections.Section.{Section}
use Rattle.phrases.specs.declared.sentences.Said.{Said}
use Rattle.phrases.specs.declared.sentences.Said.TheVariants.{Itself, UnlessZero, Element, Text as InSection}
use Rattle.phrases.specs.Texts.{octets_of, Text}
use Rattle.phrases.specs.Table.{itself, unless_zero, element, text}
use Rattle.phrases.specs.Sections.{number_of}

-- of each text its section, its number and its octets
unfoldable pub rows_of : List Text → List (ℕ × ℕ × List ℕ)
rows_of [] = []
rows_of (t ∷ ts) = (t.section, t.number, octets_of t.pieces) ∷ rows_of ts

abbrev pub row_of : Section × ℕ × Bor (List ℕ) → ℕ × ℕ × List ℕ
row_of x = (number_of x.0, x.1, x.2.now)

pub record Texts (xs : List (Section × ℕ × Bor (List ℕ))) (ts : List Text) : Type 0 where
  pub is : map row_of xs ≡ rows_of ts

-- the numbers of what a slot says
abbrev pub what_of : Said → ℕ
what_of Itself = itself
what_of UnlessZero = unless_zero
what_of Element = element
what_of (InSection s) = text

abbrev pub section_of : Said → ℕ
section_of (InSection s) = number_of s
section_of Itself = 0
section_of UnlessZero = 0
section_of Element = 0

-- four for each slot, one after another
unfoldable pub numbers_of : List (Said × ℕ × ℕ) → List ℕ
numbers_of [] = []
numbers_of (x ∷ xs) = what_of x.0 ∷ x.1 ∷ x.2 ∷ section_of x.0 ∷ numbers_of xs

pub record Slots (xs : List (Said × ℕ × ℕ)) (ns : List ℕ) : Type 0 where
  pub is : numbers_of xs ≡ ns
