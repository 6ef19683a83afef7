-- The level of a row: the listing that its pair is looked for in. It is found from the rows' parent numbers alone: the rows with parent 0 have the level
-- of the message's body, the others that of the inside of their parent's line. Assumes nothing.
use Rattle.std.specs.Prelude.{cond, List, [], ◌∷◌, ◌++◌, ℕ, zero, suc, ◌-◌, eqb, get_or}
use Rattle.rules.specs.Framing.{element_header}
use Rattle.rules.specs.Listings.{Book, Line, empty_line, seek, listing}
use Rattle.rules.specs.Standing.{kept}
use Rattle.rules.specs.Values.{row_parent, row_type, row_instance, row_place, row_standing}
use Rattle.tables.specs.Words.{rows}

-- the line of a pair in the listing of a level
abbrev pub line_at : Book → ℕ → ℕ → ℕ → ℕ → Line
line_at b k v t i = get_or (listing b v) (seek (listing b v) k t i) empty_line

-- v is the level of the message's body
module _ (b : Book) (k v : ℕ) (t : List ℕ) where
  -- the level of the rows with parent p, where ls are the levels of the insides of the rows so far: the body's own for 0, else the inside of row p - 1
  abbrev pub level_number : List ℕ → ℕ → ℕ
  level_number ls zero = v
  level_number ls (suc q) = get_or ls q 0

  -- the line of row r at its level
  abbrev pub row_line : List ℕ → ℕ → Line
  row_line ls r = line_at b k (level_number ls (row_parent t r)) (row_type t r) (row_instance t r)

  -- only a kept group is entered
  abbrev pub inside_by : List ℕ → ℕ → ℕ
  inside_by ls r = cond (eqb (row_standing t r) kept) (row_line ls r).inside 0

  -- the levels of the insides of the first n rows
  unfoldable pub insides : ℕ → List ℕ
  insides zero = []
  insides (suc n) = insides n ++ (inside_by (insides n) n ∷ [])

  -- the level of the rows with parent p; 0 if p is no kept group
  abbrev pub level_of : ℕ → ℕ
  level_of p = level_number (insides (rows t)) p

  -- the first octet of a level: 0 for the message, else its group's
  abbrev pub level_place : ℕ → ℕ
  level_place zero = 0
  level_place (suc q) = row_place t q - element_header

  -- line j of the level of the rows with parent p
  abbrev pub required : ℕ → ℕ → Line
  required p j = get_or (listing b (level_of p)) j empty_line
