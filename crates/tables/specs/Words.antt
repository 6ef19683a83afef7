-- The words in which a table is described: over its own numbers and the message's octets. Assumes nothing.
use Rattle.std.specs.Prelude.{◌≡◌, true, cond, List, ℕ, zero, suc, ◌+◌, ◌-◌, ◌%◌, ◌≤◌, ◌<◌, eqb, length, get_or}
use Rattle.rules.specs.Framing.{octet, two_octets, element_header, header_length}
use Rattle.rules.specs.Types.{is_group}
use Rattle.rules.specs.Standing.{kept}
use Rattle.rules.specs.Values.{row_parent, row_type, row_instance, row_place, row_length, row_standing}

module _ (t : List ℕ) where
  -- the numbers of its header: rows, kept rows, place of the first row, numbers used
  abbrev pub rows : ℕ
  rows = get_or t 0 0

  abbrev pub kept_count : ℕ
  kept_count = get_or t 1 0

  abbrev pub first_row : ℕ
  first_row = get_or t 2 0

  abbrev pub numbers_used : ℕ
  numbers_used = get_or t 3 0

  -- how many of the first n rows are kept
  unfoldable pub kept_among : ℕ → ℕ
  kept_among zero = 0
  kept_among (suc r) = kept_among r + cond (eqb (row_standing t r) kept) 1 0

  -- where a row begins, header first, and where its value ends
  abbrev pub row_start : ℕ → ℕ
  row_start r = row_place t r - element_header

  abbrev pub row_end : ℕ → ℕ
  row_end r = row_place t r + row_length t r

  -- row r has the parent p, and octet j stands in it
  pub record RowOver (p j r : ℕ) : Type 0 where
    pub there : r < rows
    pub parent : row_parent t r ≡ p
    pub begins : row_start r ≤ j
    pub ends : j < row_end r

  pub record KeptGroup (r : ℕ) : Type 0 where
    pub there : r < rows
    pub stand : row_standing t r ≡ kept
    pub group : is_group (row_type t r) ≡ true

  -- what may be a parent: 0, which is the message, or the number of a kept group, counted from 1
  abbrev pub IsLevel : ℕ → Type 0
  IsLevel zero = Unit {0}
  IsLevel (suc q) = KeptGroup q

module _ (m t : List ℕ) where
  -- where the rows with parent p begin and end: in the body, or in their group's value
  abbrev pub level_from : ℕ → ℕ
  level_from zero = header_length m
  level_from (suc q) = row_place t q

  abbrev pub level_to : ℕ → ℕ
  level_to zero = length m
  level_to (suc q) = row_end t q

  -- each octet before q of a level stands in a row of it
  abbrev pub CoversTo : ℕ → Type 0
  CoversTo q = (p : ℕ) → IsLevel t p → (j : ℕ) → level_from p ≤ j → j < level_to p → j < q → (r : ℕ) × RowOver t p j r

  -- a row, header and value, lies in its parent's value, or in the body
  pub record Inside (r : ℕ) : Type 0 where
    pub begins : level_from (row_parent t r) ≤ row_start t r
    pub ends : row_end t r ≤ level_to (row_parent t r)

  -- the four octets before the value say type, length and instance
  pub record Faithful (r : ℕ) : Type 0 where
    pub place : element_header ≤ row_place t r
    pub typ : row_type t r ≡ octet m (row_start t r)
    pub len : row_length t r ≡ two_octets m (row_start t r + 1)
    pub inst : row_instance t r ≡ octet m (row_start t r + 3) % 16

  -- the first value octet, or 0 if the value is empty
  abbrev pub first_value : ℕ → ℕ
  first_value r = cond (eqb (row_length t r) 0) 0 (octet m (row_place t r))
