-- The lines of a run of rows, and the text on an accepted message by its table. Assumes nothing.
use Rattle.std.specs.Prelude.{ℕ, ◌*◌, ◌≤◌, List, [], ◌∷◌, ◌++◌, length, take, drop, get_or}
use Rattle.rules.specs.Sizes.{header_numbers, used}
use Rattle.rules.specs.Program.{blanked, line, accept_word}
use Rattle.wording.specs.Pieces.{for_each}

-- the six numbers of row i
abbrev pub six_of : List ℕ → ℕ → List ℕ
six_of rows i = take 6 (drop (6 * i) rows)

-- the lines of so many rows, from row i on
abbrev pub lines_from : List ℕ → ℕ → ℕ → List ℕ
lines_from rows i n = for_each (λ j. line (six_of rows j)) i n

-- the table has its header, and the rows that it counts
pub record Lists (table : List ℕ) : Type 0 where
  pub headed : header_numbers ≤ length table
  pub there : used (get_or table 0 0) ≤ length table

-- the counts and the rows of a table
unfoldable pub list_text : List ℕ → List ℕ
list_text table = accept_word ++ blanked (get_or table 0 0 ∷ get_or table 1 0 ∷ []) ++ lines_from (drop header_numbers table) 0 (get_or table 0 0)
