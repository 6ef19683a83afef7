-- The table in lines, one a row, with the values that the viewer may see and the row marked that a refusal names. Assumes nothing.
use Rattle.std.specs.Prelude.{◌≡◌, ℕ, ◌+◌, ◌<◌, cond, List, [], ◌∷◌, ◌++◌, eqb, length, take, drop}
use Rattle.rules.specs.Framing.{element_header}
use Rattle.rules.specs.Values.{table_rows, row_parent, row_type, row_instance, row_place, row_length, row_standing, desk_span}
use Rattle.rules.specs.declared.Verdict.{Verdict}
use Rattle.wording.specs.Pieces.{for_each}
use Rattle.phrases.specs.Words.{newline}
use Rattle.phrases.specs.Table.{rows, marks}
use Rattle.phrases.specs.Sentences.{said, narrow}
use Rattle.columns.specs.Values.{ending}
use Rattle.columns.specs.declared.Listing.{Listing}
use Rattle.columns.specs.declared.View.{View}

-- the numbers that are said of row r, which is shown as r + 1
abbrev pub row_run : List ℕ → ℕ → List ℕ
row_run table r =
    narrow (r + 1)
    ∷ row_parent table r
    ∷ row_type table r
    ∷ row_instance table r
    ∷ row_place table r
    ∷ row_length table r
    ∷ row_standing table r
    ∷ []

-- the value of row r, where the desk's lookup on a kind finds it in a message and a copy of so many octets, of what is seen of that message
abbrev pub value_of : ℕ → List ℕ → List ℕ → ℕ → List ℕ → ℕ → List ℕ
value_of k table message copy_size seen r = take (desk_span k r message copy_size table).len (drop (desk_span k r message copy_size table).start seen)

-- the code of a verdict at the row whose element it names, which begins a header before its value, and 0 at every other
unfoldable pub marked : Verdict → ℕ → ℕ
marked v place = cond (eqb place (v.place + element_header)) v.code 0

module _ (names : List ℕ) where
  -- the table, the message and its masked copy, the row
  unfoldable pub row_line : View → Verdict → List ℕ → List ℕ → List ℕ → ℕ → List ℕ
  row_line w v table message copy r =
      said names (row_run table r) rows (row_parent table r)
      ++ (ending names (row_run table r) w (row_type table r) (row_standing table r) (value_of w.kind table message (length copy) (cond w.right message copy) r)
      ++ (said names (row_run table r) marks (marked v (row_place table r)) ++ newline))

  -- a line for each row
  unfoldable pub row_lines : View → Verdict → List ℕ → List ℕ → List ℕ → List ℕ
  row_lines w v table message copy = for_each (row_line w v table message copy) 0 (table_rows w.kind message table)

-- with what the lines are made from
abbrev pub line_of : Listing → ℕ → List ℕ
line_of l r = row_line l.names.now l.view l.verdict l.table.now l.message.now l.copy.now r

abbrev pub lines_of : Listing → List ℕ
lines_of l = row_lines l.names.now l.view l.verdict l.table.now l.message.now l.copy.now

-- a row among those that the table has for the message on a kind, with their count
pub record Counted (k : ℕ) (message table : List ℕ) (count row : ℕ) : Type 0 where
  pub all : count ≡ table_rows k message table
  pub among : row < count
