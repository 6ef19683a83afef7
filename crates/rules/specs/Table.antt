-- The table: a header of six numbers, then six an element (rules 5.1, 5.2). Assumes nothing.
use Rattle.std.specs.Prelude.{ℕ, suc, ◌*◌, ◌/◌, false, cond, List, [], ◌∷◌, ◌++◌, eqb, length, take, drop, get_or}
use Rattle.rules.specs.Sizes.{header_numbers, row_numbers, used}
use Rattle.rules.specs.Standing.{Item, kept, value_place}

-- per element: parent, type, instance, value place, value length, standing
abbrev pub row : Item → List ℕ
row i = i.parent ∷ i.typ ∷ i.inst ∷ value_place i ∷ i.len ∷ i.stand ∷ []

unfoldable pub rows_of : List Item → List ℕ
rows_of [] = []
rows_of (i ∷ is) = row i ++ rows_of is

unfoldable pub kept_rows : List Item → ℕ
kept_rows [] = 0
kept_rows (i ∷ is) = cond (eqb i.stand kept) (suc (kept_rows is)) (kept_rows is)

-- rows, kept rows, place of the first row, numbers used; then what it is a table of: message type, kind
unfoldable pub header : ℕ → ℕ → List Item → List ℕ
header typ k is = length is ∷ kept_rows is ∷ header_numbers ∷ used (length is) ∷ typ ∷ k ∷ []

unfoldable pub table_of : ℕ → ℕ → List Item → List ℕ
table_of typ k is = header typ k is ++ rows_of is

-- a table's numbers by its counts, from rows that stand at the start of a run of numbers
abbrev pub numbers_by : ℕ → ℕ → ℕ → ℕ → List ℕ → List ℕ
numbers_by n kept typ k rows = n ∷ kept ∷ header_numbers ∷ used n ∷ typ ∷ k ∷ take (row_numbers * n) rows

-- numbers laid over the start of what is lent: those past the ones used stay
unfoldable pub laid : List ℕ → List ℕ → List ℕ
laid xs lent = xs ++ drop (length xs) lent

-- the rows of which a run of n numbers has room
abbrev pub fitting : ℕ → List Item → List Item
fitting n is = take (n / row_numbers) is

-- element number j of those taken, counted from 0; past their end an element of zeros
abbrev pub no_item : Item
no_item = record { parent = 0; place = 0; typ = 0; inst = 0; len = 0; stand = 0; must = false; inside = 0; hidden = [] }

abbrev pub nth : List Item → ℕ → Item
nth is j = get_or is j no_item
