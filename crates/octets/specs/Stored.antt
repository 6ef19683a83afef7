-- Numbers at places of an octet buffer, high octet first. Assumes nothing.
use Rattle.std.specs.Prelude.{ℕ, ◌+◌, ◌*◌, ◌/◌, ◌%◌, Bool, cond, ◌||◌, List, ltb, length, set}
use Rattle.rules.specs.Sizes.{most_rows, row_numbers, used}
use Rattle.rules.specs.Table.{numbers_by, laid}
use Rattle.rules.specs.Octets.{octets_of}

-- l with the number v at the places i and i + 1
abbrev pub put2 : List ℕ → ℕ → ℕ → List ℕ
put2 l i v = set (set l i (v / 256)) (i + 1) (v % 256)

-- too many rows, more kept than there are, rows that are not there, or a table too short for them
unfoldable pub misfit : List ℕ → ℕ → ℕ → List ℕ → Bool
misfit rows n kept table =
    ltb most_rows n || (ltb n kept || (ltb (length rows) (row_numbers * n) || ltb (length table) (2 * used n)))

-- header and n rows as octets at the start of a table, which stays as it is if they do not fit
unfoldable pub table_stored : List ℕ → ℕ → ℕ → ℕ → ℕ → List ℕ → List ℕ
table_stored rows n kept typ kind table =
    cond (misfit rows n kept table) table
    (laid (octets_of (numbers_by n kept typ kind rows)) table)
