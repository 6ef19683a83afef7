-- The parts of contracts over a lent table and a lent buffer. Assumes nothing.
use Rattle.std.specs.Prelude.{◌≡◌, Bool, true, cond, not, ◌&&◌, List, ℕ, ◌+◌, ◌≤◌, ◌<◌, eqb, leb, ltb, length, get_or, Option, Some, None}
use Rattle.std.specs.Borrow.{Bor}
use Rattle.rules.specs.Sizes.{header_numbers, row_numbers, used}
use Rattle.rules.specs.Values.{row_place, row_length, row_count, reads_as_cut, nowhere, seek_plain, Stands}
use Rattle.rules.specs.declared.Span.{Span}

-- a number of the table, which has 16 bits
pub record Number (x r : ℕ) : Type 0 where
  pub is : r ≡ x
  pub low : r < 65536

-- row r lies in the table, and each of the first so many rows does
abbrev pub HasRow : List ℕ → ℕ → Type 0
HasRow t row = used row + row_numbers ≤ length t

abbrev pub HasRows : List ℕ → ℕ → Type 0
HasRows t count = (row : ℕ) → row < count → HasRow t row

-- number j of a row that lies in the table
pub record Asked (t : List ℕ) (row j : ℕ) : Type 0 where
  pub row_there : HasRow t row
  pub of_row : j < row_numbers

-- the table is as long as its header says, with the rows where they have to be
unfoldable pub headed : List ℕ → Bool
headed t = not (reads_as_cut t) && eqb (get_or t 2 0) header_numbers && eqb (get_or t 3 0) (used (row_count t))

-- where the value of a row stands in a buffer of n octets, and in a message and a copy of so many, of a table with so many rows
unfoldable pub span_by : ℕ → List ℕ → ℕ → ℕ → Span
span_by count t r n =
    cond (ltb r count && leb (row_place t r + row_length t r) n)
    (record { start = row_place t r; len = row_length t r; there = true })
    nowhere

unfoldable pub desk_by : ℕ → ℕ → ℕ → ℕ → List ℕ → Span
desk_by count r message copy t = cond (eqb message copy) (span_by count t r copy) nowhere

-- a span lies in a buffer of n octets
abbrev pub Within : Span → ℕ → Type 0
Within s n = s.start + s.len ≤ n

-- what is found of a buffer: nothing where the span is nowhere, or the part that stands there
abbrev pub Finds : Bor (List ℕ) → Span → Option (Bor (List ℕ)) → Type 0
Finds buffer s None = s ≡ nowhere
Finds buffer s (Some part) = (s.there ≡ true) × Stands buffer s part

-- the first row of the pair among so many, if there is one
abbrev pub Seeks : List ℕ → ℕ → ℕ → ℕ → Option ℕ → Type 0
Seeks t typ inst count None = seek_plain t typ inst 0 count ≡ count
Seeks t typ inst count (Some row) = (row < count) × (seek_plain t typ inst 0 count ≡ row)
