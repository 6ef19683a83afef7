-- The sizes that the rules name, each in one place. Assumes nothing.
use Rattle.std.specs.Prelude.{ℕ, ◌+◌, ◌*◌}

-- a message has at most 4,096 octets
abbrev pub largest_message : ℕ
largest_message = 4096

-- a message of that size holds at most 1,022 elements
abbrev pub most_rows : ℕ
most_rows = 1022

-- the numbers of a table's header, which is also the place of the first row
abbrev pub header_numbers : ℕ
header_numbers = 6

-- the numbers of a row
abbrev pub row_numbers : ℕ
row_numbers = 6

-- the numbers that a table of so many rows uses
abbrev pub used : ℕ → ℕ
used rows = header_numbers + row_numbers * rows

-- the octets of the five numbers of a verdict
abbrev pub five_octets : ℕ
five_octets = 10

-- and with the length of what is written
abbrev pub answer_octets : ℕ
answer_octets = 12
