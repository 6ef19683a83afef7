-- Clearing by the numbers that the scratch holds. Assumes nothing.
use Rattle.std.specs.Prelude.{◌≡◌, true, cond, List, [], ℕ, zero, suc, ◌+◌, ◌-◌, ◌*◌, ◌≤◌, ◌<◌, eqb, length, take, drop, get_or}
use Rattle.rules.specs.Sizes.{largest_message, row_numbers}
use Rattle.rules.specs.Frames.{Frame, filled_by, frames_of}
use Rattle.rules.specs.Standing.{void}
use Rattle.rules.specs.Covered.{open_octets, zeroed, inside_cleared}

-- number c of row i
abbrev pub number : List ℕ → ℕ → ℕ → ℕ
number rows i c = get_or rows (row_numbers * i + c) 0

-- the octets of its value that stay
abbrev pub open_in : List ℕ → ℕ → ℕ
open_in rows i = open_octets (number rows i 1) (number rows i 5) (number rows i 4)

-- the octets of the message from a up to e
abbrev pub between : List ℕ → ℕ → ℕ → List ℕ
between m a e = take (e - a) (drop a m)

-- the octets of its value in the message
abbrev pub value_at : List ℕ → List ℕ → ℕ → List ℕ
value_at rows m i = take (number rows i 4) (drop (number rows i 3) m)

-- the elements that fill its value, if it is void
abbrev pub hidden_in : List ℕ → List ℕ → ℕ → List Frame
hidden_in rows m i = cond (eqb (number rows i 5) void) (frames_of (value_at rows m i)) []

-- what is covered of its own value, and the values inside it
unfoldable pub cleared_row : List ℕ → List ℕ → ℕ → List ℕ → List ℕ
cleared_row rows m i copy =
    inside_cleared (zeroed copy (number rows i 3 + open_in rows i) (number rows i 4 - open_in rows i)) (number rows i 3) (hidden_in rows m i)

-- the first n rows, in order
unfoldable pub cleared_rows : List ℕ → List ℕ → ℕ → List ℕ → List ℕ
cleared_rows rows m zero copy = copy
cleared_rows rows m (suc n) copy = cleared_row rows m n (cleared_rows rows m n copy)

-- elements fill the message from a up to e, which lies in it and in a copy of so many octets
pub record Inside (m : List ℕ) (a e room : ℕ) : Type 0 where
  pub begins : a ≤ e
  pub ends : e ≤ length m
  pub within : e ≤ room
  pub few : length m ≤ largest_message
  pub fills : filled_by (length (between m a e)) (between m a e) ≡ true

-- row i is there, has a type, and has its value in the message and in a copy of so many octets; elements fill it if it is void
pub record RowWithin (rows m : List ℕ) (i room : ℕ) : Type 0 where
  pub long : row_numbers * i + row_numbers ≤ length rows
  pub typ : number rows i 1 < 256
  pub ends : number rows i 3 + number rows i 4 ≤ room
  pub sent : number rows i 3 + number rows i 4 ≤ length m
  pub few : length m ≤ largest_message
  pub fills : number rows i 5 ≡ void → filled_by (length (value_at rows m i)) (value_at rows m i) ≡ true

-- and so are the first n rows
abbrev pub Within : List ℕ → List ℕ → ℕ → ℕ → Type 0
Within rows m n room = (i : ℕ) → i < n → RowWithin rows m i room

-- and the copy has room for the message
pub record Masks (rows m : List ℕ) (n room : ℕ) : Type 0 where
  pub within : Within rows m n room
  pub long : length m ≤ room
