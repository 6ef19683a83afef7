-- What it is that a table of a message on a kind stands at the start of t: each line says of the numbers of t, the octets of the message and the listings
-- what the rules say. There are no marks, no turns and no derivation in it, and nothing of the walk. A message that passes checks 1 to 9 has such a
-- table and only one, and the judge writes that one; a message that is cut has none (`promises`, `Main`). Assumes nothing.
use Rattle.std.specs.Prelude.{◌≡◌, List, ℕ, ◌≤◌, ◌<◌, length}
use Rattle.rules.specs.Sizes.{header_numbers, used}
use Rattle.rules.specs.Framing.{message_type, header_length}
use Rattle.rules.specs.Listings.{Book}
use Rattle.rules.specs.Values.{row_parent, row_place, row_standing, table_type, table_kind}
use Rattle.tables.specs.Words.{rows, kept_count, first_row, numbers_used, kept_among, row_start, row_end, RowOver, IsLevel, level_from, level_to, Inside, Faithful}
use Rattle.tables.specs.Standings.{StandsAs}

-- it says that it is of this message's type and of this kind
pub record IsOf (k : ℕ) (m t : List ℕ) : Type 0 where
  pub of_type : table_type t ≡ message_type m
  pub of_kind : table_kind t ≡ k

-- each row is right
pub record IsRows (b : Book) (k : ℕ) (m t : List ℕ) : Type 0 where
  -- the header; there is room for its rows, and numbers past those used may be anything
  pub size : used (rows t) ≤ length t
  pub kept-rows : kept_count t ≡ kept_among t (rows t)
  pub first-row : first_row t ≡ header_numbers
  pub numbers-used : numbers_used t ≡ used (rows t)
  pub of : IsOf k m t
  pub has_body : header_length m ≤ length m
  -- each row says what the octets before its value say
  pub faithful : (r : ℕ) → r < rows t → Faithful m t r
  -- parents are the message and kept groups; a row lies in its parent; rows stand in octet order, so a kept group's inside before its next sibling
  pub parents : (r : ℕ) → r < rows t → IsLevel t (row_parent t r)
  pub inside : (r : ℕ) → r < rows t → Inside m t r
  pub order : (x y : ℕ) → x < y → y < rows t → row_place t x < row_place t y
  -- no octet is read twice at its level
  pub apart : (x y : ℕ) → x < y → y < rows t → row_parent t x ≡ row_parent t y → row_end t x ≤ row_start t y
  -- standing 1, 2, 3, 4 or 0, the first that applies
  pub standing : (r : ℕ) → r < rows t → StandsAs b k m t r (row_standing t r)

pub record IsTable (b : Book) (k : ℕ) (m t : List ℕ) : Type 0 where
  pub right : IsRows b k m t
  -- and none is left out: no octet of the body or of a kept group's value is skipped
  pub covers : (p : ℕ) → IsLevel t p → (j : ℕ) → level_from m t p ≤ j → j < level_to m t p → (r : ℕ) × RowOver t p j r
