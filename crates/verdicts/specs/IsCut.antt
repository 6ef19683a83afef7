-- What it is that a message is cut at the place q (9): the rows before q are right and leave out nothing, and at q a level goes on with 1 to 3 octets, or
-- with an element longer than what the level has left. Assumes nothing.
use Rattle.std.specs.Prelude.{◌⊎◌, List, ℕ, ◌+◌, ◌≤◌, ◌<◌}
use Rattle.rules.specs.Framing.{two_octets, element_header}
use Rattle.rules.specs.Listings.{Book}
use Rattle.tables.specs.Words.{rows, row_start, RowOver, IsLevel, level_from, level_to, CoversTo}
use Rattle.tables.specs.IsTable.{IsRows}

-- the level with parent p has no row over octet q, which is its own, and what it has left from there is no whole element
pub record CutHere (m t : List ℕ) (q p : ℕ) : Type 0 where
  pub level : IsLevel t p
  pub begins : level_from m t p ≤ q
  pub ends : q < level_to m t p
  pub no_row : (r : ℕ) → RowOver t p q r → ⊥
  pub too_long : (level_to m t p < q + element_header) ⊎ (level_to m t p < q + element_header + two_octets m (q + 1))

pub record IsCut (b : Book) (k : ℕ) (m t : List ℕ) (q : ℕ) : Type 0 where
  pub right : IsRows b k m t
  pub before : (r : ℕ) → r < rows t → row_start t r < q
  pub covers : CoversTo m t q
  pub cut_here : (p : ℕ) × CutHere m t q p
