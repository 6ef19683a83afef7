-- What the C receiver reads in the octet buffers: two octets a number, high octet first; an odd last octet is no number. Assumes nothing.
use Rattle.std.specs.Prelude.{◌≡◌, List, ℕ, ◌*◌, ◌≤◌, length, get_or}
use Rattle.rules.specs.Sizes.{used}
use Rattle.rules.specs.Listings.{Book}
use Rattle.rules.specs.Octets.{numbers_in}
use Rattle.tables.specs.Words.{rows}
use Rattle.verdicts.specs.Accepts.{Accepts}

-- a table that is accepted is read in what is left, of the length that was lent, and octets past those used are as they were
pub record LeavesOctets (b : Book) (k : ℕ) (m lent left : List ℕ) : Type 0 where
  pub accepts : Accepts b k m (numbers_in left)
  pub size : length left ≡ length lent
  pub stays : (i : ℕ) → 2 * used (rows (numbers_in left)) ≤ i → get_or left i 0 ≡ get_or lent i 0
