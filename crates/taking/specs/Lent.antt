-- The parts of contracts over the listings as numbers. Assumes nothing.
use Rattle.std.specs.Prelude.{◌≡◌, Bool, true, false, List, ℕ, ◌<◌, length, Option, None, Some, MatchOption}
use Rattle.rules.specs.Types.{among}
use Rattle.rules.specs.Listings.{book, listing}
use Rattle.rules.specs.Standing.{most_lines}
use Rattle.listings.specs.Data.{entries_of, inside_in, limited_in}
use Rattle.taking.specs.declared.Inside.{Inside}

-- less than the most lines that a level has
pub record Small (r x : ℕ) : Type 0 where
  pub is : r ≡ x
  pub low : r < most_lines

-- a kind that there is, and a level of the listings
pub record AtLevel (k v : ℕ) : Type 0 where
  pub kind : among k book.kinds ≡ true
  pub level : v < length book.levels

-- and the level's lines
pub record Lines (k v : ℕ) (xs : List ℕ) : Type 0 where
  pub kind : among k book.kinds ≡ true
  pub level : v < length book.levels
  pub lines : xs ≡ entries_of (listing book v)

-- the inside that a line says, which no line without one has
pub record Inner (x : ℕ) (i : Inside) : Type 0 where
  pub some : 0 < i.level
  pub level : i.level ≡ inside_in x
  pub limited : i.limited ≡ limited_in x

abbrev pub InnerIn : ℕ → Option Inside → Type 0
InnerIn x r = MatchOption r (inside_in x ≡ 0) (Inner x)

-- the level of an inside, 0 for none, and whether there is one with limits
abbrev pub level_of : Option Inside → ℕ
level_of None = 0
level_of (Some i) = i.level

abbrev pub limited_of : Option Inside → Bool
limited_of None = false
limited_of (Some i) = i.limited
