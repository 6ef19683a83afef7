-- Where rows stand. Assumes nothing.
use Rattle.std.specs.Prelude.{◌≡◌, ℕ, zero, suc, ◌≤◌, ◌<◌, List, length}
use Rattle.rules.specs.Standing.{Item, value_place, value_end}
use Rattle.rules.specs.Table.{nth}

-- the octets from lo on and below hi lie in the value of the row of that number, counted from 1, or for 0 in the body, which is base to top
unfoldable pub Within : List Item → ℕ → ℕ → ℕ → ℕ → ℕ → Type 0
Within is base top zero lo hi = (base ≤ lo) × (hi ≤ top)
Within is base top (suc q) lo hi = (q < length is) × (value_place (nth is q) ≤ lo) × (hi ≤ value_end (nth is q))

-- a row, header and value, lies within its parent
abbrev pub Lies : List Item → ℕ → ℕ → Item → Type 0
Lies is base top i = Within is base top i.parent i.place (value_end i)

-- of two siblings the earlier ends before the later begins
abbrev pub Apart : Item → Item → Type 0
Apart i j = i.parent ≡ j.parent → value_end i ≤ j.place
