-- Elements' names by type number, in a table of names that is lent. Assumes nothing.
use Rattle.std.specs.Prelude.{ℕ, ◌*◌, ◌≤◌, ◌≡◌, cond, ◌&&◌, List, [], ◌∷◌, eqb, length, take, drop}

-- the octets of an entry of the table of names
abbrev pub entry_octets : ℕ
entry_octets = 32

-- the entry of a type number: as much of it as the table has
abbrev pub entry_of : List ℕ → ℕ → List ℕ
entry_of names t = take entry_octets (drop (entry_octets * t) names)

-- a blank with nothing after it goes
abbrev pub before_blanks : ℕ → List ℕ → List ℕ
before_blanks x xs = cond (eqb x 32 && eqb (length xs) 0) [] (x ∷ xs)

-- without the blanks at its end
unfoldable pub trimmed : List ℕ → List ℕ
trimmed [] = []
trimmed (x ∷ xs) = before_blanks x (trimmed xs)

unfoldable pub element_name : List ℕ → ℕ → List ℕ
element_name names t = trimmed (entry_of names t)

-- the first n octets of an entry are its name
pub record Ends (entry : List ℕ) (n : ℕ) : Type 0 where
  pub name : take n entry ≡ trimmed entry
  pub within : n ≤ length entry
