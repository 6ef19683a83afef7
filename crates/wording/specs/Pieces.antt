-- Pieces of text: one for each number of a run, words and numbers in columns, octets in hex. Assumes nothing.
use Rattle.std.specs.Prelude.{ℕ, zero, suc, ◌+◌, ◌-◌, ◌/◌, ◌%◌, cond, List, [], ◌∷◌, ◌++◌, ltb, length, get_or}

-- the texts of n numbers from i on
unfoldable pub for_each : (ℕ → List ℕ) → ℕ → ℕ → List ℕ
for_each f i zero = []
for_each f i (suc n) = f i ++ for_each f (suc i) n

-- the blanks that fill a column beside so many octets
unfoldable pub gap : ℕ → ℕ → List ℕ
gap width taken = for_each (λ i. 32 ∷ []) taken (width - taken)

-- a text at the left of a column, and at the right
unfoldable pub left_of_room : ℕ → List ℕ → List ℕ
left_of_room width text = text ++ gap width (length text)

unfoldable pub right_in : ℕ → List ℕ → List ℕ
right_in width text = gap width (length text) ++ text

-- `0` to `9`, then `A` to `F`
unfoldable pub hex_digit : ℕ → ℕ
hex_digit d = cond (ltb d 10) (48 + d) (55 + d)

unfoldable pub hex : ℕ → List ℕ
hex x = hex_digit (x / 16) ∷ hex_digit (x % 16) ∷ []

-- the octets of a part one after another
unfoldable pub hexes : List ℕ → List ℕ
hexes part = for_each (λ i. hex (get_or part i 0)) 0 (length part)
