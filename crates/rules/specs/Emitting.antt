-- Rows written out as octets (rule 11.2), for any message that is made of rows. Assumes nothing.
use Rattle.std.specs.Prelude.{ℕ, ◌+◌, ◌/◌, ◌%◌, Bool, cond, not, ◌&&◌, List, [], ◌∷◌, ◌++◌, eqb, ltb, length}
use Rattle.rules.specs.Sizes.{used}
use Rattle.rules.specs.Framing.{element_header}
use Rattle.rules.specs.Types.{is_group}
use Rattle.rules.specs.Listings.{Book}
use Rattle.rules.specs.Standing.{kept}
use Rattle.rules.specs.Table.{kept_rows}
use Rattle.rules.specs.Verdicts.{refuses, items, judge_verdict}
use Rattle.rules.specs.declared.Verdict.{Verdict}

-- A row to be written: its parent (0 for the message, else that row's number counted from 1), its type, the last octet of its header, its standing,
-- and its value, of which a group has none of its own.
pub record Piece : Type 0 where
  pub parent : ℕ
  pub typ : ℕ
  pub fourth : ℕ
  pub stand : ℕ
  pub value : List ℕ

-- what is set aside is not written
abbrev pub stays : Piece → Bool
stays x = eqb x.stand kept

-- the octets that it takes of itself
unfoldable pub size_of : Piece → ℕ
size_of x = cond (stays x) (element_header + length x.value) 0

unfoldable pub sizes : List Piece → ℕ
sizes [] = 0
sizes (x ∷ xs) = size_of x + sizes xs

-- the octets that the inside of row r takes: rows stand depth first, so its inside is the rows that follow it, up to the first whose parent stands before it
unfoldable pub within : ℕ → List Piece → ℕ
within r [] = 0
within r (x ∷ xs) = cond (ltb x.parent r) 0 (size_of x + within r xs)

-- type, length of the value, last octet
abbrev pub head_octets : ℕ → ℕ → ℕ → List ℕ
head_octets t n f = t ∷ n / 256 ∷ n % 256 ∷ f ∷ []

-- the length that is written into the header of a row, which `after` follow
abbrev pub length_of : ℕ → Piece → List Piece → ℕ
length_of r x after = cond (is_group x.typ) (within r after) (length x.value)

-- the rows from number n + 1 on
unfoldable pub emitted : ℕ → List Piece → List ℕ
emitted n [] = []
emitted n (x ∷ xs) =
    cond (stays x) (head_octets x.typ (length_of (n + 1) x xs) x.fourth ++ (x.value ++ emitted (n + 1) xs)) (emitted (n + 1) xs)

-- the rows that stay, with their parents numbered anew
unfoldable pub remaining : (ℕ → ℕ) → List Piece → List Piece
remaining anew [] = []
remaining anew (x ∷ xs) =
    cond (stays x)
    (record { parent = anew x.parent; typ = x.typ; fourth = x.fourth; stand = x.stand; value = x.value } ∷ remaining anew xs)
    (remaining anew xs)

-- a message of these octets 0 and 1, what else stands in its header after the length, and its body
abbrev pub written : ℕ → ℕ → List ℕ → List ℕ → List ℕ
written first typ rest body =
    first ∷ typ ∷ (length rest + length body) / 256 ∷ (length rest + length body) % 256 ∷ (rest ++ body)

-- the judge's verdict with a table large enough
abbrev pub amply : Book → ℕ → List ℕ → Verdict
amply b k m = judge_verdict b k m (used (length (items b k m)))

-- accepted, and every row is kept
abbrev pub accepted_whole : Book → ℕ → List ℕ → Bool
accepted_whole b k m = not (refuses (amply b k m)) && eqb (kept_rows (items b k m)) (length (items b k m))
