-- The octet forms for the C receiver: two octets a number, high octet first. Assumes nothing.
use Rattle.std.specs.Prelude.{ℕ, ◌+◌, ◌*◌, ◌/◌, ◌%◌, cond, List, [], ◌∷◌, ltb, length}
use Rattle.rules.specs.Sizes.{five_octets, answer_octets}
use Rattle.rules.specs.Framing.{message_type}
use Rattle.rules.specs.Listings.{Book}
use Rattle.rules.specs.Table.{laid, table_of}
use Rattle.rules.specs.Verdicts.{items, refuses, call_verdict}
use Rattle.rules.specs.declared.Verdict.{Verdict}

unfoldable pub octets_of : List ℕ → List ℕ
octets_of [] = []
octets_of (x ∷ xs) = x / 256 ∷ x % 256 ∷ octets_of xs

-- and read again: an odd last octet is no number
abbrev pub number_of : ℕ → ℕ → ℕ
number_of high low = high * 256 + low

unfoldable pub numbers_in : List ℕ → List ℕ
numbers_in [] = []
numbers_in (x ∷ []) = []
numbers_in (x ∷ y ∷ xs) = number_of x y ∷ numbers_in xs

abbrev pub five : Verdict → List ℕ
five v = v.code ∷ v.cause ∷ v.place ∷ v.typ ∷ v.inst ∷ []

-- written where there is room for all ten octets, and over those alone (rule 9.3)
unfoldable pub five_laid : Verdict → List ℕ → List ℕ
five_laid v buffer = cond (ltb (length buffer) five_octets) buffer (laid (octets_of (five v)) buffer)

-- the same with one more number, the length of what is written: all twelve octets or none (rule 9.4)
abbrev pub six : Verdict → ℕ → List ℕ
six v n = v.code ∷ v.cause ∷ v.place ∷ v.typ ∷ v.inst ∷ n ∷ []

unfoldable pub answer_laid : Verdict → ℕ → List ℕ → List ℕ
answer_laid v n buffer = cond (ltb (length buffer) answer_octets) buffer (laid (octets_of (six v n)) buffer)

-- whole numbers only: an odd octet at the end is left alone (rule 9.2)
abbrev pub table_room : List ℕ → ℕ
table_room octets = length octets / 2

-- what the one call leaves in a table lent so, beside a copy buffer of so many octets
unfoldable pub call_octets : Book → ℕ → List ℕ → ℕ → List ℕ → List ℕ
call_octets b k m room octets =
    cond (refuses (call_verdict b k m room (table_room octets))) octets (laid (octets_of (table_of (message_type m) k (items b k m))) octets)
