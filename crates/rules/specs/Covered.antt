-- Covered octets, and the masked copy. Assumes nothing.
use Rattle.std.specs.Prelude.{ℕ, ◌+◌, ◌-◌, Bool, false, cond, not, ◌&&◌, ◌||◌, List, [], ◌∷◌, ◌++◌, eqb, ltb, leb, length, take, drop, replicate}
use Rattle.rules.specs.Types.{covers_whole, covers_rest}
use Rattle.rules.specs.Listings.{Book}
use Rattle.rules.specs.Framing.{element_header}
use Rattle.rules.specs.Frames.{Frame, hides}
use Rattle.rules.specs.Standing.{Item, kept, unexpected, repeated, short, value_place, value_end}
use Rattle.rules.specs.Table.{laid}
use Rattle.rules.specs.Verdicts.{first, refuses, framing_checks, lent_checks, items, mask_verdict}

-- ---- octet by octet (rule 7.1)

abbrev pub is_value_octet : Item → ℕ → Bool
is_value_octet i j = leb (value_place i) j && ltb j (value_end i)

-- unexpected or repeated: the whole value
abbrev pub is_aside : ℕ → Bool
is_aside s = eqb s unexpected || eqb s repeated

-- kept or short, of a type whose first octet bears on its length: what follows that octet
abbrev pub covers_but_first : Item → ℕ → Bool
covers_but_first i j = covers_rest i.typ && (eqb i.stand kept || eqb i.stand short) && not (eqb j (value_place i))

-- octet j is covered for the sake of the row i's own type and standing
unfoldable pub own_covered : Item → ℕ → Bool
own_covered i j = is_value_octet i j && (is_aside i.stand || covers_whole i.typ || covers_but_first i j)

-- CR 8: each value octet of the elements inside a void group, whose headers stay open
abbrev pub covers_inside : Item → ℕ → Bool
covers_inside i j = is_value_octet i j && hides i.hidden (j - value_place i)

-- octet j is covered for the sake of the row i
unfoldable pub covered_by : Item → ℕ → Bool
covered_by i j = own_covered i j || covers_inside i j

unfoldable pub covered_in : List Item → ℕ → Bool
covered_in [] j = false
covered_in (i ∷ is) j = covered_by i j || covered_in is j

-- of a message that 1 to 9 refuse, no octet is
unfoldable pub covered : Book → ℕ → List ℕ → ℕ → Bool
covered b k m j = not (refuses (first (framing_checks b k m))) && covered_in (items b k m) j

-- ---- by clearing values

-- how many leading octets of a value of so many octets are left open, by its type and standing
unfoldable pub open_octets : ℕ → ℕ → ℕ → ℕ
open_octets t s n = cond (is_aside s || covers_whole t) 0 (cond (covers_rest t && (eqb s kept || eqb s short) && ltb 0 n) 1 n)

-- n octets from a on made zero
unfoldable pub zeroed : List ℕ → ℕ → ℕ → List ℕ
zeroed xs a n = take a xs ++ (replicate n 0 ++ drop (a + n) xs)

-- the part of a row's value that is not open made zero
abbrev pub own_cleared : List ℕ → Item → List ℕ
own_cleared xs i = zeroed xs (value_place i + open_octets i.typ i.stand i.len) (i.len - open_octets i.typ i.stand i.len)

-- the values of elements that stand one after another from a on made zero
unfoldable pub inside_cleared : List ℕ → ℕ → List Frame → List ℕ
inside_cleared xs a [] = xs
inside_cleared xs a (f ∷ fs) = inside_cleared (zeroed xs (a + element_header) f.len) (a + element_header + f.len) fs

-- a row's own value, and those inside it if it is void
abbrev pub cleared : List ℕ → Item → List ℕ
cleared xs i = inside_cleared (own_cleared xs i) (value_place i) i.hidden

unfoldable pub clear_all : List ℕ → List Item → List ℕ
clear_all xs [] = xs
clear_all xs (i ∷ is) = clear_all (cleared xs i) is

-- the message with every covered octet zero
unfoldable pub masked : Book → ℕ → List ℕ → List ℕ
masked b k m = clear_all m (items b k m)

-- the one call writes it unless 1 to 9, 13 or 10 refuse, with a table of so many numbers; so where 11 or 12 do, too. What lies beyond the message is as it was
-- lent (rules 6.3, 6.4)
unfoldable pub call_copy : Book → ℕ → List ℕ → ℕ → List ℕ → List ℕ
call_copy b k m room copy = cond (refuses (first (lent_checks b k m (length copy) room))) copy (laid (masked b k m) copy)

-- with no table asked for
unfoldable pub mask_copy : Book → ℕ → List ℕ → List ℕ → List ℕ
mask_copy b k m copy = cond (refuses (mask_verdict b k m (length copy))) copy (laid (masked b k m) copy)
