-- What the rules say of a type number: the least length by a decision over ranges, groups and cover as a table with four types an octet. Assumes nothing.
use Rattle.std.specs.Prelude.{◌≡◌, Bool, cond, ◌&&◌, ◌||◌, List, [], ◌∷◌, ℕ, zero, suc, ◌+◌, ◌*◌, ◌/◌, ◌%◌, ◌^◌, ◌≤◌, ◌<◌, eqb, ltb, get_or}
use Rattle.rules.specs.Types.{least_of, is_group, covers_whole, covers_rest}
use Rattle.rules.specs.Standing.{kept, short}
use Rattle.rules.specs.Covered.{is_aside}
use Rattle.facts.specs.declared.Entry.{Entry}
use Rattle.facts.specs.declared.Entry.TheVariants.{Nothing, Whole, Rest, Group}

-- ---- least lengths

unfoldable pub below79 : ℕ → ℕ
below79 t = cond (eqb t 72) 8 (cond (eqb t 2) 2 (cond (eqb t 74) 4 1))

unfoldable pub between : ℕ → ℕ
between t = cond (eqb t 93) 0 (cond (eqb t 80) 22 (cond (eqb t 81) 21 (cond (eqb t 83) 3 (cond (eqb t 94) 4 (cond (eqb t 95) 2 1)))))

unfoldable pub above95 : ℕ → ℕ
above95 t = cond (eqb t 180) 0 (cond (eqb t 109) 0 (cond (eqb t 183) 4 (cond (eqb t 170) 4 (cond (eqb t 114) 2 (cond (eqb t 255) 2 1)))))

-- three ranges: below 79, 79 to 95, above 95
unfoldable pub by_range : ℕ → ℕ → ℕ → ℕ → ℕ
by_range t low middle high = cond (ltb t 79) low (cond (ltb 95 t) high middle)

-- 87, 86 and 79 by their first octet f
unfoldable pub least_by : ℕ → ℕ → ℕ
least_by t f =
    by_range t (below79 t)
    (cond (eqb t 87) (least_of 87 f) (cond (eqb t 86) (least_of 86 f) (cond (eqb t 79) (least_of 79 f) (between t))))
    (above95 t)

-- ---- the table

-- 1 covered whole, 2 covered but for the first octet, 3 a group, 0 nothing
unfoldable pub mark_of : ℕ → ℕ
mark_of t = cond (covers_whole t) 1 (cond (covers_rest t) 2 (cond (is_group t) 3 0))

-- four types an octet, the first in the lowest bits
unfoldable pub octet_of : ℕ → ℕ
octet_of t = mark_of t + 4 * mark_of (t + 1) + 16 * mark_of (t + 2) + 64 * mark_of (t + 3)

-- so many octets from type t on
unfoldable pub octets_from : ℕ → ℕ → List ℕ
octets_from t zero = []
octets_from t (suc n) = octet_of t ∷ octets_from (t + 4) n

unfoldable pub facts : List ℕ
facts = octets_from 0 64

-- the number of a mark
abbrev pub number_of : Entry → ℕ
number_of Nothing = 0
number_of Whole = 1
number_of Rest = 2
number_of Group = 3

-- the mark of a place in an octet
unfoldable pub mark_at : ℕ → ℕ → ℕ
mark_at four place = four / 2 ^ (2 * place) % 4

unfoldable pub mark_in : List ℕ → ℕ → ℕ
mark_in xs t = mark_at (get_or xs (t / 4) 0) (t % 4)

unfoldable pub group_in : List ℕ → ℕ → Bool
group_in xs t = eqb (mark_in xs t) 3

-- how many leading octets of a value of n octets are left open: none of one that is set aside
unfoldable pub open_in : List ℕ → ℕ → ℕ → ℕ → ℕ
open_in xs t s n =
    cond (is_aside s) 0 (cond (eqb (mark_in xs t) 1) 0 (cond (eqb (mark_in xs t) 2 && (eqb s kept || eqb s short) && ltb 0 n) 1 n))

-- a least length, which is small
pub record Figure (least r : ℕ) : Type 0 where
  pub is : r ≡ least
  pub low : r < 64

-- what a part takes if it is there
pub record Takes (there : Bool) (size r : ℕ) : Type 0 where
  pub is : r ≡ cond there size 0
  pub low : r ≤ size
