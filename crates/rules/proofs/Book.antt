-- The listings pass the tests that the theorems ask for: by computation. Assumes nothing.
use mathlib.Core.Path.{◌≡◌, refl}
use mathlib.Core.Bool.{Bool, true, false, cond, not, beq}
use mathlib.Core.List.{List, [], ◌∷◌, map}
use Prim.Native.Nat.{ℕ, ◌<◌}
use native.Mathlib.Omega.{arith}
use native.Mathlib.Decide.{ℕ_discrete}
use borrow.Author.Tests.{ne_eqb}
use lib.Dec.{ltb}
use lib.ListN.{length, get_or}
use Rattle.rules.specs.Types.{among, groups, is_group}
use Rattle.rules.specs.Listings.{empty_line, Line, gateways, levels, messages, book, seek, seek_message, listing, message_of}
use Rattle.rules.specs.Sound.{every_line, clash, distinct, every_level, every_message, sound, flat_lines, flat_levels, flat}

pub book-sound : sound book ≡ true
unfolding sound book levels messages every_level every_message every_line distinct clash is_group groups
book-sound = refl

pub book-flat : flat book ≡ true
unfolding flat flat_levels flat_lines book levels listing every_line
book-flat = refl

-- the pair t/i is listed in the body of a message on kind k
abbrev pub listed_in : ℕ → ℕ → ℕ → ℕ → Bool
listed_in message t i k = ltb (seek (listing book (message_of book message).body) k t i) (length (listing book (message_of book message).body))

-- on every kind that has them 180/1 is listed in exactly one of 66 and 67
pub one_of_two : map (λ (k : ℕ). beq (listed_in 66 180 1 k) (not (listed_in 67 180 1 k))) gateways ≡ true ∷ true ∷ true ∷ []
unfolding book levels messages seek seek_message listing message_of
one_of_two = refl

-- type and instance of the mandatory lines, in their order
unfoldable pub mandatory : List Line → List (List ℕ)
mandatory [] = []
mandatory (l ∷ ls) = cond l.must ((l.typ ∷ l.inst ∷ []) ∷ mandatory ls) (mandatory ls)

-- in the body of 32 these four
pub must-of_32 : mandatory (listing book (message_of book 32).body) ≡ (82 ∷ 0 ∷ []) ∷ (87 ∷ 0 ∷ []) ∷ (71 ∷ 0 ∷ []) ∷ (93 ∷ 0 ∷ []) ∷ []
unfolding mandatory book levels messages seek_message listing message_of
must-of_32 = refl

-- what 131 must have, and what may stand more than once in it: at its body, in its connections, and in their bearers
unfoldable pub repeating : List Line → List (List ℕ)
repeating [] = []
repeating (l ∷ ls) = cond l.many ((l.typ ∷ l.inst ∷ []) ∷ repeating ls) (repeating ls)

-- the level inside the pair t/i of level v
abbrev pub inside_of : ℕ → ℕ → ℕ → ℕ
inside_of t i v = (get_or (listing book v) (seek (listing book v) 4 t i) empty_line).inside

abbrev pub body_of131 : ℕ
body_of131 = (message_of book 131).body

abbrev pub levels_of131 : List ℕ
levels_of131 = body_of131 ∷ inside_of 109 0 body_of131 ∷ inside_of 93 0 (inside_of 109 0 body_of131) ∷ []

-- three levels of their own, and no other message's
pub levels-of_131 : levels_of131 ≡ 16 ∷ 17 ∷ 18 ∷ []
unfolding book levels messages seek seek_message listing message_of
levels-of_131 = refl

pub must-of_131 : map (λ (v : ℕ). mandatory (listing book v)) levels_of131
    ≡ ((2 ∷ 0 ∷ []) ∷ [])
    ∷ ((71 ∷ 0 ∷ []) ∷ (73 ∷ 0 ∷ []) ∷ (87 ∷ 0 ∷ []) ∷ (93 ∷ 0 ∷ []) ∷ (72 ∷ 0 ∷ []) ∷ [])
    ∷ ((73 ∷ 0 ∷ []) ∷ (80 ∷ 0 ∷ []) ∷ [])
    ∷ []
unfolding mandatory book levels messages seek seek_message listing message_of
must-of_131 = refl

pub many-of_131 : map (λ (v : ℕ). repeating (listing book v)) levels_of131
    ≡ ((109 ∷ 0 ∷ []) ∷ (255 ∷ 16 ∷ []) ∷ []) ∷ ((93 ∷ 0 ∷ []) ∷ []) ∷ [] ∷ []
unfolding repeating book levels messages seek seek_message listing message_of
many-of_131 = refl

-- a kind is a small number
pub kind-low : (k : ℕ) → among k book.kinds ≡ true → k < 5
unfolding book
kind-low k e = go (ℕ_discrete k 1) (ℕ_discrete k 2) (ℕ_discrete k 3) (ℕ_discrete k 4)
  where
    go : Dec (k ≡ 1) → Dec (k ≡ 2) → Dec (k ≡ 3) → Dec (k ≡ 4) → k < 5
    go (yes p) q r s = omega arith
    go (no p) (yes q) r s = omega arith
    go (no p) (no q) (yes r) s = omega arith
    go (no p) (no q) (no r) (yes s) = omega arith
    go (no p) (no q) (no r) (no s) = let z : false ≡ true = rw (ne_eqb k 1 p, ne_eqb k 2 q, ne_eqb k 3 r, ne_eqb k 4 s) at e in let y : ◌≡◌ {A = ℕ} 0 1 = cc in absurd (omega arith)
