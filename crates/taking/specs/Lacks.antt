-- What a level lacks by its marks. A place with a pair is one number that grows with the place; 0 is none. Assumes nothing.
use Rattle.std.specs.Prelude.{ℕ, suc, ◌+◌, ◌*◌, cond, not, ◌&&◌, List, [], ◌∷◌, eqb, get_or}
use Rattle.rules.specs.Listings.{Book, Line, listing}
use Rattle.rules.specs.Verdicts.{is_mandatory}

unfoldable pub fault : ℕ → ℕ → ℕ → ℕ
fault o t i = 1 + o * 4096 + t * 16 + i

-- of the lines from number n on, the first that is mandatory on kind k and whose mark is not 2; the level's place is o
unfoldable pub lack_by : ℕ → List ℕ → ℕ → ℕ → List Line → ℕ
lack_by k m o n [] = 0
lack_by k m o n (l ∷ ls) = cond (is_mandatory k l && not (eqb (get_or m n 0) 2)) (fault o l.typ l.inst) (lack_by k m o (suc n) ls)

unfoldable pub lack_of : Book → ℕ → ℕ → List ℕ → ℕ → ℕ
lack_of b k v m o = lack_by k m o 0 (listing b v)
