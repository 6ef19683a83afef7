-- The messages of a kind. Assumes nothing.
use Rattle.std.specs.Prelude.{cond, List, [], ◌∷◌, ℕ}
use Rattle.rules.specs.Types.{among}
use Rattle.rules.specs.Listings.{Message}

-- the types of those that are sent on kind k
unfoldable pub types_on : ℕ → List Message → List ℕ
types_on k [] = []
types_on k (x ∷ xs) = cond (among k x.kinds) (x.typ ∷ types_on k xs) (types_on k xs)
