-- The listings without their limits: what is walked while nobody knows yet what a group holds. Assumes nothing.
use Rattle.std.specs.Prelude.{List, [], ◌∷◌}
use Rattle.rules.specs.Listings.{Line, Book}

abbrev pub loose_line : Line → Line
loose_line l = record { typ = l.typ; inst = l.inst; must = l.must; many = l.many; kinds = l.kinds; inside = l.inside; limits = [] }

unfoldable pub loose_lines : List Line → List Line
loose_lines [] = []
loose_lines (l ∷ ls) = loose_line l ∷ loose_lines ls

unfoldable pub loose_levels : List (List Line) → List (List Line)
loose_levels [] = []
loose_levels (ls ∷ more) = loose_lines ls ∷ loose_levels more

unfoldable pub loose : Book → Book
loose b = record { kinds = b.kinds; messages = b.messages; levels = loose_levels b.levels }
