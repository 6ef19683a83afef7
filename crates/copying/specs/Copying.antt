-- The message laid over the start of a copy of any length. Assumes nothing.
use Rattle.std.specs.Prelude.{cond, List, ℕ, ltb, length}
use Rattle.rules.specs.Table.{laid}

-- a copy that is shorter stays
unfoldable pub laid_over : List ℕ → List ℕ → List ℕ
laid_over message copy = cond (ltb (length copy) (length message)) copy (laid message copy)
