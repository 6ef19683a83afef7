-- `level_end` goes from row to row. Assumes nothing.
use mathlib.Core.Path.{◌≡◌}
use Rattle.refusing.specs.Levels.{end_after}
use Rattle.refusing.proofs.levels.level_end.Given as goal

abbrev pub invariant-loop-row : goal.invariant-loop-row
invariant-loop-row l = l.end ≡ end_after l.rows l.place l.size l.row
