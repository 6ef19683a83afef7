-- `rows` answers the rows that a table of the message says, and of any other none. Assumes nothing.
use mathlib.Core.Path.{sym, ◌∙◌}
use native.Mathlib.Omega.{arith}
use Rattle.lookup.proofs.Tables.{of_whole}
use Rattle.lookup.proofs.rows.Goals as goal

pub bounds-table-0 : goal.bounds-table-0
bounds-table-0 c = omega (arith, (of_whole _ _ _ (sym c.is_of.ensures ∙ c.if-is_of.true)).long)
