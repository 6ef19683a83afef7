-- `marked` by the place. Assumes nothing.
use borrow.Author.Tests.{eq-eqb, ne_eqb}
use Rattle.columns.specs.Rows.{marked}
use Rattle.columns.proofs.marked.Goals as goal

pub returns-then-from : goal.returns-then-from
unfolding marked
returns-then-from c = rw (← c.from.ensures, ← c.from-2.ensures, eq-eqb _ _ c.if-from.true)

pub returns-else-from : goal.returns-else-from
unfolding marked
returns-else-from c = rw (← c.from.ensures, ← c.from-2.ensures, ne_eqb _ _ c.if-from.false)
