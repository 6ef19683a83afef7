-- `entered` by the standing, then by the table of facts. Assumes nothing.
use borrow.Author.Tests.{eq-eqb}
use Rattle.columns.proofs.Types.{group-by}
use Rattle.columns.proofs.values.entered.Goals as goal

pub returns-then-stand-eq0 : goal.returns-then-stand-eq0
returns-then-stand-eq0 c = rw (eq-eqb _ _ c.if-stand-eq0.true) (group-by c.args.typ c.table.ensures c.type_octet.ensures c.group.ensures)
