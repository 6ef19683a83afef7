-- `seen_octets` by the right, then by the table of facts. Assumes nothing.
use Rattle.columns.specs.Values.{seen_octets}
use Rattle.columns.proofs.Types.{open_by}
use Rattle.columns.proofs.values.seen_octets.Goals as goal

pub returns-then-right : goal.returns-then-right
unfolding seen_octets
returns-then-right c = rw c.if-right.true

pub returns-else-right : goal.returns-else-right
unfolding seen_octets
returns-else-right c = rw c.if-right.false (open_by c.args.typ c.args.stand c.args.len c.table.ensures c.type_octet.ensures c.open_octets.ensures)
