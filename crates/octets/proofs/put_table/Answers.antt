-- `put_table` stores the header and the rows, or nothing. Assumes nothing.
use Rattle.octets.specs.Stored.{table_stored}
use Rattle.octets.proofs.Octets.{fits, stored}
use Rattle.octets.proofs.put_table.Goals as goal

pub returns : goal.returns
unfolding table_stored
returns c =
    let a = c.args in
    rw (fits a.rows.now a.n a.kept a.typ a.kind a.table.now c.if-n-gt1022.false c.if-n-kept.false c.if-rows-n.false c.if-table-n.false)
    (stored a.rows.now a.n a.kept a.typ a.kind a.table.now c.put_header.ensures c.put_all.ensures)
