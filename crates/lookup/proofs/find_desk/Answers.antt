-- `find_desk` counts the table's rows for that message on that kind. Assumes nothing.
use lib.ListN.{length}
use Rattle.lookup.proofs.Tables.{rows_in}
use Rattle.lookup.proofs.Spans.{own-desk}
use Rattle.lookup.proofs.find_desk.Goals as goal

pub desk_row-requires : goal.desk_row-requires
desk_row-requires c = rw c.rows.ensures (rows_in _ _ _)

pub returns : goal.returns
returns c =
    let a = c.args in
    rw (← (own-desk a.kind a.message.now a.table.now a.row (length a.copy.now)), ← c.rows.ensures) c.desk_row.ensures
