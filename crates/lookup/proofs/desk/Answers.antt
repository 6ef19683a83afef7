-- `desk` counts the table's rows for that message on that kind. Assumes nothing.
use lib.ListN.{length}
use Rattle.lookup.proofs.Tables.{rows_in}
use Rattle.lookup.proofs.Spans.{own-desk}
use Rattle.lookup.proofs.desk.Goals as goal

pub desk_part-requires : goal.desk_part-requires
desk_part-requires c = rw c.rows.ensures (rows_in _ _ _)

pub returns : goal.returns
returns c =
    let a = c.args in
    rw (← (own-desk a.kind a.message.now a.table.now a.row (length a.copy.now)), ← c.rows.ensures) c.desk_part.ensures
