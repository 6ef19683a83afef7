-- `line` puts the numbers, what the desk is answered, the mark and the line's end. Assumes nothing.
use Rattle.columns.proofs.Lining.{has-rows, has-row, line_put}
use Rattle.columns.proofs.Listing.line.Goals as goal

pub row_run-run-requires : goal.row_run-run-requires
row_run-run-requires c = has-row c.requires

pub desk_part-part-requires : goal.desk_part-part-requires
desk_part-part-requires c = has-rows c.requires

pub returns : goal.returns
returns c = let s = c.args.self.now in line_put s.names.now s.table.now s.view s.verdict c.args.count c.args.row s.message s.copy c.desk_part-part.result c.requires.all c.desk_part-part.ensures c.row_run-run.ensures c.marked.ensures c.say.ensures c.ending.ensures c.say-2.ensures c.put.ensures
