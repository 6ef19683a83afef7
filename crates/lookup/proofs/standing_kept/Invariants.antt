-- `standing_kept` goes by the rows: what is counted, and what the rows left will add, make the whole. Assumes nothing.
use Rattle.lookup.proofs.Tables.{Counting}
use Rattle.lookup.proofs.standing_kept.Given as goal

abbrev pub invariant-loop-row : goal.invariant-loop-row
invariant-loop-row l = Counting l.table l.count l.kept l.row
