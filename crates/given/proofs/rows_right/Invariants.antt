-- `rows_right` goes row after row: the innermost open group is kept, and the others are its chain. Assumes nothing.
use Rattle.given.proofs.Chains.{Checking}
use Rattle.given.proofs.rows_right.Given as goal

abbrev pub invariant-loop-n : goal.invariant-loop-n
invariant-loop-n g l = Checking (g.T.Numbers.numbers l.table) l.values l.count l.inner l.n
