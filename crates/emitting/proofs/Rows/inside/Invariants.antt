-- `inside` sums up to the first row whose parent stands before. Assumes nothing.
use Rattle.emitting.proofs.Puts.{Within}
use Rattle.emitting.proofs.Rows.inside.Given as goal

abbrev pub invariant-loop-j : goal.invariant-loop-j
invariant-loop-j g l = Within (g.T.Numbers.numbers l.self.numbers) l.fn.n l.self.count l.sum l.j
