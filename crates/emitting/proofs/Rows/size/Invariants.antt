-- `size` sums row by row. Assumes nothing.
use Rattle.emitting.proofs.Puts.{Summing}
use Rattle.emitting.proofs.Rows.size.Given as goal

abbrev pub invariant-loop-n : goal.invariant-loop-n
invariant-loop-n g l = Summing (g.T.Numbers.numbers l.self.numbers) l.self.count l.sum l.n
