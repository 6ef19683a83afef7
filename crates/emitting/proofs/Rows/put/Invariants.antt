-- `put` goes by the rows that are laid so far. Assumes nothing.
use Rattle.emitting.specs.Emits.{is_received}
use Rattle.emitting.proofs.Overs.{Putting}
use Rattle.emitting.proofs.Rows.put.Given as goal

abbrev pub invariant-loop-n : goal.invariant-loop-n
invariant-loop-n g l = Putting (g.T.Numbers.numbers l.self.numbers) l.self.count l.source (is_received l.fourth) l.initial.out l.fn.at l.out l.to l.n
