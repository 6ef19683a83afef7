-- `climb` goes from a group to its parent, which stands before it, until it is no later than the parent sought. Assumes nothing.
use Rattle.given.proofs.Chains.{climb-less, climb-goes, climb-ends}
use Rattle.given.proofs.climb.Goals as goal

pub loop-a-smaller : goal.loop-a-smaller
loop-a-smaller g c = climb-less c.loop-a.invariant c.requires c.loop-a-test.true _ (rw c.row.ensures at c.from-a.ensures)

pub loop-a-preserved : goal.loop-a-preserved
loop-a-preserved g c = climb-goes c.loop-a.invariant c.requires c.loop-a-test.true _ (rw c.row.ensures at c.from-a.ensures)

pub returns : goal.returns
returns g c = climb-ends c.loop-a.invariant c.loop-a-test.false
