-- `inside` sums up to the first row whose parent stands before. Assumes nothing.
use Rattle.emitting.proofs.Puts.{within-goes, within-stops, within-ends}
use Rattle.emitting.proofs.Rows.inside.Goals as goal

pub returns-then-from-n : goal.returns-then-from-n
returns-then-from-n g c = within-stops c.loop-j.invariant c.loop-j-test.true _ (rw c.row-row.ensures at c.from.ensures) c.if-from-n.true

pub loop-j-preserved : goal.loop-j-preserved
loop-j-preserved g c =
    within-goes c.loop-j.invariant c.loop-j-test.true _ (rw c.row-row.ensures at c.from.ensures) c.if-from-n.false _
    (rw c.row-row.ensures at c.size-sum.ensures.is) c.size-sum.ensures.low

pub returns : goal.returns
returns g c = within-ends c.loop-j.invariant c.loop-j-test.false
