-- `size` sums row by row. Assumes nothing.
use Rattle.emitting.proofs.Puts.{sum_goes, sum-ends}
use Rattle.emitting.proofs.Rows.size.Goals as goal

pub loop-n-preserved : goal.loop-n-preserved
loop-n-preserved g c = sum_goes c.loop-n.invariant c.loop-n-test.true _ (rw c.row.ensures at c.size-sum.ensures.is) c.size-sum.ensures.low

pub returns : goal.returns
returns g c = let r = sum-ends c.loop-n.invariant c.loop-n-test.false in record { is = r.0; low = r.1 }
