-- `frames::crowded` goes from element to element: what is left, from the count so far, is the whole from none. Assumes nothing.
use native.Mathlib.Omega.{arith}
use Rattle.taking.proofs.Crowds.{crowd-begins, crowd-ends, crowd-breaks, crowd-turns}
use Rattle.taking.proofs.frames.crowded.Goals as goal

pub loop-at-init : goal.loop-at-init
loop-at-init c = crowd-begins _

pub look-requires : goal.look-requires
look-requires c = c.loop-at.invariant.passed

pub returns-in_default : goal.returns-in_default
returns-in_default c = crowd-breaks c.loop-at.invariant c.loop-at-test.true c.in_default.ensures

pub overflow_add-n : goal.overflow_add-n
overflow_add-n c =
    omega (arith, c.apns-n.ensures.low, c.loop-at.invariant.few, c.loop-at.invariant.passed, c.requires)

pub loop-at-preserved : goal.loop-at-preserved
loop-at-preserved c = crowd-turns c.loop-at.invariant c.loop-at-test.true c.in-Some.ensures c.apns-n.ensures

pub returns : goal.returns
returns c = crowd-ends c.loop-at.invariant c.loop-at-test.false
