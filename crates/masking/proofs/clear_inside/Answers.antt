-- `clear_inside` goes from element to element, and clears the value of each in its own part of the copy. Assumes nothing.
use native.Mathlib.Omega.{arith}
use Rattle.masking.proofs.Insides.{empty-begins, empty-ends, four-left, fits, again}
use Rattle.masking.proofs.clear_inside.Goals as goal

pub loop-at-init : goal.loop-at-init
loop-at-init c = empty-begins c.args.message.now c.args.place c.args.end c.args.copy.now c.requires

pub two-len-requires : goal.two-len-requires
two-len-requires c =
    omega (arith, four-left c.loop-at.invariant c.loop-at-test.true c.requires.ends, c.requires.ends)

pub clear_value-requires : goal.clear_value-requires
clear_value-requires c =
    let f = fits c.loop-at.invariant c.loop-at-test.true c.requires.ends c.two-len.result c.two-len.ensures in
    (omega arith, omega (arith, f, c.requires.within, c.loop-at.invariant.long))

pub loop-at-preserved : goal.loop-at-preserved
loop-at-preserved c =
    again c.loop-at.invariant c.loop-at-test.true c.requires.ends c.two-len.result c.two-len.ensures _ (omega arith) c.clear_value.ensures

pub returns : goal.returns
returns c = empty-ends c.loop-at.invariant c.loop-at-test.false
