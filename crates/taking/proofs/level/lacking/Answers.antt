-- `level::lacking` goes from one mandatory line to the next, and stops at the first that lacks. Assumes nothing.
use mathlib.Core.Path.{◌∙◌}
use native.Mathlib.Omega.{arith}
use Rattle.taking.proofs.Lacking.{begun, at_here, at_next, at-end}
use Rattle.taking.proofs.Lent.{small}
use Rattle.taking.proofs.level.lacking.Goals as goal

pub loop-n-init : goal.loop-n-init
loop-n-init c = begun c.requires.lent

pub offset_bounds-lines-n : goal.offset_bounds-lines-n
offset_bounds-lines-n c = omega (arith, small c.loop-n.invariant.lent)

pub bounds-lines-n : goal.bounds-lines-n
bounds-lines-n c = c.loop-n-test.true

pub bounds-seen-n : goal.bounds-seen-n
bounds-seen-n c = omega (arith, small c.loop-n.invariant.lent, c.loop-n-test.true)

pub fault_at-requires : goal.fault_at-requires
fault_at-requires c = c.requires.home

pub returns-then-line_lacks : goal.returns-then-line_lacks
returns-then-line_lacks c =
    at_here c.loop-n.invariant c.loop-n-test.true c.line_lacks.ensures c.if-line_lacks.true c.fault_at.result (c.fault_at.ensures ∙ rw (c.type_of.ensures, c.inst_of.ensures))

pub overflow_add-n : goal.overflow_add-n
overflow_add-n c = omega (arith, c.skip.ensures.low)

pub overflow_add-n-in-loop-n : goal.overflow_add-n-in-loop-n
overflow_add-n-in-loop-n c =
    omega (arith, c.skip.ensures.low, small c.loop-n.invariant.lent, c.loop-n-test.true)

pub loop-n-smaller : goal.loop-n-smaller
loop-n-smaller c = omega (arith, c.loop-n-test.true)

pub loop-n-preserved : goal.loop-n-preserved
loop-n-preserved c =
    at_next c.loop-n.invariant c.loop-n-test.true c.line_lacks.ensures c.if-line_lacks.false c.skip.result c.skip.ensures.is

pub returns : goal.returns
returns c = at-end c.loop-n.invariant c.loop-n-test.false
