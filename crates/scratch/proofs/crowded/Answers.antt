-- `crowded` goes from sibling to sibling: what is left to ask says what was asked. Assumes nothing.
use borrow.Author.Tests.{le-leb, lt-leb}
use Rattle.scratch.specs.Guessing.{crowded}
use Rattle.scratch.proofs.Guess.{begins, ends, next, last}
use Rattle.scratch.proofs.crowded.Goals as goal

pub returns-then-message-le-SLIP : goal.returns-then-message-le-SLIP
unfolding crowded
returns-then-message-le-SLIP c = rw (le-leb _ _ c.if-message-le-SLIP.true)

pub loop-init : goal.loop-init
loop-init c = begins _ c.start-at.ensures

pub returns-then-message-at : goal.returns-then-message-at
unfolding crowded
returns-then-message-at c = rw (lt-leb _ _ c.if-message-le-SLIP.false) (ends _ _ _ c.loop.invariant c.loop-test.true c.if-message-at.true)

pub loop-preserved : goal.loop-preserved
loop-preserved c = next _ _ _ c.loop.invariant c.loop-test.true c.if-message-at.false c.two.ensures

pub returns : goal.returns
unfolding crowded
returns c = rw (lt-leb _ _ c.if-message-le-SLIP.false) (last _ _ _ c.loop.invariant c.loop-test.false)
