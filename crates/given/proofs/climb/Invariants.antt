-- `climb` goes from a group to its parent, which stands before it, until it is no later than the parent sought. Assumes nothing.
use Rattle.given.proofs.Chains.{Climbing}
use Rattle.given.proofs.climb.Given as goal

abbrev pub invariant-loop-a : goal.invariant-loop-a
invariant-loop-a g l = Climbing (g.T.Numbers.numbers l.table) l.inner l.parent l.a

abbrev pub decreases-loop-a : goal.decreases-loop-a
decreases-loop-a g l = l.a
