-- `level::lacking` goes from one mandatory line to the next, and stops at the first that lacks. Assumes nothing.
use Prim.Native.Nat.{◌-◌}
use lib.ListN.{length}
use Rattle.taking.proofs.Lacking.{Searching}
use Rattle.taking.proofs.level.lacking.Given as goal

abbrev pub invariant-loop-n : goal.invariant-loop-n
invariant-loop-n l = Searching l.kind l.level l.seen l.home l.lines l.n

abbrev pub decreases-loop-n : goal.decreases-loop-n
decreases-loop-n l = length l.lines - l.n
