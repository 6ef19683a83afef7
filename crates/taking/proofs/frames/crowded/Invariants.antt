-- `frames::crowded` goes from element to element: what is left, from the count so far, is the whole from none. Assumes nothing.
use Prim.Native.Nat.{◌-◌}
use lib.ListN.{length}
use Rattle.taking.proofs.Crowds.{Crowding}
use Rattle.taking.proofs.frames.crowded.Given as goal

abbrev pub invariant-loop-at : goal.invariant-loop-at
invariant-loop-at l = Crowding l.value l.at l.n

abbrev pub decreases-loop-at : goal.decreases-loop-at
decreases-loop-at l = length l.value - l.at
