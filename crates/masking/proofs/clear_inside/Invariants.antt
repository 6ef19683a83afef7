-- `clear_inside` goes from element to element, and clears the value of each in its own part of the copy. Assumes nothing.
use Prim.Native.Nat.{◌-◌}
use Rattle.masking.proofs.Insides.{Emptying}
use Rattle.masking.proofs.clear_inside.Given as goal

abbrev pub invariant-loop-at : goal.invariant-loop-at
invariant-loop-at l = Emptying l.message l.place l.end l.initial.copy l.copy l.at

abbrev pub decreases-loop-at : goal.decreases-loop-at
decreases-loop-at l = l.end - l.at
