-- The proof of the cycle of calls {enter_group, read_run}. `read_run` lends `enter_group` a part that is shorter by four octets at least, and
-- `enter_group` hands the same part on: the measures are the part's length, and for `enter_group` one more. The loop's invariant is `Turning`. Assumes nothing.
use Prim.Native.Nat.{◌+◌, ◌-◌}
use lib.ListN.{length}
use Rattle.reading.proofs.Runs.{Turning}
use Rattle.reading.proofs.run.+enter_group_read_run.Given as goal

abbrev pub decreases-enter_group : goal.decreases-enter_group
decreases-enter_group l = length l.group.now + 1

abbrev pub decreases-read_run : goal.decreases-read_run
decreases-read_run l = length l.part.now

abbrev pub invariant-read_run-loop-at : goal.invariant-read_run-loop-at
invariant-read_run-loop-at l =
    Turning l.kind l.level l.parent l.home l.base l.part l.initial.tally l.tally l.seen l.at

abbrev pub decreases-read_run-loop-at : goal.decreases-read_run-loop-at
decreases-read_run-loop-at l = length l.part - l.at
