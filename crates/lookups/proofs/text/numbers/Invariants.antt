-- `text::numbers` lays a number down only where there is room. Assumes nothing.
use Rattle.std.proofs.Common.{◌≤◌, length}
use Rattle.lookups.proofs.text.numbers.Given as goal

abbrev pub invariant-loop-part : goal.invariant-loop-part
invariant-loop-part l = l.n ≤ length l.room
