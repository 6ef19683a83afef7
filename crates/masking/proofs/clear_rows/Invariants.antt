-- `clear_rows` goes by the rows that are cleared so far. Assumes nothing.
use Rattle.std.proofs.Common.{◌≡◌}
use Rattle.masking.specs.Clearing.{cleared_rows}
use Rattle.masking.proofs.clear_rows.Given as goal

abbrev pub invariant-loop-row : goal.invariant-loop-row
invariant-loop-row l = l.copy ≡ cleared_rows l.rows l.message l.row l.initial.copy
