-- `seek_plain` goes by the rows: what the rows left say is what all say. Assumes nothing.
use Rattle.std.proofs.Common.{◌≡◌, ◌-◌}
use Rattle.rules.specs.Values.{seek_plain}
use Rattle.lookup.proofs.seek_plain.Given as goal

abbrev pub invariant-loop-row : goal.invariant-loop-row
invariant-loop-row l = seek_plain l.table l.typ l.inst 0 l.count ≡ seek_plain l.table l.typ l.inst l.row (l.count - l.row)
