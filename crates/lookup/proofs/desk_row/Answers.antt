-- `desk_row` tests what the definition does. Assumes nothing.
use mathlib.Core.Path.{◌≡◌}
use native.Mathlib.Omega.{arith}
use lib.ListN.{length}
use Rattle.lookup.proofs.Spans.{apart, alike}
use Rattle.lookup.proofs.desk_row.Goals as goal

pub returns-then-message-copy : goal.returns-then-message-copy
returns-then-message-copy c = apart _ _ _ _ _ (λ e. omega arith)

pub returns-then-right : goal.returns-then-right
returns-then-right c =
    let same : length c.args.copy.now ≡ length c.args.message.now = omega arith in
    rw (c.if-right.true, alike c.args.count c.args.row (length c.args.message.now) (length c.args.copy.now) c.args.table.now (omega arith), same) c.row_part.ensures

pub returns-else-right : goal.returns-else-right
returns-else-right c = rw (c.if-right.false, alike c.args.count c.args.row (length c.args.message.now) (length c.args.copy.now) c.args.table.now (omega arith)) c.row_part-else-right.ensures
