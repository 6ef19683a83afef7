-- `by_few` stores by the small scratch where the count says that it holds the rows; where it does not, the copy is as it was. Assumes nothing.
use native.Mathlib.Omega.{arith}
use Rattle.calling.proofs.Settling.{small-left, stored_as}
use Rattle.calling.proofs.stored.by_few.Goals as goal

pub returns-then-d-gt64 : goal.returns-then-d-gt64
returns-then-d-gt64 c =
    rw (small-left c.args.kind c.args.message.now c.decide-d.ensures (omega arith)) at c.by_all-then-d-gt64.ensures

pub returns : goal.returns
returns c = stored_as c.args.kind c.args.message.now c.args.table.now c.decide-d.ensures (omega arith) c.store.ensures
