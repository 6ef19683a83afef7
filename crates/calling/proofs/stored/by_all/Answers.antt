-- `by_all` has room for the rows of any message. Assumes nothing.
use native.Mathlib.Omega.{arith}
use Rattle.calling.proofs.Settling.{most-rows, stored_as}
use Rattle.calling.proofs.stored.by_all.Goals as goal

pub returns : goal.returns
returns c =
    let d = c.decide-d.ensures in
    stored_as c.args.kind c.args.message.now c.args.table.now d (omega (arith, most-rows c.args.kind c.args.message.now d)) c.store.ensures
