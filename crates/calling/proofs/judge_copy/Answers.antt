-- `judge_copy` has room for the rows of any message. Assumes nothing.
use native.Mathlib.Omega.{arith}
use Rattle.calling.proofs.Settling.{most-rows, settles, called}
use Rattle.calling.proofs.judge_copy.Goals as goal

pub settle-requires : goal.settle-requires
settle-requires c =
    let d = c.decide-d.ensures in
    settles c.args.kind c.args.message.now c.args.table.now d (omega (arith, most-rows c.args.kind c.args.message.now d))

pub returns : goal.returns
returns c =
    let d = c.decide-d.ensures in
    called c.args.kind c.args.message.now c.args.table.now d (omega (arith, most-rows c.args.kind c.args.message.now d)) c.settle.ensures
