-- `wok_part` reads the state, feeds the part and keeps the state, or answers 17. Assumes nothing.
use native.Mathlib.Omega.{arith}
use Rattle.wokpieces.proofs.Calls.{part_refused, part_taken}
use Rattle.wokpieces.proofs.wok_part.Goals as goal

pub returns-in_default : goal.returns-in_default
returns-in_default c =
    let a = c.args in
    part_refused a.state.now a.table.now a.part.now a.five.now c.told.ensures c.in_default.ensures c.verdict.ensures

pub returns : goal.returns
returns c =
    let a = c.args in
    part_taken a.state.now a.table.now a.part.now a.five.now c.told-2.ensures c.in-Some.ensures
    c.feed_table-q.ensures (λ j. omega (arith, c.type_inv.table j)) c.keep.ensures c.accept.ensures
