-- `wok_start` keeps a state that holds nothing, and clears the table. Assumes nothing.
use native.Mathlib.Omega.{arith}
use Rattle.std.proofs.lemmas.Grind.{common_steps}
use Rattle.wokpieces.proofs.Calls.{start_short, start_done}
use Rattle.wokpieces.proofs.wok_start.Goals as goal

pub returns-then-state-lt-SIZE : goal.returns-then-state-lt-SIZE
returns-then-state-lt-SIZE c = rw c.verdict.ensures (start_short c.args.kind c.args.state.now c.args.table.now c.if-state-lt-SIZE.true)

pub returns : goal.returns
returns c =
    let a = c.args in
    start_done a.kind a.state.now a.table.now c.if-state-lt-SIZE.false c.anew.ensures c.keep.ensures (grind (arith, common_steps)) (λ j. omega (arith, c.type_inv.table j))
