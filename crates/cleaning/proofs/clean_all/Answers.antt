-- `clean_all` has room for the rows of any message. Assumes nothing.
use native.Mathlib.Omega.{arith}
use Rattle.cleaning.proofs.Cleans.{most-rows, settles, cleans}
use Rattle.cleaning.proofs.clean_all.Goals as goal

pub settle-requires : goal.settle-requires
settle-requires c =
    let r = c.read-r.ensures in
    settles c.args.kind c.args.message.now r (λ j. omega (arith, c.type_inv.message j)) (omega (arith, most-rows c.args.kind c.args.message.now r))

pub returns-clause-sent : goal.returns-clause-sent
returns-clause-sent c =
    let r = c.read-r.ensures in
    cleans c.args.kind c.args.message.now r (λ j. omega (arith, c.type_inv.message j)) (omega (arith, most-rows c.args.kind c.args.message.now r)) c.args.out.now c.settle.ensures.sent
