-- `clean` settles by the small scratch where the count says that it holds the rows. Assumes nothing.
use native.Mathlib.Omega.{arith}
use Rattle.cleaning.proofs.Cleans.{settles, cleans}
use Rattle.cleaning.proofs.clean.Goals as goal

pub settle-requires : goal.settle-requires
settle-requires c =
    settles c.args.kind c.args.message.now c.read-r.ensures (λ j. omega (arith, c.type_inv.message j)) (omega (arith, c.if-r-gt64.false))

pub returns-clause-sent : goal.returns-clause-sent
returns-clause-sent c =
    cleans c.args.kind c.args.message.now c.read-r.ensures (λ j. omega (arith, c.type_inv.message j)) (omega (arith, c.if-r-gt64.false)) c.args.out.now c.settle.ensures.sent
