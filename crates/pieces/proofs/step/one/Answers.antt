-- `one` gathers an octet, and goes on with the element once its header is whole. Assumes nothing.
use native.Mathlib.Omega.{arith}
use lib.ListN.{length-drop}
use Rattle.pieces.proofs.Accepting.{rest-is}
use Rattle.pieces.proofs.Fits.{gather-sized}
use Rattle.pieces.proofs.Headed.{one_three, ready_gather, have_gather}
use Rattle.pieces.proofs.step.one.Goals as goal

pub headed-s-requires : goal.headed-s-requires
headed-s-requires c =
    let p = c.requires in
    rw c.gather.ensures (record {
      sized = gather-sized c.args.kind c.args.w p.fits.sized _ (omega (arith, c.in-3.is));
      ready = ready_gather _ p.ready;
      four = have_gather c.args.w _ c.in-3.is;
    })

pub returns-in-3 : goal.returns-in-3
returns-in-3 c =
    let part = c.args.part.now in
    one_three c.args.kind c.args.w part c.requires.ready c.requires.some c.in-3.is c.gather.ensures
    (rw (rest-is part 1) at c.headed-s.ensures) (omega (arith, length-drop 1 part, c.requires.some))
