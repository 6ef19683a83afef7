use mathlib.Core.Bool.{not}
use mathlib.Core.Path.{ap}
use Rattle.pieces.proofs.Accepting.{not_so, not-not}
use Rattle.pieces.proofs.Ends.{part_out, part_in}
use Rattle.pieces.proofs.part.Goals as goal

pub returns-then-not-ready : goal.returns-then-not-ready
returns-then-not-ready c = part_out c.args.p c.args.octets.now c.args.table.now (not_so _ c.ready.ensures.is (ap not c.if-not-ready.true)) c.out.ensures

pub returns : goal.returns
returns c = part_in c.args.p c.args.octets.now c.args.table.now _ (not-not _ c.ready.ensures.is (ap not c.if-not-ready.false)) c.min-from.ensures c.feed.ensures c.accept.ensures
