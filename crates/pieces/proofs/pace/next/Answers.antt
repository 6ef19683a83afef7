-- `next` counts what is only counted, takes an octet of the header, or goes on in the elements. Assumes nothing.
use Rattle.pieces.proofs.Feeds.{all_idle_is, all_head_is, all_walk_is}
use Rattle.pieces.proofs.pace.next.Goals as goal

pub returns-then-n-gt0 : goal.returns-then-n-gt0
returns-then-n-gt0 c = all_idle_is c.args.p c.args.part.now c.requires.all.count c.idles-n.result c.idles-n.ensures c.if-n-gt0.true c.counted.ensures

pub returns-then-p-start : goal.returns-then-p-start
returns-then-p-start c =
    all_head_is c.args.p c.args.part.now c.requires.all.count c.requires.some (rw c.start.ensures.is at c.if-p-start.true) c.in_header.ensures

pub returns : goal.returns
returns c =
    all_walk_is c.args.p c.args.part.now c.requires.all.count c.walk-s.result (rw c.start.ensures.is at c.if-p-start.false) c.walk-s.ensures c.counted-2.ensures
