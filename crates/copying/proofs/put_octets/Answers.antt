-- `put_octets` goes by the octets that are laid so far. Assumes nothing.
use Rattle.copying.proofs.Copying.{none-laid, next-laid, all-laid}
use Rattle.copying.proofs.put_octets.Goals as goal

pub loop-n-init : goal.loop-n-init
loop-n-init c = none-laid c.args.octets.now c.args.part.now

pub loop-n-preserved : goal.loop-n-preserved
loop-n-preserved c = next-laid c.args.octets.now c.args.part.now c.loop-n.invariant c.loop-n-test.true c.requires

pub returns-clause-after : goal.returns-clause-after
returns-clause-after c = all-laid c.args.octets.now c.args.part.now c.loop-n.invariant c.loop-n.auto.n-end c.loop-n-test.false c.requires
