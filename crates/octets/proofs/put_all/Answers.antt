-- `put_all` lays number by number. Assumes nothing.
use mathlib.Core.Path.{refl, ◌∙◌}
use Rattle.octets.proofs.Octets.{laid-more}
use Rattle.rules.specs.Table.{laid}
use Rattle.rules.specs.Octets.{octets_of}
use Rattle.octets.proofs.put_all.Goals as goal

pub loop-i-init : goal.loop-i-init
unfolding laid octets_of
loop-i-init c = refl

pub loop-i-preserved : goal.loop-i-preserved
loop-i-preserved c = c.put.ensures ∙ rw c.loop-i.invariant (laid-more _ _ _ c.loop-i-test.true c.requires)
