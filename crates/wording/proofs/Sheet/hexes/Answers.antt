-- `hexes` puts octet after octet. Assumes nothing.
use Rattle.wording.specs.Pieces.{hexes, for_each}
use Rattle.wording.proofs.Sheets.{writes_none, next-number, all_turns}
use Rattle.wording.proofs.Sheet.hexes.Goals as goal

pub loop-octet-init : goal.loop-octet-init
unfolding for_each
loop-octet-init c = writes_none _

pub loop-octet-preserved : goal.loop-octet-preserved
loop-octet-preserved c = next-number _ _ c.loop-octet.invariant c.hex.ensures

pub returns : goal.returns
unfolding hexes
returns c = all_turns _ _ c.loop-octet.auto.octet-index-end c.loop-octet-test.false c.loop-octet.invariant
