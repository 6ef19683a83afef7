-- `copy` has put the start of the text. Assumes nothing.
use lib.Seq.{take_all}
use Rattle.wording.proofs.Sheets.{writes_none, next-octet}
use Rattle.wording.proofs.Sheet.copy.Goals as goal

pub loop-octet-init : goal.loop-octet-init
loop-octet-init c = writes_none _

pub loop-octet-preserved : goal.loop-octet-preserved
loop-octet-preserved c = next-octet _ _ c.loop-octet.invariant c.loop-octet-test.true c.put.ensures

pub returns : goal.returns
returns c = rw (← take_all _ c.args.text.now c.loop-octet-test.false) c.loop-octet.invariant
