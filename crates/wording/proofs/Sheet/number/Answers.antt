-- `number` puts digit after digit. Assumes nothing.
use Rattle.rules.specs.Program.{decimal}
use Rattle.wording.proofs.Sheets.{then-writes}
use Rattle.wording.proofs.Sheet.number.Goals as goal

pub returns : goal.returns
unfolding decimal
returns c = rw (← c.figure.ensures) (then-writes c.digit.ensures (then-writes c.digit-2.ensures (then-writes c.digit-3.ensures (then-writes c.digit-4.ensures c.put.ensures))))
