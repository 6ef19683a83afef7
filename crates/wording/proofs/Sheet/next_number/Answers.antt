-- `next_number` puts one after the other. Assumes nothing.
use Rattle.wording.proofs.Sheets.{then-writes}
use Rattle.wording.proofs.Sheet.next_number.Goals as goal

pub returns : goal.returns
returns c = then-writes c.put.ensures c.number.ensures
