-- `covered` puts one after the other. Assumes nothing.
use Rattle.wording.proofs.Sheets.{then-writes}
use Rattle.columns.proofs.values.covered.Goals as goal

pub returns : goal.returns
returns c = then-writes c.hexes.ensures (rw c.narrow.ensures at c.say.ensures)
