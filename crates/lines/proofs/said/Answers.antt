-- `said` puts one after the other. Assumes nothing.
use Rattle.wording.proofs.Sheets.{then-writes}
use Rattle.lines.proofs.said.Goals as goal

pub returns : goal.returns
returns c = then-writes c.copy.ensures c.blanked.ensures
