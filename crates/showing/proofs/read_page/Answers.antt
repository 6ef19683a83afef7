-- `read_page` puts what stands over the rows, and the rows. Assumes nothing.
use Rattle.wording.proofs.Sheets.{then-writes}
use Rattle.showing.specs.Showing.{read_page}
use Rattle.showing.proofs.read_page.Goals as goal

pub returns : goal.returns
unfolding read_page
returns c = then-writes c.title.ensures c.lines.ensures
