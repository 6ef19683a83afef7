-- `listed` puts the counts, and then the rows. Assumes nothing.
use Rattle.wording.proofs.Sheets.{then-writes}
use Rattle.lines.specs.Lines.{list_text}
use Rattle.lines.proofs.Reports.{listed_rows}
use Rattle.lines.proofs.listed.Goals as goal

pub returns : goal.returns
unfolding list_text
returns c = then-writes c.said.ensures (rw (listed_rows c.args.table.now, c.from.ensures) at c.row_lines.ensures)
