-- `row_line` puts the first number, and the others. Assumes nothing.
use Rattle.wording.proofs.Sheets.{then-writes}
use Rattle.lines.proofs.Lines.{line-is}
use Rattle.lines.proofs.row_line.Goals as goal

pub returns : goal.returns
returns c = rw (← line-is c.args.row.now c.requires) (then-writes c.number.ensures c.blanked.ensures)
