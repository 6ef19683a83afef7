-- `right` puts what is left of the column, and the number. Assumes nothing.
use Rattle.wording.specs.Pieces.{right_in}
use Rattle.wording.proofs.Sheets.{then-writes}
use Rattle.wording.proofs.Sheet.right.Goals as goal

pub returns : goal.returns
unfolding right_in
returns c = rw (← c.digits.ensures) (then-writes c.gap.ensures c.number.ensures)
