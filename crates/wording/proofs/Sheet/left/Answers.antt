-- `left` puts the words, and what is left of the column. Assumes nothing.
use Rattle.wording.specs.Pieces.{left_of_room}
use Rattle.wording.proofs.Sheets.{then-writes}
use Rattle.wording.proofs.Sheet.left.Goals as goal

pub returns : goal.returns
unfolding left_of_room
returns c = then-writes c.copy.ensures c.gap.ensures
