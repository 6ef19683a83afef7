-- `hex` puts one digit after the other. Assumes nothing.
use Rattle.wording.specs.Pieces.{hex}
use Rattle.wording.proofs.Sheets.{then-writes}
use Rattle.wording.proofs.Sheet.hex.Goals as goal

pub returns : goal.returns
unfolding hex
returns c = rw (← c.hex_digit.ensures, ← c.hex_digit-2.ensures) (then-writes c.put.ensures c.put-2.ensures)
