-- `hex_digit` by whether it is a decimal digit. Assumes nothing.
use native.Mathlib.Omega.{arith}
use borrow.Author.Tests.{lt-ltb, le-ltb}
use Rattle.wording.specs.Pieces.{hex_digit}
use Rattle.wording.proofs.hex_digit.Goals as goal

pub returns-in-0-to-9 : goal.returns-in-0-to-9
unfolding hex_digit
returns-in-0-to-9 c = rw (lt-ltb c.args.x 10 (omega arith))

pub returns-in_default : goal.returns-in_default
unfolding hex_digit
returns-in_default c = rw (le-ltb c.args.x 10 (omega arith))
