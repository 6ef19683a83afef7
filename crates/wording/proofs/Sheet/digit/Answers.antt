-- `digit` by whether the number reaches the power. Assumes nothing.
use borrow.Author.Tests.{lt-ltb, le-ltb}
use Rattle.rules.specs.Program.{digit_at}
use Rattle.wording.proofs.Sheets.{writes_none}
use Rattle.wording.proofs.Sheet.digit.Goals as goal

pub returns-then-power-n : goal.returns-then-power-n
unfolding digit_at
returns-then-power-n c = rw (le-ltb _ _ c.if-power-n.true, ← c.figure.ensures) c.put.ensures

pub returns-else-power-n : goal.returns-else-power-n
unfolding digit_at
returns-else-power-n c = rw (lt-ltb _ _ c.if-power-n.false) (writes_none _)
