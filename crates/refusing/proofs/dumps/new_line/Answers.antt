-- `new_line` by whether it is the first. Assumes nothing.
use borrow.Author.Tests.{eq-eqb, ne_eqb}
use Rattle.wording.proofs.Sheets.{writes_none}
use Rattle.refusing.specs.Dumps.{line_break}
use Rattle.refusing.proofs.dumps.new_line.Goals as goal

pub returns-then-i-ne0 : goal.returns-then-i-ne0
unfolding line_break
returns-then-i-ne0 c = rw (ne_eqb _ _ c.if-i-ne0.true) c.put.ensures

pub returns-else-i-ne0 : goal.returns-else-i-ne0
unfolding line_break
returns-else-i-ne0 c = rw (eq-eqb _ _ c.if-i-ne0.false) (writes_none _)
