-- `lead` by whether a line begins. Assumes nothing.
use borrow.Author.Tests.{eq-eqb, ne_eqb}
use Rattle.wording.proofs.Sheets.{then-writes}
use Rattle.refusing.specs.Dumps.{lead}
use Rattle.refusing.proofs.dumps.lead.Goals as goal

pub returns-then-i-eq0 : goal.returns-then-i-eq0
unfolding lead
returns-then-i-eq0 c = rw (eq-eqb _ _ c.if-i-eq0.true, ← c.narrow.ensures) (then-writes c.new_line.ensures (then-writes c.right.ensures c.copy.ensures))

pub returns-else-i-eq0 : goal.returns-else-i-eq0
unfolding lead
returns-else-i-eq0 c = rw (ne_eqb _ _ c.if-i-eq0.false) c.put.ensures
