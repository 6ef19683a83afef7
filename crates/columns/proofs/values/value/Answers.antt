-- `value` by whether all of it is seen. Assumes nothing.
use borrow.Author.Tests.{eq-eqb, ne_eqb}
use Rattle.columns.specs.Values.{value_text}
use Rattle.columns.proofs.values.value.Goals as goal

pub returns-then-n-part : goal.returns-then-n-part
unfolding value_text
returns-then-n-part c = rw (eq-eqb _ _ c.if-n-part.true) c.octets.ensures

pub returns-else-n-part : goal.returns-else-n-part
unfolding value_text
returns-else-n-part c = rw (ne_eqb _ _ c.if-n-part.false) c.covered.ensures
