-- `put_name` by what is asked for. Assumes nothing.
use native.Mathlib.Omega.{arith}
use borrow.Author.Tests.{eq-eqb, ne_eqb}
use Rattle.wording.proofs.Sheets.{writes_none}
use Rattle.wokdesk.specs.Pages.{name_for}
use Rattle.wokdesk.proofs.put_name.Goals as goal

pub returns-in-0 : goal.returns-in-0
unfolding name_for
returns-in-0 c = rw (eq-eqb c.args.what 0 c.in-0.is, ← c.names.ensures, ← c.from-number.ensures, ← c.element.ensures) c.copy.ensures

pub returns-in-1 : goal.returns-in-1
unfolding name_for
returns-in-1 c = rw (ne_eqb c.args.what 0 (λ e. omega (arith, c.in-1.is)), eq-eqb c.args.what 1 c.in-1.is, ← c.from-number.ensures) c.message_name.ensures

pub returns-in_default : goal.returns-in_default
unfolding name_for
returns-in_default c = rw (ne_eqb c.args.what 0 (λ e. omega arith), ne_eqb c.args.what 1 (λ e. omega arith)) (writes_none _)
