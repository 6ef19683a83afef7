-- `ending` by whether the row is void, and whether a value is shown. Assumes nothing.
use mathlib.Core.Path.{sym, ◌∙◌}
use borrow.Author.Tests.{eq-eqb, ne_eqb}
use Rattle.columns.specs.Values.{ending}
use Rattle.columns.proofs.Types.{seen_most, not-both}
use Rattle.wording.proofs.Sheets.{then-writes}
use Rattle.columns.proofs.values.ending.Goals.{then-entered, else-entered}
use Rattle.columns.proofs.values.ending.Goals as goal

pub returns-then-stand-eq4 : goal.returns-then-stand-eq4
unfolding ending
returns-then-stand-eq4 c = rw (eq-eqb _ _ c.if-stand-eq4.true) (then-writes c.say.ensures c.say-then-stand-eq4.ensures)

pub returns-then-is_empty : goal.returns-then-is_empty
unfolding ending
returns-then-is_empty c =
    rw (ne_eqb _ _ c.if-stand-eq4.false, ← c.entered.ensures) (
    elim c.if-entered.branch [
      | then-entered w ↦ rw w.if-entered.true c.say-then-is_empty.ensures
      | else-entered w ↦ rw (w.if-entered.false, ← w.is_empty.ensures, sym w.value-is ∙ c.if-is_empty.true) c.say-then-is_empty.ensures
    ]
    )

pub value-requires : goal.value-requires
value-requires c = rw c.seen_octets-n.ensures (seen_most _ _ _ _)

pub returns-else-is_empty : goal.returns-else-is_empty
unfolding ending
returns-else-is_empty c =
    rw (ne_eqb _ _ c.if-stand-eq4.false, ← c.entered.ensures, ← c.seen_octets-n.ensures) (
    elim c.if-entered.branch [
      | then-entered w ↦ absurd (not-both (sym w.value-is ∙ c.if-is_empty.false) w.if-entered.true)
      | else-entered w ↦ rw (w.if-entered.false, ← w.is_empty.ensures, sym w.value-is ∙ c.if-is_empty.false) (then-writes c.say-else-is_empty.ensures c.value.ensures)
    ]
    )
