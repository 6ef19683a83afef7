-- `rows_right` goes row after row: the innermost open group is kept, and the others are its chain. Assumes nothing.
use mathlib.Core.Path.{refl}
use Rattle.given.proofs.Tables.{told_no, told_yes, right_row, row_fits}
use Rattle.given.proofs.Chains.{check-begins, check-goes, check-ends, row-wrong, parent-wrong}
use Rattle.given.proofs.rows_right.Goals as goal
use Rattle.given.proofs.rows_right.Goals.{then-not-row_right-via-then-not-row_right, then-not-row_right-via-else-not-row_right+then-climb-parent, then-is_group, else-is_group}

pub loop-n-init : goal.loop-n-init
loop-n-init g c = check-begins _ _ _

pub returns-then-not-row_right : goal.returns-then-not-row_right
returns-then-not-row_right g c =
    told_no (elim c.then-not-row_right.branch [
      | then-not-row_right-via-then-not-row_right w ↦ row-wrong c.loop-n.invariant c.loop-n-test.true (λ r. w.if-not-row_right.ensures.fails refl (rw c.row-row.ensures (row_fits r)))
      | then-not-row_right-via-else-not-row_right+then-climb-parent w ↦ parent-wrong c.loop-n.invariant c.loop-n-test.true _ _ (rw c.row-row.ensures at c.from-parent.ensures) w.climb.ensures w.if-climb-parent.true
    ])

pub loop-n-preserved : goal.loop-n-preserved
loop-n-preserved g c =
    let e = rw c.row-row.ensures at c.is_group.ensures in
    check-goes c.loop-n.invariant c.loop-n-test.true (right_row (rw c.row-row.ensures at (c.if-not-row_right.ensures.holds refl))) _ _ (rw c.row-row.ensures at c.from-parent.ensures)
    c.climb.ensures c.if-climb-parent.false _
    (elim c.if-is_group.branch [
      | then-is_group w ↦ rw (← e, w.if-is_group.true) w.inner-is
      | else-is_group w ↦ rw (← e, w.if-is_group.false) w.inner-is
    ])

pub returns : goal.returns
returns g c = told_yes (check-ends c.loop-n.invariant c.loop-n-test.false)
