-- `standing_kept` goes by the rows: what is counted, and what the rows left will add, make the whole. Assumes nothing.
use mathlib.Core.Path.{sym, ◌∙◌}
use Rattle.lookup.proofs.Tables.{counted, passed, count_ends}
use Rattle.lookup.proofs.standing_kept.Goals as goal
use Rattle.lookup.proofs.standing_kept.Goals.{then-number-eq0, else-number-eq0}

pub loop-row-preserved : goal.loop-row-preserved
loop-row-preserved c =
    let i = c.loop-row.invariant in
    elim c.if-number-eq0.branch [
      | then-number-eq0 w ↦ rw w.kept-is (counted _ _ i c.loop-row-test.true (sym c.number.ensures ∙ w.if-number-eq0.true))
      | else-number-eq0 w ↦ rw w.kept-is (passed _ _ i c.loop-row-test.true (λ e. w.if-number-eq0.false (c.number.ensures ∙ e)))
    ]

pub returns : goal.returns
returns c = count_ends _ _ c.loop-row.invariant c.loop-row-test.false
