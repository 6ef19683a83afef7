-- `level_end` goes from row to row. Assumes nothing.
use mathlib.Core.Path.{◌≡◌, refl, ap, ◌∙◌}
use native.Mathlib.Omega.{arith}
use native.Mathlib.Numerals.{add-one}
use Rattle.refusing.specs.Levels.{inner_end, end_after}
use Rattle.refusing.proofs.levels.level_end.Goals as goal

pub loop-row-init : goal.loop-row-init
unfolding end_after
loop-row-init c = refl

pub loop-row-preserved : goal.loop-row-preserved
unfolding end_after
loop-row-preserved c = rw (add-one c.loop-row.row) (c.inner_end-end.ensures ∙ ap (inner_end c.args.rows.now c.loop-row.row c.args.place) c.loop-row.invariant)

pub returns : goal.returns
returns c = let e : c.loop-row.row ≡ 1022 = omega arith in rw (← e) c.loop-row.invariant
