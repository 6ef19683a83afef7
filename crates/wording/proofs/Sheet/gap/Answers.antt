-- `gap` puts blank after blank. Assumes nothing.
use mathlib.Core.List.{[], ◌∷◌}
use Rattle.wording.specs.Pieces.{for_each, gap}
use Rattle.wording.proofs.Sheets.{writes_none, next_turn, all_turns}
use Rattle.wording.proofs.Sheet.gap.Goals as goal

pub loop-init : goal.loop-init
unfolding for_each
loop-init c = writes_none _

pub loop-preserved : goal.loop-preserved
loop-preserved c = next_turn (λ i. 32 ∷ []) _ _ c.loop.invariant c.put.ensures

pub returns : goal.returns
unfolding gap
returns c = rw (← c.saturating_sub-end.ensures) (all_turns (λ i. 32 ∷ []) _ c.loop.auto.counter-end c.loop-test.false c.loop.invariant)
