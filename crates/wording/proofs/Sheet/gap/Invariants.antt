-- `gap` puts blank after blank. Assumes nothing.
use mathlib.Core.List.{[], ◌∷◌}
use Rattle.wording.specs.Pieces.{for_each}
use Rattle.wording.specs.Sheets.{Writes}
use Rattle.wording.proofs.Sheet.gap.Given as goal

abbrev pub invariant-loop : goal.invariant-loop
invariant-loop l = Writes (for_each (λ i. 32 ∷ []) l.taken l.counter) l.initial.self l.self
