-- `blanked` puts number after number, and the end. Assumes nothing.
use mathlib.Core.List.{◌∷◌}
use lib.ListN.{get_or}
use Rattle.rules.specs.Program.{decimal}
use Rattle.wording.specs.Pieces.{for_each}
use Rattle.wording.specs.Sheets.{Writes}
use Rattle.lines.proofs.blanked.Given as goal

abbrev pub invariant-loop-n : goal.invariant-loop-n
invariant-loop-n l = Writes (for_each (λ i. 32 ∷ decimal (get_or l.numbers i 0)) 0 l.n-index) l.initial.sheet l.sheet
