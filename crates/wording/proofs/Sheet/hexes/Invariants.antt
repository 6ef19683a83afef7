-- `hexes` puts octet after octet. Assumes nothing.
use lib.ListN.{get_or}
use Rattle.wording.specs.Pieces.{for_each, hex}
use Rattle.wording.specs.Sheets.{Writes}
use Rattle.wording.proofs.Sheet.hexes.Given as goal

abbrev pub invariant-loop-octet : goal.invariant-loop-octet
invariant-loop-octet l = Writes (for_each (λ i. hex (get_or l.part i 0)) 0 l.octet-index) l.initial.self l.self
