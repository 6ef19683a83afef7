-- `copy` has put the start of the text. Assumes nothing.
use lib.ListN.{take}
use Rattle.wording.specs.Sheets.{Writes}
use Rattle.wording.proofs.Sheet.copy.Given as goal

abbrev pub invariant-loop-octet : goal.invariant-loop-octet
invariant-loop-octet l = Writes (take l.octet-index l.text) l.initial.self l.self
