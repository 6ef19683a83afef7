-- `dump` puts octet after octet. Assumes nothing.
use mathlib.Core.List.{◌++◌}
use lib.ListN.{get_or}
use Rattle.wording.specs.Pieces.{for_each, hex}
use Rattle.wording.specs.Sheets.{Writes}
use Rattle.refusing.specs.Dumps.{lead}
use Rattle.refusing.proofs.dumps.dump.Given as goal

abbrev pub invariant-loop-i : goal.invariant-loop-i
invariant-loop-i l = Writes (for_each (λ j. lead j ++ hex (get_or l.part j 0)) 0 l.i) l.initial.sheet l.sheet
