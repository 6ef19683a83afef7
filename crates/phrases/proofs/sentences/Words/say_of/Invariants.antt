-- `say_of` puts piece after piece. Assumes nothing.
use lib.ListN.{get_or}
use Rattle.wording.specs.Sheets.{Writes}
use Rattle.wording.specs.Pieces.{for_each}
use Rattle.phrases.specs.Sentences.{piece_text}
use Rattle.phrases.proofs.sentences.Words.say_of.Given as goal

abbrev pub invariant-loop-octet : goal.invariant-loop-octet
invariant-loop-octet l = Writes (for_each (λ i. piece_text l.self.names.now l.self.run.now (get_or l.octet-items i 0)) 0 l.octet-index) l.initial.sheet l.sheet
