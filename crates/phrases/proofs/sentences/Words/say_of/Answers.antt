-- `say_of` puts piece after piece. Assumes nothing.
use Rattle.wording.specs.Pieces.{for_each}
use Rattle.wording.proofs.Sheets.{writes_none, next-number, all_turns}
use Rattle.phrases.specs.Sentences.{filled, said}
use Rattle.phrases.proofs.sentences.Words.say_of.Goals as goal

pub loop-octet-init : goal.loop-octet-init
unfolding for_each
loop-octet-init c = writes_none _

pub loop-octet-preserved : goal.loop-octet-preserved
loop-octet-preserved c = next-number _ _ c.loop-octet.invariant c.piece.ensures

pub returns : goal.returns
unfolding said filled
returns c = rw (← c.text-octet-items.ensures) (all_turns _ _ c.loop-octet.auto.octet-index-end c.loop-octet-test.false c.loop-octet.invariant)
