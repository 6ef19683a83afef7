-- `slot` says what its four numbers ask for. Assumes nothing.
use Rattle.phrases.proofs.Slots.{asked}
use Rattle.phrases.proofs.sentences.Words.slot.Goals as goal

pub returns : goal.returns
returns c = rw (asked _ _ _ c.slots.ensures (rw c.from.ensures at c.get_or-said.ensures) c.from-2.ensures c.get_or-n.ensures c.from-3.ensures) c.word.ensures
