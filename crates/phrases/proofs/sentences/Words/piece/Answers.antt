-- `piece` by whether the octet is a slot. Assumes nothing.
use native.Mathlib.Omega.{arith}
use borrow.Author.Tests.{lt-ltb, le-ltb}
use Rattle.phrases.specs.Sentences.{piece_text}
use Rattle.phrases.proofs.sentences.Words.piece.Goals as goal

pub returns-in-0-to-127 : goal.returns-in-0-to-127
unfolding piece_text
returns-in-0-to-127 c = rw (lt-ltb c.args.octet 128 (omega arith)) c.put.ensures

pub returns-in_default : goal.returns-in_default
unfolding piece_text
returns-in_default c = rw (le-ltb c.args.octet 128 (omega arith)) c.slot.ensures
