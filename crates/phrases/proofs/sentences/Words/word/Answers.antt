-- `word` by what is said. Assumes nothing.
use borrow.Author.Tests.{eq-eqb, ne_eqb}
use Rattle.wording.proofs.Sheets.{writes_none}
use Rattle.phrases.specs.Sentences.{some_decimal, worded}
use Rattle.phrases.proofs.sentences.Words.word.Goals as goal

pub returns-in-Itself : goal.returns-in-Itself
unfolding worded
returns-in-Itself c = rw c.in-Itself.is c.right.ensures

pub returns-then-n-ne0 : goal.returns-then-n-ne0
unfolding worded some_decimal
returns-then-n-ne0 c = rw (c.in-UnlessZero.is, ne_eqb _ _ c.if-n-ne0.true) c.number.ensures

pub returns-else-n-ne0 : goal.returns-else-n-ne0
unfolding worded some_decimal
returns-else-n-ne0 c = rw (c.in-UnlessZero.is, eq-eqb _ _ c.if-n-ne0.false) (writes_none _)

pub returns-in-Element : goal.returns-in-Element
unfolding worded
returns-in-Element c = rw (c.in-Element.is, ← c.element.ensures) c.left.ensures

pub returns-in-Text : goal.returns-in-Text
unfolding worded
returns-in-Text c = rw (c.in-Text.is, ← c.number-in-Text.ensures, ← c.text.ensures) c.left-in-Text.ensures
