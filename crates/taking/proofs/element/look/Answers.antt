-- `element::look` finds the head of the element at a position. Assumes nothing.
use mathlib.Core.Path.{◌∙◌}
use Rattle.taking.proofs.Heads.{look-few, look-long, look-empty, look-full}
use Rattle.taking.proofs.element.look.Goals as goal

pub returns-in_default : goal.returns-in_default
returns-in_default c = look-few c.args.part.now c.args.at c.in_default.len_below

pub returns-then-value-len : goal.returns-then-value-len
returns-then-value-len c =
    look-long c.args.part.now c.args.at c.from-len.result c.in-len4-up.len_at_least (c.from-len.ensures ∙ c.from_be_bytes.ensures) c.if-value-len.true

pub returns-then-len-eq0 : goal.returns-then-len-eq0
returns-then-len-eq0 c =
    look-empty c.args.part.now c.args.at c.from-len.result c.in-len4-up.len_at_least (c.from-len.ensures ∙ c.from_be_bytes.ensures) c.if-value-len.false c.if-len-eq0.true

pub returns-else-len-eq0 : goal.returns-else-len-eq0
returns-else-len-eq0 c =
    look-full c.args.part.now c.args.at c.from-len.result c.in-len4-up.len_at_least (c.from-len.ensures ∙ c.from_be_bytes.ensures) c.if-value-len.false c.if-len-eq0.false
