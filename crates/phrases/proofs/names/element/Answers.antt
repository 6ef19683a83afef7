-- `element` passes over the blanks at the end. Assumes nothing.
use mathlib.Core.Path.{ap, ◌∙◌}
use native.Mathlib.Omega.{arith}
use Rattle.phrases.specs.Names.{trimmed, element_name}
use Rattle.phrases.proofs.Trimming.{blank-last, name-last, none-last}
use Rattle.phrases.proofs.names.element.Goals as goal

pub loop-name-init : goal.loop-name-init
unfolding element_name
loop-name-init c = ap trimmed c.entry-name.ensures

pub loop-name-preserved : goal.loop-name-preserved
loop-name-preserved c = blank-last _ c.in-32.len_at_least (omega arith) ∙ c.loop-name.invariant

pub returns-in_default : goal.returns-in_default
returns-in_default c = none-last _ c.in_default.len_below ∙ c.loop-name.invariant

pub returns-in_default-2 : goal.returns-in_default-2
returns-in_default-2 c = name-last _ c.in_default.len_at_least (λ e. omega arith) ∙ c.loop-name.invariant
