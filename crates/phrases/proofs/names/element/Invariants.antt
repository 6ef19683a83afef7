-- `element` passes over the blanks at the end. Assumes nothing.
use mathlib.Core.Path.{◌≡◌}
use lib.ListN.{length}
use Rattle.phrases.specs.Names.{trimmed, element_name}
use Rattle.phrases.proofs.names.element.Given as goal

abbrev pub invariant-loop-name : goal.invariant-loop-name
invariant-loop-name l = trimmed l.name ≡ element_name l.names l.typ

abbrev pub decreases-loop-name : goal.decreases-loop-name
decreases-loop-name l = length l.name
