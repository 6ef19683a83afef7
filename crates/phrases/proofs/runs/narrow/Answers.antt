-- `narrow` by whether it fits. Assumes nothing.
use mathlib.Core.Path.{◌∙◌}
use Rattle.phrases.proofs.Slots.{narrowed}
use Rattle.phrases.proofs.runs.narrow.Goals as goal

pub returns : goal.returns
returns c = c.unwrap_or.ensures ∙ narrowed _ _ c.try_from.ensures
