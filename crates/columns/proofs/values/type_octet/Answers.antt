-- `type_octet` by whether it fits. Assumes nothing.
use mathlib.Core.Path.{◌∙◌}
use Rattle.columns.proofs.Types.{type_by}
use Rattle.columns.proofs.values.type_octet.Goals as goal

pub returns : goal.returns
returns c = c.unwrap_or.ensures ∙ type_by _ _ c.try_from.ensures
