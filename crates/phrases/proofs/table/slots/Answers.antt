-- `slots` is the constant that is computed from the slots. Assumes nothing.
use mathlib.Core.Path.{refl}
use Rattle.phrases.specs.Table.{slots}
use Rattle.phrases.specs.Laid.{numbers_of}
use Rattle.phrases.proofs.table.slots.Goals as goal

pub returns : goal.returns
unfolding slots numbers_of
returns c = record { is = refl }
