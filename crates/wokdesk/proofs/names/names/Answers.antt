-- `names` is the constant that is computed from the table. Assumes nothing.
use mathlib.Core.Path.{refl}
use Rattle.wokdesk.specs.Names.{entry, often, entries, table}
use Rattle.wokdesk.proofs.names.names.Goals as goal

pub returns : goal.returns
unfolding entry often entries table
returns c = refl
