-- `entry` by how much of it the table has. Assumes nothing.
use Rattle.phrases.proofs.Trimming.{entry_is}
use Rattle.phrases.proofs.names.entry.Goals as goal

pub returns : goal.returns
returns c = entry_is _ _ _ _ (rw c.from.ensures at c.min-start.ensures) c.min-end.ensures
