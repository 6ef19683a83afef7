-- `feed_table` feeds what stands after the header. Assumes nothing.
use Rattle.wokpieces.proofs.Stores.{fed_table}
use Rattle.wokpieces.proofs.feed_table.Goals as goal

pub returns : goal.returns
returns c = let a = c.args in fed_table a.p a.part.now a.table.now _ _ c.min-from.ensures c.feed.auto.rows c.feed.ensures
