-- `feed` goes stride by stride: what is left of the part, from what is held now, comes to what the whole part comes to. Assumes nothing.
use mathlib.Core.Path.{◌∙◌}
use Rattle.pieces.proofs.Feeds.{feeds_next}
use Rattle.pieces.proofs.rows.feed.Goals as goal

pub loop-rest-preserved : goal.loop-rest-preserved
loop-rest-preserved g c = feeds_next c.loop-rest.invariant c.next-s.ensures (c.write_row.ensures ∙ rw (c.rows-n.ensures, c.rows.ensures))
