-- `feed` goes stride by stride: what is left of the part, from what is held now, comes to what the whole part comes to. Assumes nothing.
use lib.ListN.{length}
use Rattle.pieces.proofs.Feeds.{Feeds}
use Rattle.pieces.proofs.rows.feed.Given as goal

abbrev pub invariant-loop-rest : goal.invariant-loop-rest
invariant-loop-rest g l = Feeds l.initial.p l.part (g.C.Cell.numbers l.initial.rows) l.p l.rest (g.C.Cell.numbers l.rows)

abbrev pub decreases-loop-rest : goal.decreases-loop-rest
decreases-loop-rest g l = length l.rest
