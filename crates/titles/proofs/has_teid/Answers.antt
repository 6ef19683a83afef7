-- `has_teid` reads its bit. Assumes nothing.
use Rattle.rules.specs.Framing.{flag_t}
use Rattle.titles.proofs.has_teid.Goals as goal

pub returns : goal.returns
unfolding flag_t
returns c = rw (← c.octet.ensures)
