-- `run` asks for each number. Assumes nothing.
use Rattle.rules.specs.Framing.{message_type}
use Rattle.titles.specs.Titles.{top_run}
use Rattle.titles.proofs.run.Goals as goal

pub returns : goal.returns
unfolding top_run message_type
returns c = rw (← c.narrow.ensures, ← c.narrow-2.ensures, ← c.octet.ensures, ← c.from.ensures, ← c.get_or.ensures, ← c.get_or-2.ensures)
