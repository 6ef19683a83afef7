-- `title` puts one after the other. Assumes nothing.
use Rattle.wording.proofs.Sheets.{then-writes}
use Rattle.titles.specs.Titles.{top_lines, title_text}
use Rattle.titles.proofs.title.Goals as goal

pub returns : goal.returns
unfolding title_text top_lines
returns c = rw (← c.run.ensures) (then-writes c.say.ensures (then-writes c.header.ensures (then-writes c.say-2.ensures c.say-3.ensures)))
