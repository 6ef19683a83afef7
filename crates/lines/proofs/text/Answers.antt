-- `text` puts the text from the start of the buffer. Assumes nothing.
use Rattle.std.proofs.Common.{rules}
use Rattle.lines.proofs.Reports.{written}
use Rattle.lines.proofs.text.Goals as goal

pub returns : goal.returns
returns c = written c.args.input.now c.args.out.now (search rules)
