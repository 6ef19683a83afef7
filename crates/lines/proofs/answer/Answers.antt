-- `answer` parts an input into kind and message. Assumes nothing.
use Rattle.lines.proofs.Reports.{message-counted}
use Rattle.lines.proofs.answer.Goals as goal

pub returns-in-len1-up : goal.returns-in-len1-up
returns-in-len1-up c = rw (← c.from.ensures, ← message-counted c.args.input.now c.min.ensures) c.report-in-len1-up.ensures
