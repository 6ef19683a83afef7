-- `refused_page` by the right. Assumes nothing.
use mathlib.Core.List.{append-nil}
use Rattle.wording.proofs.Sheets.{then-writes}
use Rattle.refusing.specs.Refused.{refused_lines, refused_page}
use Rattle.refusing.proofs.refused_page.Goals as goal

pub returns-then-view : goal.returns-then-view
unfolding refused_page refused_lines
returns-then-view c =
    rw (c.if-view.true, ← c.reason-reason.ensures, ← c.run.ensures, ← c.title_number.ensures) (then-writes (then-writes c.say.ensures c.say-2.ensures) c.dump.ensures)

pub returns-else-view : goal.returns-else-view
unfolding refused_page refused_lines
returns-else-view c =
    rw (c.if-view.false, ← c.reason-reason.ensures, ← c.run.ensures, ← c.title_number.ensures, append-nil _) (then-writes c.say.ensures c.say-2.ensures)
