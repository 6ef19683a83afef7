-- `copied_page` goes by whether a copy was made. Assumes nothing.
use mathlib.Core.Path.{sym, ◌∙◌}
use Rattle.showing.proofs.Paging.{page-refused, page-read}
use Rattle.showing.proofs.copied_page.Goals as goal

pub returns-then-copies : goal.returns-then-copies
returns-then-copies c = let a = c.args in page-read a.names.now a.view a.message.now c.list-verdict.ensures (sym c.copies.ensures ∙ c.if-copies.true) c.read_page.ensures

pub returns-else-copies : goal.returns-else-copies
returns-else-copies c = let a = c.args in page-refused a.names.now a.view a.message.now c.list-verdict.ensures (sym c.copies.ensures ∙ c.if-copies.false) c.refused_page.ensures
