-- `end` gives the verdict; the table is zero, or has its header. Assumes nothing.
use mathlib.Core.Bool.{not}
use mathlib.Core.Path.{ap}
use borrow.Author.Rules.{rules}
use Rattle.pieces.proofs.Accepting.{not_so, not-not}
use Rattle.pieces.proofs.Ends.{end_out, end_refused, end_accepted}
use Rattle.pieces.proofs.end.Goals as goal

pub returns-then-not-ready : goal.returns-then-not-ready
returns-then-not-ready c = end_out c.args.p c.args.table.now (not_so _ c.ready.ensures.is (ap not c.if-not-ready.true)) c.out.ensures

pub returns-then-verdict-ne0 : goal.returns-then-verdict-ne0
returns-then-verdict-ne0 c =
    end_refused c.args.p c.args.table.now (not-not _ c.ready.ensures.is (ap not c.if-not-ready.false)) c.verdict_on-verdict.ensures c.ended-state.ensures
    c.if-verdict-ne0.true (search rules)

pub returns : goal.returns
returns c =
    end_accepted c.args.p c.args.table.now (not-not _ c.ready.ensures.is (ap not c.if-not-ready.false)) c.verdict_on-verdict.ensures c.ended-state.ensures
    c.if-verdict-ne0.false (rw c.from.ensures at c.write_header.ensures)
