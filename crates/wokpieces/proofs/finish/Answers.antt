-- `finish` makes the table zero, or writes its header. Assumes nothing.
use native.Mathlib.Omega.{arith}
use Rattle.std.proofs.lemmas.Grind.{common_steps}
use Rattle.wokpieces.proofs.Stores.{ended_zero, ended_header, header_room, header_long}
use Rattle.wokpieces.proofs.finish.Goals as goal

pub returns-then-verdict-ne0 : goal.returns-then-verdict-ne0
returns-then-verdict-ne0 c =
    record { numbers = λ ok. ended_zero c.args.p c.args.table.now c.requires.verdict ok c.if-verdict-ne0.true (grind (arith, common_steps)) c.requires.half c.requires.twice; long = c.fill.ensures.len }

pub returns : goal.returns
returns c =
    record { numbers = λ ok. ended_header c.args.p c.args.table.now c.requires.verdict ok c.if-verdict-ne0.false (rw c.from.ensures at c.put_header.ensures); long = header_long c.args.table.now _ _ _ _ _ _ (header_room c.args.p c.args.table.now c.requires.verdict c.if-verdict-ne0.false) c.put_header.ensures }
