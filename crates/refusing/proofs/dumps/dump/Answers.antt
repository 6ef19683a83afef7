-- `dump` puts octet after octet, and the end. Assumes nothing.
use mathlib.Core.Path.{sym, ◌∙◌}
use Prim.Native.Nat.{◌≤◌}
use native.Mathlib.Omega.{arith}
use borrow.Author.Tests.{eqb-true}
use lib.ListN.{length}
use Rattle.wording.specs.Pieces.{for_each}
use Rattle.wording.proofs.Sheets.{writes_none, then-writes, next-number, all_turns}
use Rattle.refusing.specs.Dumps.{dump_lines, dump}
use Rattle.refusing.proofs.dumps.dump.Goals as goal

pub loop-i-init : goal.loop-i-init
unfolding for_each
loop-i-init c = writes_none _

pub loop-i-preserved : goal.loop-i-preserved
loop-i-preserved c = next-number _ _ c.loop-i.invariant (then-writes c.lead.ensures c.hex.ensures)

pub returns-then-not-is_empty : goal.returns-then-not-is_empty
unfolding dump dump_lines
returns-then-not-is_empty c =
    rw (← c.is_empty.ensures, c.if-not-is_empty.true) (then-writes (all_turns _ _ c.loop-i.auto.i-end c.loop-i-test.false c.loop-i.invariant) c.put.ensures)

pub returns-else-not-is_empty : goal.returns-else-not-is_empty
unfolding dump dump_lines for_each
returns-else-not-is_empty c =
    let e : c.loop-i.i ≤ 0 = omega (arith, eqb-true (length c.args.part.now) 0 (sym c.is_empty.ensures ∙ c.if-not-is_empty.false)) in
    rw (← c.is_empty.ensures, c.if-not-is_empty.false) (all_turns _ _ {count = 0} e (omega arith) c.loop-i.invariant)
