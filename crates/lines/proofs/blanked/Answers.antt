-- `blanked` puts number after number, and the end. Assumes nothing.
use Rattle.wording.specs.Pieces.{for_each}
use Rattle.wording.proofs.Sheets.{writes_none, then-writes, next-number, all_turns}
use Rattle.lines.proofs.Lines.{blanked-is}
use Rattle.lines.proofs.blanked.Goals as goal

pub loop-n-init : goal.loop-n-init
unfolding for_each
loop-n-init c = writes_none _

pub loop-n-preserved : goal.loop-n-preserved
loop-n-preserved c = next-number _ _ c.loop-n.invariant c.next_number.ensures

pub returns : goal.returns
returns c = rw (← blanked-is c.args.numbers.now) (then-writes (all_turns _ _ c.loop-n.auto.n-index-end c.loop-n-test.false c.loop-n.invariant) c.put.ensures)
