-- `row_lines` puts line after line. Assumes nothing.
use native.Mathlib.Omega.{arith}
use lib.ListN.{length-take, length-drop}
use Rattle.wording.specs.Pieces.{for_each}
use Rattle.wording.proofs.Sheets.{writes_none, next-number, all_turns}
use Rattle.lines.proofs.Lines.{six-from}
use Rattle.lines.proofs.row_lines.Goals as goal

pub loop-n-init : goal.loop-n-init
unfolding for_each
loop-n-init c = writes_none _

pub row_line-requires : goal.row_line-requires
row_line-requires c = simp (length-take, length-drop) (omega arith)

pub loop-n-preserved : goal.loop-n-preserved
loop-n-preserved c = next-number _ _ c.loop-n.invariant (rw six-from at c.row_line.ensures)

pub returns : goal.returns
returns c = all_turns _ _ c.loop-n.auto.n-end c.loop-n-test.false c.loop-n.invariant
