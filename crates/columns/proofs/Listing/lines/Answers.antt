-- `lines` puts line after line, as many as the table has rows. Assumes nothing.
use Rattle.wording.specs.Pieces.{for_each}
use Rattle.wording.proofs.Sheets.{writes_none, next-number, all_turns}
use Rattle.columns.specs.Rows.{row_lines}
use Rattle.columns.proofs.Listing.lines.Goals as goal

pub loop-row-init : goal.loop-row-init
unfolding for_each
loop-row-init c = writes_none _

pub line-requires : goal.line-requires
line-requires c = record { all = c.rows-count.ensures; among = c.loop-row-test.true }

pub loop-row-preserved : goal.loop-row-preserved
loop-row-preserved c = next-number _ _ c.loop-row.invariant c.line.ensures

pub returns : goal.returns
unfolding row_lines
returns c = rw (← c.rows-count.ensures) (all_turns _ _ c.loop-row.auto.row-end c.loop-row-test.false c.loop-row.invariant)
