-- `lines` puts line after line, as many as the table has rows. Assumes nothing.
use Rattle.wording.specs.Pieces.{for_each}
use Rattle.wording.specs.Sheets.{Writes}
use Rattle.columns.specs.Rows.{line_of}
use Rattle.columns.proofs.Listing.lines.Given as goal

abbrev pub invariant-loop-row : goal.invariant-loop-row
invariant-loop-row l = Writes (for_each (line_of l.self) 0 l.row) l.initial.sheet l.sheet
