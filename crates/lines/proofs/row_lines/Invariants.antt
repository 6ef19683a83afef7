-- `row_lines` puts line after line. Assumes nothing.
use Rattle.wording.specs.Sheets.{Writes}
use Rattle.lines.specs.Lines.{lines_from}
use Rattle.lines.proofs.row_lines.Given as goal

abbrev pub invariant-loop-n : goal.invariant-loop-n
invariant-loop-n l = Writes (lines_from l.rows 0 l.n) l.initial.sheet l.sheet
