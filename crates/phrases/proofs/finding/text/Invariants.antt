-- `text` passes over the texts of other sections and numbers. Assumes nothing.
use mathlib.Core.Path.{◌≡◌}
use lib.ListN.{drop}
use Rattle.std.proofs.Common.{map}
use Rattle.phrases.specs.Laid.{row_of}
use Rattle.phrases.specs.Table.{text_for}
use Rattle.phrases.proofs.Search.{seek}
use Rattle.phrases.proofs.finding.text.Given as goal

abbrev pub invariant-loop-s : goal.invariant-loop-s
invariant-loop-s l = seek (map row_of (drop l.s-index l.s-items)) l.section l.number ≡ text_for l.section l.number
