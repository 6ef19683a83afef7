-- `octets` by what is asked for, and by the length. Assumes nothing.
use mathlib.Core.Path.{sym}
use borrow.Author.Tests.{lt-ltb, le-ltb}
use native.Mathlib.Omega.{arith}
use lib.Seq.{length-take-le}
use Rattle.columns.specs.Values.{octets_text}
use Rattle.wording.proofs.Sheets.{then-writes}
use Rattle.columns.proofs.values.octets.Goals.{else-not-full-via-then-not-full+else-part-gt32, else-not-full-via-else-not-full}
use Rattle.columns.proofs.values.octets.Goals as goal

pub slice_bounds-hexes-end : goal.slice_bounds-hexes-end
slice_bounds-hexes-end c = sym (length-take-le 32 c.args.part.now (omega (arith, c.if-part-gt32.true)))

pub returns-then-part-gt32 : goal.returns-then-part-gt32
unfolding octets_text
returns-then-part-gt32 c = rw (c.if-not-full.true, lt-ltb _ _ c.if-part-gt32.true) (then-writes c.hexes.ensures c.copy.ensures)

pub returns-else-not-full : goal.returns-else-not-full
unfolding octets_text
returns-else-not-full c =
    elim c.else-not-full.branch [
      | else-not-full-via-then-not-full+else-part-gt32 w ↦ rw (w.if-not-full.true, le-ltb _ _ w.if-part-gt32.false) c.hexes-else-not-full.ensures
      | else-not-full-via-else-not-full w ↦ rw w.if-not-full.false c.hexes-else-not-full.ensures
    ]
