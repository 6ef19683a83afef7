-- `clear_row` reads the numbers of the row, clears what does not stay, and what is inside a void one. Assumes nothing.
use native.Mathlib.Omega.{arith}
use Rattle.facts.proofs.Facts.{open_most}
use Rattle.masking.proofs.Clearing.{row_open, row-void, row_inside}
use Rattle.masking.proofs.Opening.{open_by}
use Rattle.masking.proofs.clear_row.Goals as goal

pub clear_value-requires : goal.clear_value-requires
clear_value-requires c =
    (rw (open_by _ _ _ c.requires.typ c.table.ensures c.open_octets-shown.ensures) (open_most _ _ _), rw (c.from-place.ensures, c.from-len.ensures) c.requires.ends)

pub clear_inside-requires : goal.clear_inside-requires
clear_inside-requires c = row_inside c.requires c.from-place.ensures c.from-len.ensures c.if-stand-eq-VOID.true _ (omega arith)

pub returns-then-stand-eq-VOID : goal.returns-then-stand-eq-VOID
returns-then-stand-eq-VOID c =
    row-void _ _ _ _ _ c.from-place.ensures c.from-len.ensures (open_by _ _ _ c.requires.typ c.table.ensures c.open_octets-shown.ensures) c.clear_value.ensures
    c.if-stand-eq-VOID.true _ c.clear_inside.ensures

pub returns-else-stand-eq-VOID : goal.returns-else-stand-eq-VOID
returns-else-stand-eq-VOID c =
    row_open _ _ _ _ _ c.from-place.ensures c.from-len.ensures (open_by _ _ _ c.requires.typ c.table.ensures c.open_octets-shown.ensures) c.clear_value.ensures
    c.if-stand-eq-VOID.false
