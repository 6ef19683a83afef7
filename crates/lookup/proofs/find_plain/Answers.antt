-- `find_plain` finds what stands there for the first row, which is the definition's. Assumes nothing.
use mathlib.Core.Path.{◌≡◌, sym, ◌∙◌}
use native.Mathlib.Omega.{arith}
use lib.ListN.{length}
use Rattle.rules.specs.Values.{table_rows, seek_plain}
use Rattle.lookup.proofs.Tables.{rows_in}
use Rattle.lookup.proofs.Spans.{no_row, own-plain}
use Rattle.lookup.proofs.find_plain.Goals as goal

pub seek_plain-requires : goal.seek_plain-requires
seek_plain-requires c = rw c.rows-count.ensures (rows_in _ _ _)

pub returns-in_err-row : goal.returns-in_err-row
returns-in_err-row c =
    let a = c.args in
    let all = table_rows a.kind a.message.now a.table.now in
    let last : seek_plain a.table.now a.typ a.inst 0 all ≡ all = rw c.rows-count.ensures at c.in_err-row.ensures in
    rw (c.from_residual.ensures) (sym (own-plain a.kind a.message.now a.table.now a.typ a.inst all last) ∙ no_row all a.table.now all (length a.message.now) (omega arith))

pub row_part-requires : goal.row_part-requires
row_part-requires c = rw c.rows-count.ensures (rows_in _ _ _)

pub returns : goal.returns
returns c =
    let a = c.args in
    let count = c.rows-count.ensures in
    let first : seek_plain a.table.now a.typ a.inst 0 (table_rows a.kind a.message.now a.table.now) ≡ c.in_ok-row.row = rw count at c.in_ok-row.ensures.1 in
    rw (← own-plain a.kind a.message.now a.table.now a.typ a.inst c.in_ok-row.row first, ← count) c.row_part.ensures
