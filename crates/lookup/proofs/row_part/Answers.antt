-- `row_part` tests what the definition does; from `start` to `end` there are as many octets as the row says, which stand `start` on in the buffer. Assumes nothing.
use mathlib.Core.Path.{◌≡◌, refl}
use native.Mathlib.Omega.{arith}
use native.Mathlib.Nat.{add-sub_cancel_left}
use lib.ListN.{length}
use Rattle.rules.specs.Values.{row_place, row_length}
use Rattle.lookup.proofs.Spans.{no_row, outside, inside}
use Rattle.lookup.proofs.row_part.Goals as goal

pub returns-then-count-row : goal.returns-then-count-row
returns-then-count-row c = no_row _ _ _ _ c.if-count-row.true

pub returns-then-buffer-end : goal.returns-then-buffer-end
returns-then-buffer-end c = outside _ _ _ _ c.if-count-row.false (omega arith)

pub returns : goal.returns
returns c =
    let start : row_place c.args.table.now c.args.row ≡ c.from-start.result = omega arith in
    let len : row_length c.args.table.now c.args.row ≡ c.from.result = omega arith in
    rw (inside c.args.count c.args.table.now c.args.row (length c.args.buffer.now) c.if-count-row.false (omega arith), start, len)
    (refl, record { octets = rw add-sub_cancel_left; block = refl; place = omega arith })
