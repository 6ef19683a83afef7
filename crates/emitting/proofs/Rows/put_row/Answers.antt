-- `put_row` writes the header, and the value of a row that is no group. Assumes nothing.
use mathlib.Core.Path.{sym, ◌∙◌}
use Prim.Native.Nat.{◌+◌}
use Rattle.emitting.specs.Emits.{is_received}
use Rattle.emitting.proofs.Overs.{laid-over, length-value, put-value}
use Rattle.emitting.proofs.Rows.put_row.Goals as goal

pub returns : goal.returns
returns g c =
    let e = c.row-row.ensures in
    let group = rw e at (sym c.is_group.ensures ∙ c.if-is_group.false) in
    put-value (g.T.Numbers.numbers c.args.self.now.numbers) c.args.n c.args.self.now.count c.args.source.now (is_received c.args.fourth) c.args.out.now c.args.at
    (rw e at c.if-row-ne0.false) group c.from-len.result c.fourth-end.result c.from-place.result
    (length-value (g.T.Numbers.numbers c.args.self.now.numbers) c.args.n c.args.self.now.count group c.from-len.result (rw e at c.from-len.ensures)) (rw e at c.fourth-end.ensures) (rw e at c.from-place.ensures)
    (c.requires.fit.there group) c.requires.room _ _ (rw e at c.put_header-2.ensures) (laid-over c.args.source.now c.from-place.result c.from-len.result c.put_header-2.new.out (c.args.at + 4) c.put_octets.ensures.after)
