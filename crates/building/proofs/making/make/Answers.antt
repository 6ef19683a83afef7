-- `make` goes by the size of the rows: 15 if they and the header are too many octets, else the page is written and sent. Assumes nothing.
use mathlib.Core.Path.{◌≡◌}
use mathlib.Core.Logic.{inl, inr}
use Prim.Native.Nat.{ℕ, ◌+◌}
use native.Mathlib.Omega.{arith}
use Rattle.building.proofs.Makes.{header_least, too_long, sent, page-holds, puts-rows}
use Rattle.building.proofs.making.make.Goals as goal
use Rattle.building.proofs.making.make.Goals.{then-n-gt4096-via-then-n-gt4096, then-n-gt4096-via-else-n-gt4096+then-room-n}

sum_is : {a c x y : ℕ} → a ≡ c → x ≡ y → a + x ≡ c + y
sum_is e f = rw (e, f)

pub returns-then-n-gt4096-clause-sent : goal.returns-then-n-gt4096-clause-sent
returns-then-n-gt4096-clause-sent g c =
    too_long c.args.kind c.args.header.typ c.args.header.teid c.args.header.sequence (g.T.Numbers.numbers c.args.rows.now.numbers) c.args.rows.now.count c.args.values.now c.args.room.now (c.size-at.result + c.size.result) (sum_is c.size-at.ensures c.size.ensures.is)
    (elim c.then-n-gt4096.branch [ then-n-gt4096-via-then-n-gt4096 w ↦ inl w.if-n-gt4096.true | then-n-gt4096-via-else-n-gt4096+then-room-n w ↦ inr w.if-room-n.true ])
    c.into.result c.into.ensures

pub write-requires : goal.write-requires
write-requires g c =
    record { least = omega (arith, header_least c.args.header.teid, c.size-at.ensures); two = omega (arith, c.if-n-gt4096.false); room = omega arith }

pub put-requires : goal.put-requires
put-requires g c =
    rw c.size-at.ensures
    (puts-rows c.args.kind c.args.header.typ c.args.header.teid c.args.header.sequence (g.T.Numbers.numbers c.args.rows.now.numbers) c.args.rows.now.count c.args.values.now c.args.room.now c.requires (c.size-at.result + c.size.result) (sum_is c.size-at.ensures c.size.ensures.is) c.if-n-gt4096.false _ (omega arith))

pub returns-clause-sent : goal.returns-clause-sent
returns-clause-sent g c =
    sent c.args.kind c.args.header.typ c.args.header.teid c.args.header.sequence (g.T.Numbers.numbers c.args.rows.now.numbers) c.args.rows.now.count c.args.values.now c.args.room.now c.requires (c.size-at.result + c.size.result) (sum_is c.size-at.ensures c.size.ensures.is) c.if-n-gt4096.false c.if-room-n.false
    (page-holds c.args.kind c.args.header.typ c.args.header.teid c.args.header.sequence (g.T.Numbers.numbers c.args.rows.now.numbers) c.args.rows.now.count c.args.values.now c.args.room.now c.requires (c.size-at.result + c.size.result) (sum_is c.size-at.ensures c.size.ensures.is) c.if-n-gt4096.false _ (omega arith) c.write.ensures (rw c.size-at.ensures at c.put.ensures)) c.send.ensures.sent
