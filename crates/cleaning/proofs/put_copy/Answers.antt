-- `put_copy` goes by the sizes of the rows: 13 if they and the header are more than the buffer, else the header and the rows are laid down. Assumes nothing.
use mathlib.Core.Path.{◌≡◌, refl, ◌∙◌}
use Prim.Native.Nat.{ℕ, ◌+◌}
use native.Mathlib.Omega.{arith}
use Rattle.rules.proofs.Rows.{header-least}
use Rattle.cleaning.proofs.Settling.{by-room, by_rows, copied}
use Rattle.cleaning.proofs.put_copy.Goals as goal

sum_is : {a c x y : ℕ} → a ≡ x → c ≡ y → a + c ≡ x + y
sum_is e f = rw (e, f)

pub start-at-requires : goal.start-at-requires
start-at-requires c = omega (arith, header-least c.args.message.now, c.requires.some)

pub returns-then-out-n-clause-sent : goal.returns-then-out-n-clause-sent
returns-then-out-n-clause-sent c =
    let start = c.start-at in
    let sizes = c.size in
    by-room c.args.rows.now.count c.args.rows.now.numbers.now c.args.message.now c.args.out.now (start.result + sizes.result) (sum_is start.ensures.is sizes.ensures.is) c.if-out-n.true c.into.result c.into.ensures

pub put_front-requires : goal.put_front-requires
put_front-requires c =
    let start = c.start-at in
    let sizes = c.size in
    record {
      least = start.ensures.least;
      longer = omega arith;
      there = omega (arith, start.ensures.is, c.requires.some);
      room = omega (arith, c.if-out-n.false);
      two = omega (arith, c.requires.size, start.ensures.is, sizes.ensures.is);
    }

pub put-requires : goal.put-requires
put-requires c =
    let start = c.start-at in
    let sizes = c.size in
    record { fits = c.requires.fits; room = omega (arith, c.if-out-n.false, c.requires.octets, start.ensures.is, sizes.ensures.is) }

pub returns-clause-sent : goal.returns-clause-sent
returns-clause-sent c =
    let start = c.start-at in
    let sizes = c.size in
    let n = sum_is start.ensures.is sizes.ensures.is in
    by_rows c.args.rows.now.count c.args.rows.now.numbers.now c.args.message.now c.args.out.now (start.result + sizes.result) n c.if-out-n.false _ refl _
    (c.put.ensures ∙ copied c.args.rows.now.count c.args.rows.now.numbers.now c.args.message.now c.args.out.now start.ensures.is n c.put_front.ensures)
