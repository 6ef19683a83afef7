-- `decide` reads, and goes by the tests in their order; on acceptance the message has a type, and the kind is a small number. Assumes nothing.
use native.Mathlib.Omega.{arith}
use Rattle.rules.specs.Listings.{book}
use Rattle.rules.proofs.Book.{kind-low}
use Rattle.rules.proofs.Rows.{header-least}
use Rattle.rules.proofs.Readings.{few}
use Rattle.calling.proofs.Deciding.{by-lent, passed, copies, by-refusal, by-acceptance}
use Rattle.calling.proofs.decide.Goals as goal

pub early-requires : goal.early-requires
early-requires c = rw c.read-r.ensures.answers (omega (arith, few book c.args.kind c.args.message.now))

pub returns-in-Err : goal.returns-in-Err
returns-in-Err c =
    rw c.turn.ensures (by-lent _ _ c.read-r.ensures c.args.room c.args.copy.now c.in-Err.ensures.value c.in-Err.ensures.refuses)

pub copy_out-requires : goal.copy_out-requires
copy_out-requires c = (
  rw c.read-r.ensures.answers (omega (arith, few book c.args.kind c.args.message.now)),
  copies _ _ c.read-r.ensures c.args.room c.args.copy.now c.in_default.ensures.refuses (λ j. omega (arith, c.type_inv.message j)) (omega arith),
)

pub returns-in-Err-late : goal.returns-in-Err-late
returns-in-Err-late c =
    rw c.turn-in-Err-late.ensures (by-refusal _ _ c.read-r.ensures c.args.room c.args.copy.now c.in_default.ensures.refuses
    (λ j. omega (arith, c.type_inv.message j)) (omega arith) _ c.in-Err-late.ensures.value _ c.copy_out.ensures c.in-Err-late.ensures.refuses)

pub bounds-message-1 : goal.bounds-message-1
bounds-message-1 c =
    omega (arith, (passed _ _ c.read-r.ensures c.args.room c.args.copy.now c.in_default.ensures.refuses).has_header, header-least c.args.message.now)

pub overflow_cast-result : goal.overflow_cast-result
overflow_cast-result c =
    omega (arith, kind-low c.args.kind (passed _ _ c.read-r.ensures c.args.room c.args.copy.now c.in_default.ensures.refuses).kind)

pub returns : goal.returns
returns c =
    rw (c.turn-2.ensures, c.accept.ensures, c.from.ensures) (by-acceptance _ _ c.read-r.ensures c.args.room c.args.copy.now c.in_default.ensures.refuses
    (λ j. omega (arith, c.type_inv.message j)) (omega arith) _ c.in_default-late.ensures.value _ c.copy_out.ensures c.in_default-late.ensures.refuses)
