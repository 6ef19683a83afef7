-- `body` begins nothing where one of checks 1 to 8 refuses the header with the length that it says. Assumes nothing.
use mathlib.Core.Path.{refl, ap}
use Prim.Native.Nat.{ℕ, ◌+◌}
use Rattle.pieces.specs.Coded.{idle_by}
use Rattle.pieces.proofs.Begun.{body_out}
use Rattle.pieces.proofs.message.body.Goals as goal

pub returns-in-Err : goal.returns-in-Err
unfolding idle_by
returns-in-Err c = body_out c.args.kind c.args.head.now (ap (λ (j : ℕ). j + 4) c.length_field-n.ensures.is) c.in-Err.field-0 c.in-Err.ensures refl
