-- `clear_value` fills the value's own part of the copy. Assumes nothing.
use Prim.Native.Nat.{◌+◌, ◌-◌}
use native.Mathlib.Omega.{arith}
use Rattle.masking.proofs.Parts.{part-back}
use Rattle.masking.proofs.clear_value.Goals as goal

pub returns : goal.returns
returns c =
    part-back c.args.copy.now c.fill.new.self (c.args.place + c.args.shown) (c.args.place + c.args.len) (c.args.len - c.args.shown)
    (omega arith) (omega arith) (c.fill.ensures.after (λ y e. e))
