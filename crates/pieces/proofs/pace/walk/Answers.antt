-- `walk` passes over octets, takes a header that stands whole in the part, or goes octet by octet. Assumes nothing.
use mathlib.Core.Path.{◌≡◌}
use native.Mathlib.Omega.{arith}
use Prim.Native.Nat.{◌≤◌}
use lib.ListN.{length, length-drop}
use Rattle.pieces.specs.Coded.{gather_four}
use Rattle.pieces.proofs.Accepting.{rest-is}
use Rattle.pieces.proofs.Strides.{strode_four}
use Rattle.pieces.proofs.pace.walk.Goals as goal

pub returns-in-len4-up : goal.returns-in-len4-up
unfolding gather_four
returns-in-len4-up c =
    let part = c.args.part.now in
    let none : c.args.w.pass ≡ 0 = omega (arith, c.if-w-gt0.false) in
    let l : 4 ≤ length part = c.in-len4-up.len_at_least in
    strode_four c.args.kind c.args.w part (record { going = c.requires.going; none = none; inside = c.requires.inside none }) c.if-w-eq0.true c.requires.fits.sized.bytes
    l (rw (rest-is part 4) at c.headed-s.ensures) (omega (arith, length-drop 4 part, l))
