-- `put_octets` goes by the octets that are laid so far. Assumes nothing.
use Rattle.std.proofs.Common.{◌≡◌}
use Rattle.copying.proofs.Copying.{laid_to}
use Rattle.copying.proofs.put_octets.Given as goal

abbrev pub invariant-loop-n : goal.invariant-loop-n
invariant-loop-n l = l.part ≡ laid_to l.octets l.initial.part l.n
