-- `put_all` lays number by number. Assumes nothing.
use Rattle.std.proofs.Common.{◌≡◌, take}
use Rattle.rules.specs.Table.{laid}
use Rattle.rules.specs.Octets.{octets_of}
use Rattle.octets.proofs.put_all.Given as goal

abbrev pub invariant-loop-i : goal.invariant-loop-i
invariant-loop-i l = l.out ≡ laid (octets_of (take l.i l.numbers)) l.initial.out
