-- `blank` goes from the last row to the first: the rows that are left, from what is there now, come to what all come to. Assumes nothing.
use mathlib.Core.Path.{◌≡◌}
use Prim.Native.Nat.{◌-◌}
use Rattle.pieces.specs.Drafts.{blanks}
use Rattle.pieces.proofs.rows.blank.Given as goal

abbrev pub invariant-loop-j : goal.invariant-loop-j
invariant-loop-j g l = blanks (g.C.Cell.numbers l.rows) l.m (l.j - l.m) ≡ blanks (g.C.Cell.numbers l.initial.rows) l.m (l.e - l.m)
