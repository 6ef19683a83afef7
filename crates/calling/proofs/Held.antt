-- A message that is laid over a longer run of octets stands whole at its start. Assumes nothing.
use mathlib.Core.Path.{◌≡◌, refl, ap, ◌∙◌}
use mathlib.Core.List.{List}
use Prim.Native.Nat.{ℕ, ◌≤◌}
use lib.ListN.{length, take}
use lib.Seq.{take_at}
use Rattle.rules.specs.Table.{laid}
use Rattle.copying.specs.Copying.{laid_over}
use Rattle.copying.proofs.Copying.{goes_over}

pub held : (m lent : List ℕ) {left : List ℕ} → length m ≤ length lent → left ≡ laid_over m lent → take (length m) left ≡ m
unfolding laid
held m lent l e = ap (take (length m)) (e ∙ goes_over m lent l) ∙ take_at m _ _ refl
