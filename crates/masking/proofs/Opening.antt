-- How many octets of a value stay: what is read off the table of facts is what the rule says. Assumes nothing.
use mathlib.Core.Path.{◌≡◌, ◌∙◌}
use mathlib.Core.List.{List}
use Prim.Native.Nat.{ℕ, ◌<◌}
use Rattle.rules.specs.Covered.{open_octets}
use Rattle.facts.specs.Facts.{facts, open_in}
use Rattle.facts.proofs.Facts.{open_is}

pub open_by : {xs : List ℕ} {r : ℕ} (t s n : ℕ) → t < 256 → xs ≡ facts → r ≡ open_in xs t s n → r ≡ open_octets t s n
open_by t s n l e f = f ∙ rw e (open_is t s n l)
