-- A test that is computed for every number below n holds at each. Assumes nothing.
use mathlib.Core.Path.{◌≡◌}
use mathlib.Core.Bool.{Bool, true, ◌&&◌}
use Prim.Native.Nat.{ℕ, zero, suc, ◌<◌}
use native.Mathlib.Omega.{arith}
use native.Mathlib.Decide.{ℕ_discrete}
use Rattle.rules.proofs.Lines.{and_left, and_right}

abbrev pub all_below : (ℕ → Bool) → ℕ → Bool
all_below test zero = true
all_below test (suc n) = all_below test n && test n

pub below : (test : ℕ → Bool) (n : ℕ) → all_below test n ≡ true → (t : ℕ) → t < n → test t ≡ true
below test zero e t l = absurd (omega arith)
below test (suc n) e t l = go (ℕ_discrete t n) (below test n (and_left (all_below test n) (test n) e) t)
  where
    go : Dec (t ≡ n) → (t < n → test t ≡ true) → test t ≡ true
    go (yes z) rest = rw z (and_right (all_below test n) (test n) e)
    go (no z) rest = rest (omega arith)
