-- A number's octets as they are loaded. Assumes nothing.
use mathlib.Core.Path.{◌≡◌}
use mathlib.Core.List.{List}
use Prim.Native.Nat.{ℕ}
use native.Mathlib.Omega.{arith}
use Rattle.std.specs.Int.{w32, w64, from_be_bytes}
use Rattle.keeping.specs.Kept.{number_on, number_of, number_at, run}

module _ (s : List ℕ) (n : ℕ) where
  pub eight_read : from_be_bytes w64 (run 8 s n) ≡ number_at s n
  unfolding number_on number_of run
  eight_read = omega arith

  pub four_read : from_be_bytes w32 (run 4 s n) ≡ number_of (run 4 s n)
  unfolding number_on number_of run
  four_read = omega arith
