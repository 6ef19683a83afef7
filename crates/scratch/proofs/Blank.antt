-- What an array of zeros holds. Assumes nothing.
use mathlib.Core.Path.{refl, sym}
use Prim.Native.Nat.{ℕ}
use lib.ListN.{replicate, length-replicate}
use Rattle.scratch.specs.Zeros.{Zeros}

pub blank : (n : ℕ) → Zeros n (replicate n 0)
blank n = record { is = refl; size = sym (length-replicate n 0) }
