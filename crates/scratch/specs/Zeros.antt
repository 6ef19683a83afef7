-- A run of zeros: what a scratch holds before it is written. Assumes nothing.
use Rattle.std.specs.Prelude.{◌≡◌, List, ℕ, length, replicate}

pub record Zeros (n : ℕ) (r : List ℕ) : Type 0 where
  pub is : r ≡ replicate n 0
  pub size : n ≡ length r
