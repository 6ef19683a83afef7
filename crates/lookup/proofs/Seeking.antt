-- Laws of the search for a plain row, from a row on among those that are left. Assumes nothing.
use mathlib.Core.Path.{◌≡◌}
use mathlib.Core.Bool.{true, false}
use mathlib.Core.List.{List}
use Prim.Native.Nat.{ℕ, suc, ◌+◌, ◌-◌, ◌<◌}
use native.Mathlib.Numerals.{add-one}
use native.Mathlib.Omega.{arith}
use Rattle.rules.specs.Values.{is_plain, seek_plain}

module _ (t : List ℕ) (typ inst n row : ℕ) where
  pub hits : row < n → is_plain t typ inst row ≡ true → seek_plain t typ inst row (n - row) ≡ row
  unfolding seek_plain
  hits l h = let z : n - row ≡ suc (n - (row + 1)) = omega arith in rw (z, h)

  pub misses : row < n → is_plain t typ inst row ≡ false → seek_plain t typ inst row (n - row) ≡ seek_plain t typ inst (row + 1) (n - (row + 1))
  unfolding seek_plain
  misses l h = let z : n - row ≡ suc (n - (row + 1)) = omega arith in rw (z, h, add-one row)

  pub ends : n ≡ row → seek_plain t typ inst row (n - row) ≡ n
  unfolding seek_plain
  ends e = let z : n - row ≡ 0 = omega arith in rw (z, e)
