-- Small facts of tests and of parts. Assumes nothing.
use mathlib.Core.Path.{◌≡◌, refl}
use mathlib.Core.Bool.{Bool, true, false, cond, not}
use mathlib.Core.List.{List}
use Prim.Native.Nat.{ℕ, ◌-◌}
use lib.ListN.{length, take, drop, length-drop}
use lib.Seq.{take_all}
use native.Mathlib.Omega.{arith}

pub cond_yes : {A : Type 0} (c : Bool) (x y : A) → c ≡ true → cond c x y ≡ x
cond_yes c x y e = rw e

pub cond_no : {A : Type 0} (c : Bool) (x y : A) → c ≡ false → cond c x y ≡ y
cond_no c x y e = rw e

pub not_so : {r : Bool} (s : Bool) → r ≡ s → not r ≡ true → s ≡ false
not_so true e n = let z : ◌≡◌ {A = ℕ} 0 1 = cc in absurd (omega arith)
not_so false e n = refl

pub not-not : {r : Bool} (s : Bool) → r ≡ s → not r ≡ false → s ≡ true
not-not true e n = refl
not-not false e n = let z : ◌≡◌ {A = ℕ} 0 1 = cc in absurd (omega arith)

pub never : {A : Type 0} → false ≡ true → A
never e = let z : ◌≡◌ {A = ℕ} 0 1 = cc in absurd (omega arith)

-- what is left of a part
pub rest-is : (xs : List ℕ) (i : ℕ) → take (length xs - i) (drop i xs) ≡ drop i xs
rest-is xs i = take_all (length xs - i) (drop i xs) (simp length-drop (omega arith))
