-- Tests that hold or not, and tests made of two. Assumes nothing.
use mathlib.Core.Path.{◌≡◌, refl, sym}
use mathlib.Core.Logic.{◌⊎◌, inl, inr}
use mathlib.Core.Bool.{Bool, true, false, not, ◌&&◌, ◌||◌}
use Prim.Native.Nat.{ℕ}
use native.Mathlib.Omega.{arith}

pub clash : (c : Bool) → c ≡ true → c ≡ false → ⊥
clash true e f = let z : ◌≡◌ {A = ℕ} 0 1 = cc in omega arith
clash false e f = let z : ◌≡◌ {A = ℕ} 0 1 = cc in omega arith

pub true_or : (c : Bool) → (c ≡ true) ⊎ (c ≡ false)
true_or true = inl refl
true_or false = inr refl

pub not-true : (c : Bool) → (c ≡ true → ⊥) → c ≡ false
not-true true f = absurd (f refl)
not-true false f = refl

pub not-false : (c : Bool) → (c ≡ false → ⊥) → c ≡ true
not-false true f = refl
not-false false f = absurd (f refl)

pub un_not : (c : Bool) → not c ≡ true → c ≡ false
un_not true e = sym e
un_not false e = refl

pub and-true : (a c : Bool) → a ≡ true → c ≡ true → a && c ≡ true
and-true a c e f = rw (e, f)

pub or_either : (a c : Bool) → a || c ≡ true → (a ≡ true) ⊎ (c ≡ true)
or_either true c e = inl refl
or_either false c e = inr e

pub or_left : (a c : Bool) → a ≡ true → a || c ≡ true
or_left a c e = rw e

pub or_right : (a c : Bool) → c ≡ true → a || c ≡ true
or_right true c e = refl
or_right false c e = e
