-- A line's key, its type and instance as one number, compared part by part. Assumes nothing.
use mathlib.Core.Path.{◌≡◌, refl}
use mathlib.Core.Bool.{Bool, true, false, ◌&&◌, ◌||◌}
use Prim.Native.Nat.{ℕ, ◌/◌, ◌%◌, ◌<◌}
use native.Mathlib.Omega.{arith}
use native.Mathlib.Decide.{ℕ_discrete}
use borrow.Author.Tests.{eq-eqb, ne_eqb}
use lib.Dec.{eqb}
use Rattle.rules.specs.Listings.{any_instance}
use Rattle.listings.specs.Data.{key_of, on_of_entry, lists_in}

key_split : (x t i : ℕ) → t < 256 → i < 32 → eqb (x % 8192) (key_of t i) ≡ eqb (x / 32 % 256) t && eqb (x % 32) i
key_split x t i ht hi = go (ℕ_discrete (x / 32 % 256) t) (ℕ_discrete (x % 32) i)
  where
    go : Dec (x / 32 % 256 ≡ t) → Dec (x % 32 ≡ i) → eqb (x % 8192) (key_of t i) ≡ eqb (x / 32 % 256) t && eqb (x % 32) i
    go (yes p) (yes q) = rw (eq-eqb _ _ p, eq-eqb _ _ q) (eq-eqb _ _ (omega arith))
    go (yes p) (no q) = rw (eq-eqb _ _ p, ne_eqb _ _ q) (ne_eqb _ _ (λ e. q (omega arith)))
    go (no p) q = rw (ne_eqb _ _ p) (ne_eqb _ _ (λ e. p (omega arith)))

pub lists_split : (k x t i : ℕ) → t < 256 → i < any_instance
    → lists_in k (key_of t i) (key_of t any_instance) x ≡ eqb (x / 32 % 256) t && ((eqb (x % 32) i || eqb (x % 32) any_instance) && on_of_entry k x)
unfolding lists_in
lists_split k x t i ht hi = rw (key_split x t i ht (omega arith), key_split x t any_instance ht (omega arith)) (go (eqb (x / 32 % 256) t) (eqb (x % 32) i) (eqb (x % 32) any_instance) (on_of_entry k x))
  where
    go : (a b c d : Bool) → ((a && b) || (a && c)) && d ≡ a && ((b || c) && d)
    go true b c d = refl
    go false b c d = refl
