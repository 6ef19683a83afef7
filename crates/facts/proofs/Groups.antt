-- No number over 255 is a group's type: the listed groups are all below. Assumes nothing.
use mathlib.Core.Path.{◌≡◌, refl}
use mathlib.Core.Bool.{Bool, true, false, ◌&&◌}
use mathlib.Core.List.{List, [], ◌∷◌}
use Prim.Native.Nat.{ℕ, ◌<◌}
use native.Mathlib.Omega.{arith}
use borrow.Author.Tests.{ltb-true, ne_eqb}
use lib.Dec.{ltb}
use Rattle.rules.specs.Types.{among, groups, is_group}
use Rattle.rules.proofs.Lines.{and_left, and_right}

all_below : ℕ → List ℕ → Bool
all_below n [] = true
all_below n (x ∷ xs) = ltb x n && all_below n xs

none-among : (t : ℕ) (xs : List ℕ) → all_below 256 xs ≡ true → 255 < t → among t xs ≡ false
unfolding all_below
none-among t [] e l = refl
none-among t (x ∷ xs) e l =
    let low = ltb-true x 256 (and_left (ltb x 256) (all_below 256 xs) e) in
    rw (ne_eqb t x (λ s. omega arith)) (none-among t xs (and_right (ltb x 256) (all_below 256 xs) e) l)

pub no_group : (t : ℕ) → 255 < t → is_group t ≡ false
unfolding is_group groups all_below
no_group t l = none-among t groups refl l
