-- Numbers read from octets: how many, and which. Assumes nothing.
use mathlib.Core.Path.{◌≡◌, refl, sym, ap, ◌∙◌}
use mathlib.Core.List.{List, [], ◌∷◌}
use Prim.Native.Nat.{ℕ, zero, suc, ◌+◌, ◌*◌, ◌/◌, ◌<◌}
use native.Mathlib.Omega.{arith}
use lib.ListN.{length, get_or}
use Rattle.rules.specs.Octets.{numbers_in}

pub numbers-length : (xs : List ℕ) → length (numbers_in xs) ≡ length xs / 2
unfolding numbers_in
numbers-length [] = refl
numbers-length (x ∷ []) = refl
numbers-length (x ∷ y ∷ xs) = omega (arith, numbers-length xs)

pub numbers-at : (xs : List ℕ) (j : ℕ) → j < length (numbers_in xs) → get_or (numbers_in xs) j 0 ≡ get_or xs (2 * j) 0 * 256 + get_or xs (2 * j + 1) 0
unfolding numbers_in
numbers-at [] j l = absurd (omega arith)
numbers-at (x ∷ []) j l = absurd (omega arith)
numbers-at (x ∷ y ∷ xs) zero l = refl
numbers-at (x ∷ y ∷ xs) (suc j) l =
    let e : 2 * suc j ≡ suc (suc (2 * j)) = omega arith in
    let f : 2 * suc j + 1 ≡ suc (suc (2 * j + 1)) = omega arith in
    numbers-at xs j (omega arith)
    ∙ ap (λ (i : ℕ). get_or (x ∷ y ∷ xs) i 0 * 256 + get_or xs (2 * j + 1) 0) (sym e)
    ∙ ap (λ (i : ℕ). get_or (x ∷ y ∷ xs) (2 * suc j) 0 * 256 + get_or (x ∷ y ∷ xs) i 0) (sym f)
