-- What a part that comes back cleared says of the whole. Assumes nothing.
use mathlib.Core.Path.{◌≡◌, ◌∙◌}
use mathlib.Core.List.{List, ◌++◌}
use Prim.Native.Nat.{ℕ, ◌+◌, ◌-◌, ◌≤◌}
use native.Mathlib.Omega.{arith}
use lib.ListN.{length, take, drop, replicate, length-take, length-drop}
use lib.Seq.{drop-drop}
use Rattle.rules.specs.Covered.{zeroed}

-- the part from a up to e, which is all zero
pub part-back : (l ys : List ℕ) (a e n : ℕ) → e ≡ a + n → e ≤ length l → ys ≡ replicate (length (take (e - a) (drop a l))) 0
    → take a l ++ (ys ++ drop (e - a) (drop a l)) ≡ zeroed l a n
unfolding zeroed
part-back l ys a e n s w is =
    let k : e - a ≡ n = omega arith in
    let j : length (take n (drop a l)) ≡ n = simp (length-take, length-drop) (omega arith) in
    let z : ys ≡ replicate n 0 = is ∙ rw (k, j) in
    rw (k, z, drop-drop)
