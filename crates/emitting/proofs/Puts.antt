-- The laws of the sums over rows, and of four octets set one by one. Assumes nothing.
use mathlib.Core.Path.{◌≡◌, ◌∙◌}
use mathlib.Core.List.{List, [], ◌∷◌, append_assoc}
use Prim.Native.Nat.{ℕ, suc, ◌+◌, ◌-◌, ◌*◌, ◌≤◌, ◌<◌}
use native.Mathlib.Omega.{arith}
use native.Mathlib.Nat.{add-zero}
use borrow.Author.Tests.{lt-ltb, le-ltb}
use lib.ListN.{length, get_or, set, take, drop}
use lib.Seq.{sets-eq}
use Rattle.emitting.specs.Emits.{number, size_at_row, sizes_in, within_rows, over}

pub at_zero : (rows : List ℕ) (j : ℕ) → get_or rows (6 * j) 0 ≡ number rows j 0
at_zero rows j = rw (add-zero (6 * j))

-- ---- sums

pub one_less : (n count : ℕ) → n < count → count - n ≡ suc (count - (n + 1))
one_less n count l = omega arith

pub sizes-next : (rows : List ℕ) (n count : ℕ) → n < count → sizes_in rows n (count - n) ≡ size_at_row rows n + sizes_in rows (n + 1) (count - (n + 1))
unfolding sizes_in
sizes-next rows n count l = rw (one_less n count l)

pub sizes-none : (rows : List ℕ) (n count : ℕ) → count ≤ n → sizes_in rows n (count - n) ≡ 0
unfolding sizes_in
sizes-none rows n count l = let e : count - n ≡ 0 = omega arith in rw e

pub record Summing (rows : List ℕ) (count sum n : ℕ) : Type 0 where
  pub most : n ≤ count
  pub is : sum + sizes_in rows n (count - n) ≡ sizes_in rows 0 count
  pub low : sum ≤ n * 65539

pub sum_goes : {rows : List ℕ} {count sum n : ℕ} → Summing rows count sum n → n < count → (x : ℕ) → x ≡ size_at_row rows n → x ≤ 65539 → Summing rows count (sum + x) (n + 1)
sum_goes {rows} {count} {sum} {n} s l x e h =
    record { most = omega arith; is = omega (arith, s.is, sizes-next rows n count l, e); low = omega (arith, s.low) }

pub sum-ends : {rows : List ℕ} {count sum n : ℕ} → Summing rows count sum n → count ≤ n → (sum ≡ sizes_in rows 0 count) × (sum ≤ count * 65539)
sum-ends {rows} {count} {sum} {n} s l = let e : n ≡ count = omega (arith, s.most) in (omega (arith, s.is, sizes-none rows n count l), rw e at s.low)

pub within-stop : (rows : List ℕ) (r j count : ℕ) → j < count → number rows j 0 < r → within_rows rows r j (count - j) ≡ 0
unfolding within_rows
within-stop rows r j count l h = rw (one_less j count l, lt-ltb (number rows j 0) r h)

pub within-next : (rows : List ℕ) (r j count : ℕ) → j < count → r ≤ number rows j 0 → within_rows rows r j (count - j) ≡ size_at_row rows j + within_rows rows r (j + 1) (count - (j + 1))
unfolding within_rows
within-next rows r j count l h = rw (one_less j count l, le-ltb (number rows j 0) r h)

pub within_none : (rows : List ℕ) (r j count : ℕ) → count ≤ j → within_rows rows r j (count - j) ≡ 0
unfolding within_rows
within_none rows r j count l = let e : count - j ≡ 0 = omega arith in rw e

pub record Within (rows : List ℕ) (n count sum j : ℕ) : Type 0 where
  pub least : n < j
  pub most : j ≤ count
  pub is : sum + within_rows rows (n + 1) j (count - j) ≡ within_rows rows (n + 1) (n + 1) (count - (n + 1))
  pub low : sum ≤ j * 65539

pub within-goes : {rows : List ℕ} {n count sum j : ℕ} → Within rows n count sum j → j < count → (y : ℕ) → y ≡ number rows j 0 → n < y → (x : ℕ) → x ≡ size_at_row rows j → x ≤ 65539 → Within rows n count (sum + x) (j + 1)
within-goes {rows} {n} {count} {sum} {j} s l y w g x e h =
    record { least = omega (arith, s.least); most = omega arith; is = omega (arith, s.is, within-next rows (n + 1) j count l (omega (arith, w)), e); low = omega (arith, s.low) }

pub within-stops : {rows : List ℕ} {n count sum j : ℕ} → Within rows n count sum j → j < count → (y : ℕ) → y ≡ number rows j 0 → y ≤ n → sum ≡ within_rows rows (n + 1) (n + 1) (count - (n + 1))
within-stops {rows} {n} {count} {sum} {j} s l y w g = omega (arith, s.is, within-stop rows (n + 1) j count l (omega (arith, w)))

pub within-ends : {rows : List ℕ} {n count sum j : ℕ} → Within rows n count sum j → count ≤ j → sum ≡ within_rows rows (n + 1) (n + 1) (count - (n + 1))
within-ends {rows} {n} {count} {sum} {j} s l = omega (arith, s.is, within_none rows (n + 1) j count l)

-- ---- four octets

pub four-set : (out : List ℕ) (at w x y z : ℕ) → at + 4 ≤ length out → set (set (set (set out at w) (at + 1) x) (at + 2) y) (at + 3) z ≡ over out at (w ∷ x ∷ y ∷ z ∷ [])
four-set out at w x y z l =
    let a : at + 1 ≡ suc at = omega arith in
    let c : at + 2 ≡ suc (suc at) = omega arith in
    let d : at + 3 ≡ suc (suc (suc at)) = omega arith in
    rw (a, c, d) (sets-eq (w ∷ x ∷ y ∷ z ∷ []) out at l ∙ append_assoc (take at out) (w ∷ x ∷ y ∷ z ∷ []) (drop (at + 4) out))
