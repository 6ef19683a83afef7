-- Octets two by two: what is read of them goes by number as it goes by twice as many octets. Assumes nothing.
--     numbers_append, numbers-take, numbers-drop   parts of them          numbers-put   one number is stored
--     octets-again   and back          laid_by   octets that hold numbers, with an odd one after them          zeros-read
use mathlib.Core.Path.{◌≡◌, refl, sym, ap, ◌∙◌}
use mathlib.Core.List.{List, [], ◌∷◌, ◌++◌}
use Prim.Native.Nat.{ℕ, zero, suc, ◌+◌, ◌*◌, ◌/◌, ◌%◌, ◌<◌}
use native.Mathlib.Omega.{arith}
use lib.ListN.{length, set, take, drop, replicate}
use lib.Seq.{take-nil, drop-nil, take_at}
use Rattle.rules.specs.Table.{laid}
use Rattle.rules.specs.Octets.{octets_of, number_of, numbers_in}
use Rattle.rules.proofs.Rows.{Octets, octets-take}
use Rattle.octets.specs.Stored.{put2}

twice : (n : ℕ) → 2 * suc n ≡ suc (suc (2 * n))
twice n = omega arith

pub numbers_append : (n : ℕ) (xs ys : List ℕ) → length xs ≡ 2 * n → numbers_in (xs ++ ys) ≡ numbers_in xs ++ numbers_in ys
unfolding numbers_in
numbers_append zero [] ys e = refl
numbers_append zero (x ∷ xs) ys e = absurd (omega arith)
numbers_append (suc n) [] ys e = absurd (omega arith)
numbers_append (suc n) (x ∷ []) ys e = absurd (omega arith)
numbers_append (suc n) (x ∷ y ∷ xs) ys e = ap (λ (l : List ℕ). number_of x y ∷ l) (numbers_append n xs ys (omega arith))

pub numbers-take : (n : ℕ) (xs : List ℕ) → numbers_in (take (2 * n) xs) ≡ take n (numbers_in xs)
unfolding numbers_in
numbers-take zero xs = refl
numbers-take (suc n) [] = rw (take-nil (2 * suc n))
numbers-take (suc n) (x ∷ []) = rw (twice n)
numbers-take (suc n) (x ∷ y ∷ xs) = rw (twice n) (ap (λ (l : List ℕ). number_of x y ∷ l) (numbers-take n xs))

pub numbers-drop : (n : ℕ) (xs : List ℕ) → numbers_in (drop (2 * n) xs) ≡ drop n (numbers_in xs)
unfolding numbers_in
numbers-drop zero xs = refl
numbers-drop (suc n) [] = rw (drop-nil (2 * suc n))
numbers-drop (suc n) (x ∷ []) = rw (twice n) (rw (drop-nil {A = ℕ} (suc (2 * n))))
numbers-drop (suc n) (x ∷ y ∷ xs) = rw (twice n) (numbers-drop n xs)

-- one number at place i
pub numbers-put : (xs : List ℕ) (i v : ℕ) → 2 * i + 1 < length xs → numbers_in (put2 xs (2 * i) v) ≡ set (numbers_in xs) i v
unfolding numbers_in
numbers-put [] i v l = absurd (omega arith)
numbers-put (x ∷ []) i v l = absurd (omega arith)
numbers-put (x ∷ y ∷ xs) zero v l = let e : v / 256 * 256 + v % 256 ≡ v = omega arith in rw e
numbers-put (x ∷ y ∷ xs) (suc i) v l =
    let e : 2 * suc i + 1 ≡ suc (suc (2 * i + 1)) = omega arith in
    rw (e, twice i) (ap (λ (l : List ℕ). number_of x y ∷ l) (numbers-put xs i v (omega arith)))

pub octets-again : (n : ℕ) (xs : List ℕ) → Octets xs → length xs ≡ 2 * n → octets_of (numbers_in xs) ≡ xs
unfolding numbers_in octets_of
octets-again zero [] o e = refl
octets-again zero (x ∷ xs) o e = absurd (omega arith)
octets-again (suc n) [] o e = absurd (omega arith)
octets-again (suc n) (x ∷ []) o e = absurd (omega arith)
octets-again (suc n) (x ∷ y ∷ xs) o e =
    let l : y < 256 = o 1 in
    let a : (x * 256 + y) / 256 ≡ x = omega arith in
    let b : (x * 256 + y) % 256 ≡ y = omega arith in
    rw (a, b) (ap (λ (l : List ℕ). x ∷ y ∷ l) (octets-again n xs (λ j. o (suc (suc j))) (omega arith)))

-- octets that hold the numbers xs, before those of a table that are no whole number
pub laid_by : (t t' xs : List ℕ) (n : ℕ) → Octets (t' ++ drop (2 * n) t) → length t' ≡ 2 * n → numbers_in t' ≡ xs → t' ++ drop (2 * n) t ≡ laid (octets_of xs) t
unfolding laid
laid_by t t' xs n o l r =
    let o' : Octets t' = rw (take_at t' (drop (2 * n) t) (length t') refl) at (octets-take (length t') (t' ++ drop (2 * n) t) o) in
    let a : octets_of xs ≡ t' = ap octets_of (sym r) ∙ octets-again n t' o' l in
    rw (a, l)

pub zeros-read : (n : ℕ) → numbers_in (replicate (2 * n) 0) ≡ replicate n 0
unfolding numbers_in
zeros-read zero = refl
zeros-read (suc n) = rw (twice n) (ap (λ (l : List ℕ). 0 ∷ l) (zeros-read n))
