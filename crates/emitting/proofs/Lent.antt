-- Numbers that are lent as octets. Assumes nothing.
use mathlib.Core.Path.{◌≡◌, refl, sym, ap, ◌∙◌}
use mathlib.Core.List.{List, [], ◌∷◌, ◌++◌}
use Prim.Native.Nat.{ℕ, zero, suc, ◌-◌, ◌*◌, ◌≤◌, ◌<◌}
use native.Mathlib.Omega.{arith}
use lib.ListN.{length, take, drop, get_or, length-append, length-drop, get_or-append}
use lib.Seq.{take_all, get_or-append_right, drop-append-add}
use Rattle.std.proofs.lemmas.List.{drop-append-le}
use Rattle.rules.specs.Octets.{numbers_in}
use Rattle.rules.proofs.Numbers.{numbers-length, numbers-at}

pub numbers_drop : (xs : List ℕ) (i : ℕ) → i ≤ length (numbers_in xs) → numbers_in (drop (2 * i) xs) ≡ drop i (numbers_in xs)
unfolding numbers_in
numbers_drop xs zero l = refl
numbers_drop [] (suc i) l = absurd (omega arith)
numbers_drop (x ∷ []) (suc i) l = absurd (omega arith)
numbers_drop (x ∷ y ∷ xs) (suc i) l =
    let e : 2 * suc i ≡ suc (suc (2 * i)) = omega arith in
    rw e (numbers_drop xs i (omega arith))

-- as the code cuts them off
pub numbers_from : (xs : List ℕ) (i : ℕ) → i ≤ length (numbers_in xs) → numbers_in (take (length xs - 2 * i) (drop (2 * i) xs)) ≡ drop i (numbers_in xs)
numbers_from xs i l = ap numbers_in (take_all (length xs - 2 * i) (drop (2 * i) xs) (omega (arith, length-drop (2 * i) xs))) ∙ numbers_drop xs i l

pub ruleset lent = (numbers-length, numbers-at, numbers_from)

-- ---- numbers, and octets behind them

module _ (xs ys : List ℕ) (i : ℕ) where
  pub joined_first : i < length xs → get_or xs i 0 ≡ get_or (xs ++ ys) i 0
  joined_first l = sym (get_or-append xs ys 0 i l)

  pub joined_rest : length xs ≤ i → get_or ys (i - length xs) 0 ≡ get_or (xs ++ ys) i 0
  joined_rest l = sym (get_or-append_right xs ys i 0 l)

  pub cut_first : i < length xs → drop i xs ++ ys ≡ drop i (xs ++ ys)
  cut_first l = sym (drop-append-le i xs ys (omega arith))

  pub cut_rest : length xs ≤ i → drop (i - length xs) ys ≡ drop i (xs ++ ys)
  cut_rest l = sym (drop-append-add xs ys (i - length xs)) ∙ ap (λ n. drop n (xs ++ ys)) (omega arith)

pub ruleset joined = (numbers-length, numbers-at, numbers_from, length-append, joined_first, joined_rest, cut_first, cut_rest)
