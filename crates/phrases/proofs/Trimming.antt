-- The entry of a type number and its name: where the blanks at its end begin. Assumes nothing.
--     entry_is   what a table of names has of an entry
--     blank-last, name-last, none-last   one octet less, as long as the last is a blank
use mathlib.Core.Path.{◌≡◌, refl, sym, ap, ◌∙◌}
use mathlib.Core.Bool.{Bool, true, false, cond, ◌&&◌}
use mathlib.Core.List.{List, [], ◌∷◌, ◌++◌}
use Prim.Native.Nat.{min, ℕ, suc, ◌+◌, ◌-◌, ◌*◌, ◌≤◌, ◌<◌}
use native.Mathlib.Omega.{arith}
use native.Mathlib.Decide.{dec_le}
use Rattle.std.proofs.Math.Nat.{min-le_left, min-eq_left, min-eq_right}
use borrow.Author.Tests.{ne_eqb}
use lib.Dec.{eqb}
use lib.ListN.{length, take, drop, get_or, length-append, length-drop, drop_of_length-le}
use lib.Seq.{take_all, take-suc, take-length, take-nil}
use Rattle.phrases.specs.Names.{entry_of, trimmed, before_blanks}

pub entry_is : (names : List ℕ) (t start end : ℕ) → start ≡ min (length names) (32 * t) → end ≡ min (length names) (start + 32)
    → take (end - start) (drop start names) ≡ entry_of names t
entry_is names t start end e f = go (dec_le (length names) (32 * t)) (dec_le (length names) (32 * t + 32))
  where
    go : Dec (length names ≤ 32 * t) → Dec (length names ≤ 32 * t + 32) → take (end - start) (drop start names) ≡ entry_of names t
    go (yes l) q =
        let z : end - start ≡ 0 = omega (arith, e, f, min-eq_left l, min-le_left (length names) (start + 32)) in
        rw z (sym (ap (take 32) (drop_of_length-le names l) ∙ take-nil 32))
    go (no l) (yes m) =
        let a : start ≡ 32 * t = e ∙ min-eq_right (omega arith) in
        let b : length names ≤ start + 32 = omega arith in
        rw (← a) (take_all (end - start) (drop start names) (omega (arith, f, min-eq_left b, length-drop start names)) ∙ sym (take_all 32 (drop start names) (omega (arith, length-drop start names))))
    go (no l) (no m) =
        let a : start ≡ 32 * t = e ∙ min-eq_right (omega arith) in
        let b : start + 32 ≤ length names = omega arith in
        let z : end - start ≡ 32 = omega (arith, f, min-eq_right b) in rw (z, a)

-- ---- the blanks at an entry's end

trimmed-blank : (xs : List ℕ) → trimmed (xs ++ (32 ∷ [])) ≡ trimmed xs
unfolding trimmed
trimmed-blank [] = refl
trimmed-blank (x ∷ xs) = ap (before_blanks x) (trimmed-blank xs)

before_more : (c : Bool) (y : ℕ) (xs : List ℕ) → cond (c && false) [] (y ∷ xs) ≡ y ∷ xs
before_more true y xs = refl
before_more false y xs = refl

trimmed-end : (xs : List ℕ) (x : ℕ) → (x ≡ 32 → ⊥) → trimmed (xs ++ (x ∷ [])) ≡ xs ++ (x ∷ [])
unfolding trimmed
trimmed-end [] x n = rw (ne_eqb x 32 n)
trimmed-end (y ∷ xs) x n =
    ap (before_blanks y) (trimmed-end xs x n)
    ∙ (rw (ne_eqb (length (xs ++ (x ∷ []))) 0 (λ e. omega (arith, length-append xs (x ∷ [])))) (before_more (eqb y 32) y (xs ++ (x ∷ []))))

last_one : (xs : List ℕ) → 0 < length xs → xs ≡ take (length xs - 1) xs ++ (get_or xs (length xs - 1) 0 ∷ [])
last_one xs p =
    let e : length xs ≡ suc (length xs - 1) = omega arith in sym (take-length xs) ∙ ap (λ i. take i xs) e ∙ take-suc xs (length xs - 1) 0 (omega arith)

module _ (xs : List ℕ) where
  pub blank-last : 0 < length xs → get_or xs (length xs - 1) 0 ≡ 32 → trimmed (take (length xs - 1) xs) ≡ trimmed xs
  blank-last p e =
      sym (trimmed-blank (take (length xs - 1) xs))
      ∙ ap (λ x. trimmed (take (length xs - 1) xs ++ (x ∷ []))) (sym e)
      ∙ ap trimmed (sym (last_one xs p))

  pub name-last : 0 < length xs → (get_or xs (length xs - 1) 0 ≡ 32 → ⊥) → xs ≡ trimmed xs
  name-last p x = last_one xs p ∙ sym (trimmed-end (take (length xs - 1) xs) (get_or xs (length xs - 1) 0) x) ∙ ap trimmed (sym (last_one xs p))

pub none-last : (xs : List ℕ) → length xs < 1 → xs ≡ trimmed xs
unfolding trimmed
none-last [] l = refl
none-last (x ∷ xs) l = absurd (omega arith)
