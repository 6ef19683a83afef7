-- Each part of a line's number says what the line does: the parts are bits that do not overlap. Assumes nothing.
--     must-in, many-in, on_in, skip-in, inside-in, limited-in   the parts          lists-in   whether the line lists a pair
use mathlib.Core.Path.{◌≡◌, refl}
use mathlib.Core.Bool.{Bool, true, false, cond, not, ◌&&◌, ◌||◌}
use Prim.Native.Nat.{ℕ, ◌+◌, ◌*◌, ◌/◌, ◌%◌, ◌≤◌, ◌<◌}
use native.Mathlib.Omega.{arith}
use borrow.Author.Tests.{eqb-true, eq-eqb, ne_eqb, eqb-false}
use lib.Dec.{eqb}
use Rattle.rules.specs.Types.{among}
use Rattle.rules.specs.Listings.{Line, any_instance, book, lists}
use Rattle.rules.specs.Sound.{is_free}
use Rattle.rules.proofs.Lines.{SoundLine}
use Rattle.listings.specs.Data.{key_of, bit, entry_of, key_of_entry, must_in, many_in, on_of_entry, skip_in, inside_in, limited_in, lists_in}

-- ---- the parts of a number

record Parts (x key m r a b c d s v z : ℕ) : Type 0 where
  key_is : x % 8192 ≡ key
  must_is : x / 8192 % 2 ≡ m
  many_is : x / 16384 % 2 ≡ r
  one_is : x / 32768 % 2 ≡ a
  two_is : x / 65536 % 2 ≡ b
  three_is : x / 131072 % 2 ≡ c
  four_is : x / 262144 % 2 ≡ d
  skip_is : x / 524288 % 32 ≡ s
  inside_is : x / 16777216 % 128 ≡ v
  limited_is : x / 2147483648 % 2 ≡ z

parts : (key m r a b c d s v z : ℕ) → key < 8192 → m < 2 → r < 2 → a < 2 → b < 2 → c < 2 → d < 2 → s < 32 → v < 128 → z < 2
    → Parts (key + 8192 * m + 16384 * r + 32768 * a + 65536 * b + 131072 * c + 262144 * d + 524288 * s + 16777216 * v + 2147483648 * z) key m r a b c d s v z
parts key m r a b c d s v z h₁ h₂ h₃ h₄ h₅ h₆ h₇ h₈ h₉ h₁₀ = record {
  key_is = omega arith;
  must_is = omega arith;
  many_is = omega arith;
  one_is = omega arith;
  two_is = omega arith;
  three_is = omega arith;
  four_is = omega arith;
  skip_is = omega arith;
  inside_is = omega arith;
  limited_is = omega arith;
}

bit-low : (b : Bool) → bit b < 2
bit-low true = omega arith
bit-low false = omega arith

bit_is : (b : Bool) → eqb (bit b) 1 ≡ b
bit_is true = refl
bit_is false = refl

-- a pair is told by its key, and every instance by the key of its type
key-lists : (t i t' i' : ℕ) → i < any_instance → i' ≤ any_instance
    → eqb (key_of t' i') (key_of t i) || eqb (key_of t' i') (key_of t any_instance) ≡ eqb t' t && (eqb i' i || eqb i' any_instance)
key-lists t i t' i' h h' = go (eqb t' t) (eqb i' i) (eqb i' any_instance) refl refl refl
  where
    go : (a b c : Bool) → eqb t' t ≡ a → eqb i' i ≡ b → eqb i' any_instance ≡ c → eqb (key_of t' i') (key_of t i) || eqb (key_of t' i') (key_of t any_instance) ≡ a && (b || c)
    go false b c x y z = simp (ne_eqb (key_of t' i') (key_of t i) (λ w. eqb-false t' t x (omega arith)), ne_eqb (key_of t' i') (key_of t any_instance) (λ w. eqb-false t' t x (omega arith)))
    go true true c x y z = simp (eq-eqb (key_of t' i') (key_of t i) (omega (arith, eqb-true t' t x, eqb-true i' i y)))
    go true false true x y z = simp (ne_eqb (key_of t' i') (key_of t i) (λ w. eqb-false i' i y (omega (arith, eqb-true t' t x))), eq-eqb (key_of t' i') (key_of t any_instance) (omega (arith, eqb-true t' t x, eqb-true i' any_instance z)))
    go true false false x y z = simp (ne_eqb (key_of t' i') (key_of t i) (λ w. eqb-false i' i y (omega (arith, eqb-true t' t x))), ne_eqb (key_of t' i') (key_of t any_instance) (λ w. eqb-false i' any_instance z (omega (arith, eqb-true t' t x))))

-- ---- the number of a line

module _ {levels : ℕ} (l : Line) (skip : ℕ) (fine : SoundLine levels l) (few : skip < 32) (deep : levels ≤ 128) where
  said : Parts (entry_of l skip) (key_of l.typ l.inst) (bit l.must) (bit l.many) (bit (among 1 l.kinds)) (bit (among 2 l.kinds)) (bit (among 3 l.kinds)) (bit (among 4 l.kinds)) skip l.inside (bit (not (is_free l)))
  unfolding entry_of
  said =
      let a = among 1 l.kinds in
      let b = among 2 l.kinds in
      let c = among 3 l.kinds in
      let d = among 4 l.kinds in
      parts (key_of l.typ l.inst) (bit l.must) (bit l.many) (bit a) (bit b) (bit c) (bit d) skip l.inside (bit (not (is_free l)))
      (omega (arith, fine.typ, fine.inst)) (bit-low l.must) (bit-low l.many) (bit-low a) (bit-low b) (bit-low c) (bit-low d) few (omega (arith, fine.inside)) (bit-low (not (is_free l)))

  pub must-in : must_in (entry_of l skip) ≡ l.must
  must-in = rw said.must_is (bit_is l.must)

  pub many-in : many_in (entry_of l skip) ≡ l.many
  many-in = rw said.many_is (bit_is l.many)

  pub skip-in : skip_in (entry_of l skip) ≡ skip
  skip-in = said.skip_is

  pub inside-in : inside_in (entry_of l skip) ≡ l.inside
  inside-in = said.inside_is

  pub limited-in : limited_in (entry_of l skip) ≡ not (is_free l)
  limited-in = rw said.limited_is (bit_is (not (is_free l)))

  pub key_in : key_of_entry (entry_of l skip) ≡ key_of l.typ l.inst
  key_in = said.key_is

  -- on a kind that there is
  pub on_in : (k : ℕ) → among k book.kinds ≡ true → on_of_entry k (entry_of l skip) ≡ among k l.kinds
  unfolding book on_of_entry
  on_in k e = go (eqb k 1) (eqb k 2) (eqb k 3) (eqb k 4) refl refl refl refl e
    where
      go : (a b c d : Bool) → eqb k 1 ≡ a → eqb k 2 ≡ b → eqb k 3 ≡ c → eqb k 4 ≡ d → a || (b || (c || (d || false))) ≡ true
          → cond a (eqb (entry_of l skip / 32768 % 2) 1) (cond b (eqb (entry_of l skip / 65536 % 2) 1) (cond c (eqb (entry_of l skip / 131072 % 2) 1) (eqb (entry_of l skip / 262144 % 2) 1))) ≡ among k l.kinds
      go true b c d x y z u w = rw (eqb-true k 1 x, said.one_is) (bit_is (among 1 l.kinds))
      go false true c d x y z u w = rw (eqb-true k 2 y, said.two_is) (bit_is (among 2 l.kinds))
      go false false true d x y z u w = rw (eqb-true k 3 z, said.three_is) (bit_is (among 3 l.kinds))
      go false false false true x y z u w = rw (eqb-true k 4 u, said.four_is) (bit_is (among 4 l.kinds))
      go false false false false x y z t w = let u : ◌≡◌ {A = ℕ} 0 1 = cc in absurd (omega arith)

  pub lists-in : (k t i : ℕ) → among k book.kinds ≡ true → i < any_instance → lists_in k (key_of t i) (key_of t any_instance) (entry_of l skip) ≡ lists k t i l
  unfolding lists_in
  lists-in k t i e h = rw (key_in, on_in k e, key-lists t i l.typ l.inst h fine.inst)
