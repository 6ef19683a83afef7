-- The ranges and the table say of each type number what the rules say: one test that is computed for all 256, and one law that turns it into what is
-- asked of them. Assumes nothing.
use mathlib.Core.Path.{◌≡◌, refl, sym, ap, ◌∙◌}
use mathlib.Core.Bool.{Bool, true, false, cond, ◌&&◌, ◌||◌}
use Prim.Native.Nat.{ℕ, ◌+◌, ◌/◌, ◌%◌, ◌≤◌, ◌<◌}
use native.Mathlib.Omega.{arith}
use borrow.Author.Tests.{eqb-true, ltb-true}
use lib.Dec.{eqb, ltb}
use Rattle.rules.specs.Types.{parteds, least_by_type, least_of, is_parted, groups, is_group, whole_types, covers_whole, rest_types, covers_rest}
use Rattle.rules.specs.Standing.{kept, short}
use Rattle.rules.specs.Covered.{is_aside, open_octets}
use Rattle.rules.proofs.Lines.{and_left, and_right}
use Rattle.rules.proofs.Covers.{least_unparted, group-not-whole, group-not-rest}
use Rattle.facts.specs.Facts.{below79, between, above95, by_range, least_by, mark_of, octet_of, octets_from, facts, mark_at, mark_in, group_in, open_in}
use Rattle.facts.proofs.Numbers.{below}

-- ---- the three types with parts, as sums

pub sum_87 : (f x y : ℕ) → x ≡ cond (eqb (f / 128 % 2) 1) 4 0 → y ≡ cond (eqb (f / 64 % 2) 1) 16 0 → 5 + x + y ≡ least_of 87 f
unfolding least_of parteds
sum_87 f x y a c = omega (arith, a, c)

pub sum_79 : (f x y z : ℕ) → x ≡ cond (eqb (f % 8) 1) 4 0 → y ≡ cond (eqb (f % 8) 2) 17 0 → z ≡ cond (eqb (f % 8) 3) 21 0 → 1 + x + y + z ≡ least_of 79 f
unfolding least_of parteds
sum_79 f x y z a c d = let e : f / 1 ≡ f = omega arith in rw e (omega (arith, a, c, d))

pub sum_86 : (f u v w x y z : ℕ) → u ≡ cond (eqb (f % 2) 1) 7 0 → v ≡ cond (eqb (f / 2 % 2) 1) 7 0 → w ≡ cond (eqb (f / 4 % 2) 1) 7 0
    → x ≡ cond (eqb (f / 8 % 2) 1) 5 0 → y ≡ cond (eqb (f / 16 % 2) 1) 7 0 → z ≡ cond (eqb (f / 32 % 2) 1) 5 0 → 1 + (u + v + w) + x + y + z ≡ least_of 86 f
unfolding least_of parteds
sum_86 f u v w x y z a c d e g h = let i : f / 1 ≡ f = omega arith in rw i (omega (arith, a, c, d, e, g, h))

-- ---- least lengths

-- a type without parts goes by the ranges alone
figure_of : ℕ → ℕ
figure_of t = by_range t (below79 t) (between t) (above95 t)

-- what the rules say of a type number, beside what is found here
record Right (t : ℕ) : Type 0 where
  least : is_parted t ≡ false → figure_of t ≡ least_by_type t
  mark : mark_in facts t ≡ mark_of t

test : ℕ → Bool
test t = (is_parted t || eqb (figure_of t) (least_by_type t)) && eqb (mark_in facts t) (mark_of t)

right : (t : ℕ) → test t ≡ true → Right t
unfolding test
right t e = record {
  least = λ p. eqb-true _ _ (rw p at (and_left (is_parted t || eqb (figure_of t) (least_by_type t)) (eqb (mark_in facts t) (mark_of t)) e));
  mark = eqb-true _ _ (and_right (is_parted t || eqb (figure_of t) (least_by_type t)) (eqb (mark_in facts t) (mark_of t)) e);
}

rule : (t : ℕ) → t < 256 → Right t
unfolding test figure_of by_range below79 between above95 facts octets_from octet_of mark_at mark_in mark_of parteds least_by_type is_parted is_group groups covers_whole rest_types covers_rest whole_types
rule t h = right t (below test 256 refl t h)

one_of : (t : ℕ) (x : Bool) → is_parted t ≡ x → eqb t 87 || (eqb t 79 || (eqb t 86 || false)) ≡ x
unfolding is_parted parteds
one_of t x e = e

-- the three types with parts
parted-is : (t f : ℕ) → is_parted t ≡ true → least_by t f ≡ least_of t f
unfolding least_by by_range
parted-is t f e = go (eqb t 87) (eqb t 79) (eqb t 86) refl refl refl (one_of t true e)
  where
    go : (a c d : Bool) → eqb t 87 ≡ a → eqb t 79 ≡ c → eqb t 86 ≡ d → a || (c || (d || false)) ≡ true → least_by t f ≡ least_of t f
    go true c d ea ec ed z = rw (eqb-true t 87 ea)
    go false true d ea ec ed z = rw (eqb-true t 79 ec)
    go false false true ea ec ed z = rw (eqb-true t 86 ed)
    go false false false ea ec ed z = let y : ◌≡◌ {A = ℕ} 0 1 = cc in absurd (omega arith)

-- and every other
unparted_is : (t f : ℕ) → is_parted t ≡ false → least_by t f ≡ figure_of t
unfolding least_by figure_of
unparted_is t f e = ap (λ (x : ℕ). by_range t (below79 t) x (above95 t)) (go (eqb t 87) (eqb t 79) (eqb t 86) (one_of t false e))
  where
    go : (a c d : Bool) → a || (c || (d || false)) ≡ false → cond a (least_of 87 f) (cond d (least_of 86 f) (cond c (least_of 79 f) (between t))) ≡ between t
    go true c d z = let y : ◌≡◌ {A = ℕ} 0 1 = cc in absurd (omega arith)
    go false true d z = let y : ◌≡◌ {A = ℕ} 0 1 = cc in absurd (omega arith)
    go false false true z = let y : ◌≡◌ {A = ℕ} 0 1 = cc in absurd (omega arith)
    go false false false z = refl

pub least_is : (t f : ℕ) → t < 256 → least_by t f ≡ least_of t f
least_is t f h = go (is_parted t) refl
  where
    go : (c : Bool) → is_parted t ≡ c → least_by t f ≡ least_of t f
    go true e = parted-is t f e
    go false e = unparted_is t f e ∙ (rule t h).least e ∙ sym (least_unparted t f e)

-- ---- groups and cover, by the mark as a number

group_case : (w r g : Bool) → (g ≡ true → w ≡ false) → (g ≡ true → r ≡ false) → eqb (cond w 1 (cond r 2 (cond g 3 0))) 3 ≡ g
group_case true r true a c = let z = a refl in let y : ◌≡◌ {A = ℕ} 0 1 = cc in absurd (omega arith)
group_case true r false a c = refl
group_case false true true a c = let z = c refl in let y : ◌≡◌ {A = ℕ} 0 1 = cc in absurd (omega arith)
group_case false true false a c = refl
group_case false false true a c = refl
group_case false false false a c = refl

pub group-is : (t : ℕ) → t < 256 → group_in facts t ≡ is_group t
unfolding group_in mark_of
group-is t h = rw (rule t h).mark (group_case (covers_whole t) (covers_rest t) (is_group t) (group-not-whole t) (group-not-rest t))

open_case : (a w r g y z : Bool) (n : ℕ)
    → cond a 0 (cond (eqb (cond w 1 (cond r 2 (cond g 3 0))) 1) 0 (cond (eqb (cond w 1 (cond r 2 (cond g 3 0))) 2 && y && z) 1 n)) ≡ cond (a || w) 0 (cond (r && y && z) 1 n)
open_case true w r g y z n = refl
open_case false true r g y z n = refl
open_case false false true g y z n = refl
open_case false false false true y z n = refl
open_case false false false false y z n = refl

pub open_is : (t s n : ℕ) → t < 256 → open_in facts t s n ≡ open_octets t s n
unfolding open_in open_octets mark_of
open_is t s n h = rw (rule t h).mark (open_case (is_aside s) (covers_whole t) (covers_rest t) (is_group t) (eqb s kept || eqb s short) (ltb 0 n) n)

most_case : (a r y z : Bool) (n : ℕ) → ltb 0 n ≡ z → cond a 0 (cond (r && y && z) 1 n) ≤ n
most_case true r y z n e = omega arith
most_case false true true true n e = omega (arith, ltb-true 0 n e)
most_case false true true false n e = omega arith
most_case false true false z n e = omega arith
most_case false false y z n e = omega arith

pub open_most : (t s n : ℕ) → open_octets t s n ≤ n
unfolding open_octets
open_most t s n = most_case (is_aside s || covers_whole t) (covers_rest t) (eqb s kept || eqb s short) (ltb 0 n) n refl
