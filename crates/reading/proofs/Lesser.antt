-- The lesser of two gaps is a minimum in which 0, none, stands above all: so gaps may be met in any order. Assumes nothing.
--     lesser-none, none-lesser     none changes nothing        lesser-left, lesser-right   which of two it is
--     lesser_comm, lesser_assoc    in any order
use mathlib.Core.Path.{◌≡◌, refl, sym, ◌∙◌}
use mathlib.Core.Bool.{Bool, true, false, cond}
use Prim.Native.Nat.{ℕ, zero, suc, ◌≤◌, ◌<◌}
use native.Mathlib.Omega.{arith}
use native.Mathlib.Decide.{dec_le}
use borrow.Author.Tests.{leb-true, le-leb, ne_eqb}
use lib.Dec.{leb, eqb-suc-zero}
use Rattle.standings.specs.Faults.{lesser}

pub lesser-none : (a : ℕ) → lesser a 0 ≡ a
unfolding lesser
lesser-none a = refl

pub none-lesser : (a : ℕ) → lesser 0 a ≡ a
unfolding lesser
none-lesser zero = refl
none-lesser (suc a) = rw (eqb-suc-zero a)

pub lesser-left : (a c : ℕ) → 0 < a → a ≤ c → lesser a c ≡ a
unfolding lesser
lesser-left a c p l = rw (ne_eqb a 0 (λ z. omega arith), ne_eqb c 0 (λ z. omega arith), le-leb a c l)

pub lesser-right : (a c : ℕ) → 0 < c → c ≤ a → lesser a c ≡ c
unfolding lesser
lesser-right a c p l = rw (ne_eqb a 0 (λ z. omega arith), ne_eqb c 0 (λ z. omega arith)) (go (leb a c) refl)
  where
    go : (t : Bool) → leb a c ≡ t → cond t a c ≡ c
    go true e = omega (arith, leb-true a c e)
    go false e = refl

pub lesser_comm : (a c : ℕ) → lesser a c ≡ lesser c a
lesser_comm zero c = none-lesser c ∙ sym (lesser-none c)
lesser_comm (suc a) zero = lesser-none (suc a) ∙ sym (none-lesser (suc a))
lesser_comm (suc a) (suc c) = go (dec_le a c)
  where
    go : Dec (a ≤ c) → lesser (suc a) (suc c) ≡ lesser (suc c) (suc a)
    go (yes l) = lesser-left (suc a) (suc c) (omega arith) (omega arith) ∙ sym (lesser-right (suc c) (suc a) (omega arith) (omega arith))
    go (no l) = lesser-right (suc a) (suc c) (omega arith) (omega arith) ∙ sym (lesser-left (suc c) (suc a) (omega arith) (omega arith))

pub lesser_assoc : (a c d : ℕ) → lesser (lesser a c) d ≡ lesser a (lesser c d)
lesser_assoc zero c d = rw (none-lesser c, none-lesser (lesser c d))
lesser_assoc (suc a) zero d = rw (lesser-none (suc a), none-lesser d)
lesser_assoc (suc a) (suc c) zero = rw (lesser-none (lesser (suc a) (suc c)), lesser-none (suc c))
lesser_assoc (suc a) (suc c) (suc d) = go (dec_le a c) (dec_le c d)
  where
    left : (x y : ℕ) → x ≤ y → lesser (suc x) (suc y) ≡ suc x
    left x y l = lesser-left (suc x) (suc y) (omega arith) (omega arith)

    right : (x y : ℕ) → y ≤ x → lesser (suc x) (suc y) ≡ suc y
    right x y l = lesser-right (suc x) (suc y) (omega arith) (omega arith)

    go : Dec (a ≤ c) → Dec (c ≤ d) → lesser (lesser (suc a) (suc c)) (suc d) ≡ lesser (suc a) (lesser (suc c) (suc d))
    go (yes l) (yes h) = rw (left a c l, left c d h, left a d (omega arith), left a c l)
    go (yes l) (no h) = rw (left a c l, right c d (omega arith))
    go (no l) (yes h) = rw (right a c (omega arith), left c d h, right a c (omega arith))
    go (no l) (no h) = rw (right a c (omega arith), right c d (omega arith), right a d (omega arith))
