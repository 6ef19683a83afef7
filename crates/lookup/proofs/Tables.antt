-- Laws of the rows of a table: whether it is one of a message, test by test, how many rows it has then, and that they lie in it. Assumes nothing.
use mathlib.Core.Path.{◌≡◌, refl}
use mathlib.Core.Bool.{Bool, true, false, cond, not, ◌&&◌, ◌||◌}
use mathlib.Core.List.{List}
use Prim.Native.Nat.{ℕ, suc, ◌+◌, ◌-◌, ◌≤◌, ◌<◌}
use native.Mathlib.Nat.{sub-zero, zero-add}
use native.Mathlib.Numerals.{add-one}
use native.Mathlib.Omega.{arith}
use borrow.Author.Tests.{ltb-false, eqb-true, ne_eqb}
use lib.Dec.{eqb, ltb}
use lib.ListN.{length, get_or}
use Rattle.rules.specs.Sizes.{header_numbers, used}
use Rattle.rules.specs.Framing.{octet}
use Rattle.rules.specs.Values.{row_standing, row_count, table_type, table_kind, reads_as_cut, standing_kept, is_of, table_rows}
use Rattle.lookup.specs.Lent.{HasRows, headed}

-- ---- the header

-- a table of which the header tells no wrong length or place
pub record Whole (t : List ℕ) : Type 0 where
  pub long : header_numbers ≤ length t
  pub all_there : used (row_count t) ≤ length t

pub whole : (t : List ℕ) → headed t ≡ true → Whole t
unfolding headed
whole t = go (ltb (length t) header_numbers) (ltb (length t) (get_or t 3 0)) (eqb (get_or t 2 0) header_numbers) (eqb (get_or t 3 0) (used (row_count t))) refl refl refl
  where
    wrong : {A : Type 0} → false ≡ true → A
    wrong e = let z : ◌≡◌ {A = ℕ} 0 1 = cc in absurd (omega arith)

    go : (a b c d : Bool) → ltb (length t) header_numbers ≡ a → ltb (length t) (get_or t 3 0) ≡ b → eqb (get_or t 3 0) (used (row_count t)) ≡ d
        → (not (a || b) && c && d) ≡ true → Whole t
    go true b c d x y z e = wrong e
    go false true c d x y z e = wrong e
    go false false false d x y z e = wrong e
    go false false true false x y z e = wrong e
    go false false true true x y z e =
        record { long = ltb-false (length t) header_numbers x; all_there = omega (arith, ltb-false (length t) (get_or t 3 0) y, eqb-true (get_or t 3 0) (used (row_count t)) z) }

pub has_all : (t : List ℕ) → Whole t → HasRows t (row_count t)
has_all t w row l = omega (arith, w.all_there)

-- ---- whose table it is: the same tests in another order
module _ (k : ℕ) (m t : List ℕ) where
  pub of_by : is_of k m t ≡ (headed t && eqb (table_kind t) k && ltb 1 (length m) && eqb (table_type t) (octet m 1) && eqb (get_or t 1 0) (standing_kept t 0 (row_count t)))
  unfolding is_of headed
  of_by = go (reads_as_cut t) (eqb (get_or t 2 0) header_numbers) (eqb (get_or t 3 0) (used (row_count t))) (eqb (get_or t 1 0) (standing_kept t 0 (row_count t))) (eqb (table_kind t) k) (ltb 1 (length m)) (eqb (table_type t) (octet m 1))
    where
      go : (x a b c d e f : Bool) → (not (x || (not a || not b || not c)) && d && e && f) ≡ ((not x && a && b) && d && e && f && c)
      go true a b c d e f = refl
      go false false b c d e f = refl
      go false true false c d e f = refl
      go false true true true false e f = refl
      go false true true true true false f = refl
      go false true true true true true true = refl
      go false true true true true true false = refl
      go false true true false false e f = refl
      go false true true false true false f = refl
      go false true true false true true true = refl
      go false true true false true true false = refl

  pub of_whole : is_of k m t ≡ true → Whole t
  of_whole e = go (headed t) refl (rw of_by at e)
    where
      go : (c : Bool) → headed t ≡ c
          → (c && eqb (table_kind t) k && ltb 1 (length m) && eqb (table_type t) (octet m 1) && eqb (get_or t 1 0) (standing_kept t 0 (row_count t))) ≡ true → Whole t
      go true h f = whole t h
      go false h f = let z : ◌≡◌ {A = ℕ} 0 1 = cc in absurd (omega arith)

  -- ---- how many rows it has
  pub all_rows : is_of k m t ≡ true → row_count t ≡ table_rows k m t
  unfolding table_rows
  all_rows e = rw e

  pub no_rows : is_of k m t ≡ false → 0 ≡ table_rows k m t
  unfolding table_rows
  no_rows e = rw e

  pub rows_in : HasRows t (table_rows k m t)
  unfolding table_rows
  rows_in = go (is_of k m t) refl
    where
      go : (c : Bool) → is_of k m t ≡ c → HasRows t (cond c (row_count t) 0)
      go true e = has_all t (of_whole e)
      go false e = λ row l. absurd (omega arith)

-- ---- counting the rows of standing 0, from the first on
module _ (t : List ℕ) (n : ℕ) where
  pub record Counting (kept row : ℕ) : Type 0 where
    pub most : row ≤ n
    pub few : kept ≤ row
    pub sum : kept + standing_kept t row (n - row) ≡ standing_kept t 0 n

  pub count_begins : Counting 0 0
  count_begins = record { most = omega arith; few = omega arith; sum = rw sub-zero (zero-add (standing_kept t 0 n)) }

  module _ {kept row : ℕ} (s : Counting kept row) (l : row < n) where
    left : n - row ≡ suc (n - (row + 1))
    left = omega arith

    pub counted : row_standing t row ≡ 0 → Counting (kept + 1) (row + 1)
    unfolding standing_kept
    counted e = let g = rw (left, e, ← add-one row) at s.sum in record { most = omega arith; few = omega (arith, s.few); sum = omega arith }

    pub passed : (row_standing t row ≡ 0 → ⊥) → Counting kept (row + 1)
    unfolding standing_kept
    passed e = let g = rw (left, ne_eqb (row_standing t row) 0 e, ← add-one row) at s.sum in record { most = omega arith; few = omega (arith, s.few); sum = g }

  pub count_ends : {kept row : ℕ} → Counting kept row → n ≤ row → kept ≡ standing_kept t 0 n
  unfolding standing_kept
  count_ends {kept} {row} s l =
      let z : n - row ≡ 0 = omega arith in
      omega (arith, rw z at s.sum)
