-- What the tests of a table tell. Assumes nothing.
use mathlib.Core.Path.{◌≡◌, refl, sym}
use mathlib.Core.Bool.{Bool, true, false}
use mathlib.Core.List.{List}
use Prim.Native.Nat.{ℕ, ◌≤◌}
use native.Mathlib.Omega.{arith}
use borrow.Author.Tests.{leb-true, leb-false}
use lib.Dec.{leb}
use Rattle.rules.specs.Values.{row_count}
use Rattle.rules.proofs.Reasons.{RowRight, NoReason}
use Rattle.given.specs.Given.{Told, HeaderRight, RowsRight, row_in, FitRow}

-- ---- what a test tells

pub unlike : true ≡ false → ⊥
unlike e = let z : ◌≡◌ {A = ℕ} 0 1 = cc in omega arith

pub told_yes : {P : Type 0} → P → Told P true
told_yes p = record { holds = λ e. p; fails = λ e. absurd (unlike e) }

pub told_no : {P : Type 0} → (P → ⊥) → Told P false
told_no f = record { holds = λ e. absurd (unlike (sym e)); fails = λ e. f }

-- a test tells one thing
pub told_unique : {P : Type 0} (r r' : Bool) → Told P r → Told P r' → r ≡ r'
told_unique true true t t' = refl
told_unique true false t t' = absurd (t'.fails refl (t.holds refl))
told_unique false true t t' = absurd (t.fails refl (t'.holds refl))
told_unique false false t t' = refl

-- by another test
pub told-by : {P Q : Type 0} {r : Bool} → Told P r → (P → Q) → (Q → P) → Told Q r
told-by t f g = record { holds = λ e. f (t.holds e); fails = λ e q. t.fails e (g q) }

pub told_le : (a c : ℕ) → Told (a ≤ c) (leb a c)
told_le a c = record { holds = leb-true a c; fails = λ e l. omega (arith, leb-false a c e) }

-- ---- a row

pub right_row : {t values : List ℕ} {n : ℕ} → FitRow (row_in t n) values → RowRight t values n
right_row f = record { stand = f.stand; typ = f.typ; inst = f.inst; there = f.there }

pub row_fits : {t values : List ℕ} {n : ℕ} → RowRight t values n → FitRow (row_in t n) values
row_fits w = record { stand = w.stand; typ = w.typ; inst = w.inst; there = w.there }

-- ---- the whole

module _ (sequence : ℕ) (t values : List ℕ) where
  pub by_rows : sequence ≤ 16777215 → HeaderRight t → RowsRight t values (row_count t) → NoReason sequence t values
  by_rows l h r = record {
    long = h.long;
    all_there = h.all_there;
    kept_is = h.kept_is;
    place_is = h.place_is;
    used_is = h.used_is;
    deep = r.deep;
    each = r.each;
    low = l;
  }

  pub its-header : NoReason sequence t values → HeaderRight t
  its-header a = record { long = a.long; all_there = a.all_there; kept_is = a.kept_is; place_is = a.place_is; used_is = a.used_is }

  pub its-rows : NoReason sequence t values → RowsRight t values (row_count t)
  its-rows a = record { each = a.each; deep = a.deep }
