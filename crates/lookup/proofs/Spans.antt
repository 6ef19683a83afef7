-- Laws of where a value stands: case by case, that it lies in the buffer, what is found there, and that it is what the rules say for a table's own count. Assumes nothing.
use mathlib.Core.Path.{◌≡◌, refl, sym}
use mathlib.Core.Bool.{Bool, true, false, cond, ◌&&◌}
use mathlib.Core.List.{List}
use Prim.Native.Nat.{ℕ, ◌+◌, ◌≤◌, ◌<◌}
use native.Mathlib.Omega.{arith}
use borrow.Author.Tests.{lt-ltb, le-ltb, le-leb, lt-leb, eq-eqb, ne_eqb, leb-true, eqb-true}
use lib.Dec.{ltb, leb, eqb}
use lib.ListN.{length}
use denote.Ref.{Bor}
use Rattle.std.specs.Prelude.{Option, Some, None, unwrap_or, is_some}
use Rattle.rules.specs.declared.Span.{Span}
use Rattle.rules.specs.Values.{table_rows, row_place, row_length, nowhere, row_span, desk_span, seek_plain, plain_span, Stands}
use Rattle.lookup.specs.Lent.{span_by, desk_by, Within, Finds}

-- where the value of a row ends
abbrev row_end : List ℕ → ℕ → ℕ
row_end t row = row_place t row + row_length t row

abbrev row_value : List ℕ → ℕ → Span
row_value t row = record { start = row_place t row; len = row_length t row; there = true }

module _ (count : ℕ) (t : List ℕ) (row n : ℕ) where
  pub no_row : count ≤ row → span_by count t row n ≡ nowhere
  unfolding span_by
  no_row h = rw (le-ltb row count h)

  pub outside : row < count → n < row_end t row → span_by count t row n ≡ nowhere
  unfolding span_by
  outside h k = rw (lt-ltb row count h, lt-leb (row_end t row) n k)

  pub inside : row < count → row_end t row ≤ n → span_by count t row n ≡ row_value t row
  unfolding span_by
  inside h k = rw (lt-ltb row count h, le-leb (row_end t row) n k)

  pub row_within : Within (span_by count t row n) n
  unfolding span_by
  row_within = cases (ltb row count) (leb (row_end t row) n) refl
    where
      cases : (a b : Bool) → leb (row_end t row) n ≡ b → Within (cond (a && b) (row_value t row) nowhere) n
      cases true true e = leb-true (row_end t row) n e
      cases true false e = omega arith
      cases false b e = omega arith

-- a span lies in a message of m octets and in a copy of c
pub record InBoth (m c : ℕ) (s : Span) : Type 0 where
  pub message : Within s m
  pub copy : Within s c

module _ (count row m c : ℕ) (t : List ℕ) where
  pub apart : (m ≡ c → ⊥) → desk_by count row m c t ≡ nowhere
  unfolding desk_by
  apart h = rw (ne_eqb m c h)

  pub alike : m ≡ c → desk_by count row m c t ≡ span_by count t row c
  unfolding desk_by
  alike h = rw (eq-eqb m c h)

  pub desk-within : InBoth m c (desk_by count row m c t)
  unfolding desk_by
  desk-within = cases (eqb m c) refl
    where
      cases : (b : Bool) → eqb m c ≡ b → InBoth m c (cond b (span_by count t row c) nowhere)
      cases true e = record { message = omega (arith, row_within count t row c, eqb-true m c e); copy = row_within count t row c }
      cases false e = record { message = omega arith; copy = omega arith }

-- ---- what is found, and the empty part in its place

pub there : (buffer : Bor (List ℕ)) (s : Span) (found : Option (Bor (List ℕ))) → Finds buffer s found → is_some found ≡ s.there
there buffer s None f = rw f
there buffer s (Some part) f = sym f.0

pub stands : (buffer : Bor (List ℕ)) (s : Span) (found : Option (Bor (List ℕ))) {empty : Bor (List ℕ)} → Finds buffer s found → Stands buffer nowhere empty
    → Stands buffer s (unwrap_or found empty)
stands buffer s None f e = rw f e
stands buffer s (Some part) f e = f.1

-- ---- for the count of a table's own rows
module _ (k : ℕ) (m t : List ℕ) where
  pub own-span : (row n : ℕ) → span_by (table_rows k m t) t row n ≡ row_span k m t row n
  unfolding span_by row_span
  own-span row n = refl

  pub own-desk : (row copy : ℕ) → desk_by (table_rows k m t) row (length m) copy t ≡ desk_span k row m copy t
  unfolding desk_by desk_span span_by row_span
  own-desk row copy = refl

  pub own-plain : (typ inst row : ℕ) → seek_plain t typ inst 0 (table_rows k m t) ≡ row → span_by (table_rows k m t) t row (length m) ≡ plain_span k typ inst m t
  unfolding plain_span span_by row_span
  own-plain typ inst row e = rw e

  pub plain-within : (typ inst : ℕ) → Within (plain_span k typ inst m t) (length m)
  unfolding plain_span span_by row_span
  plain-within typ inst = row_within (table_rows k m t) t (seek_plain t typ inst 0 (table_rows k m t)) (length m)
