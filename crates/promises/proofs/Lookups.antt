-- The lookups on a table that the one call wrote: its rows are all there and lie in the message, so a row is found exactly where it is below the count,
-- and a pair exactly where a kept row of the message level has it. Assumes nothing.
--     desk-span, desk-found     the desk's lookup          plain-span, plain-found     the plain lookup
-- And on any other run of numbers: where its header disagrees, or names another kind or another type, nothing is found.
--     other-header, other-kind, no_type, other_type     when          plain-nowhere, desk-nowhere     so
use mathlib.Core.Path.{◌≡◌, refl, sym, ap, ◌∙◌}
use mathlib.Core.Logic.{◌↔◌, ◌≢◌}
use mathlib.Core.Bool.{Bool, true, false, cond, not, ◌&&◌, ◌||◌}
use mathlib.Core.List.{List}
use Prim.Native.Nat.{ℕ, zero, suc, ◌+◌, ◌≤◌, ◌<◌}
use native.Mathlib.Omega.{arith}
use native.Mathlib.Decide.{dec_lt, ℕ_discrete}
use borrow.Author.Tests.{eqb-true, eq-eqb, ne_eqb, lt-ltb, le-ltb, le-leb}
use lib.Dec.{eqb, ltb}
use lib.ListN.{length}
use Rattle.rules.specs.Sizes.{header_numbers, used}
use Rattle.rules.specs.Framing.{octet, message_type}
use Rattle.rules.specs.Listings.{Book}
use Rattle.rules.specs.Standing.{kept}
use Rattle.rules.specs.Values.{row_parent, row_type, row_instance, row_standing, table_type, table_kind, reads_as_cut, disagrees, standing_kept, is_of, table_rows, nowhere, row_span, desk_span, is_plain, seek_plain, plain_span}
use Rattle.rules.specs.declared.Span.{Span}
use Rattle.rules.proofs.Lines.{and_left, and_right}
use Rattle.rules.proofs.Rows.{header-least}
use Rattle.tables.specs.Words.{rows, kept_count, first_row, numbers_used, kept_among, row_end}
use Rattle.tables.specs.IsTable.{IsTable}
use Rattle.tables.proofs.Tests.{clash, and-true}
use Rattle.tables.proofs.Trees.{in_message}
use Rattle.promises.specs.Lookups.{value_of, TopRow, FirstTopRow}

-- ---- the first row that passes, of the next n from r on

module _ (t : List ℕ) (y i : ℕ) where
  seek-least : (n r x : ℕ) → r ≤ x → x < r + n → is_plain t y i x ≡ true → seek_plain t y i r n ≤ x
  unfolding seek_plain
  seek-least zero r x a l e = absurd (omega arith)
  seek-least (suc n) r x a l e = go (is_plain t y i r) refl (ℕ_discrete r x) (λ h. seek-least n (suc r) x h (omega arith) e)
    where
      go : (c : Bool) → is_plain t y i r ≡ c → Dec (r ≡ x) → (suc r ≤ x → seek_plain t y i (suc r) n ≤ x) → cond c r (seek_plain t y i (suc r) n) ≤ x
      go true w d f = a
      go false w (yes d) f = absurd (clash (is_plain t y i x) e (rw d at w))
      go false w (no d) f = f (omega arith)

  seek-passes : (n r : ℕ) → seek_plain t y i r n < r + n → is_plain t y i (seek_plain t y i r n) ≡ true
  unfolding seek_plain
  seek-passes zero r l = absurd (omega arith)
  seek-passes (suc n) r l = go (is_plain t y i r) refl l (seek-passes n (suc r))
    where
      go : (c : Bool) → is_plain t y i r ≡ c → cond c r (seek_plain t y i (suc r) n) < r + suc n
          → (seek_plain t y i (suc r) n < suc r + n → is_plain t y i (seek_plain t y i (suc r) n) ≡ true) → is_plain t y i (cond c r (seek_plain t y i (suc r) n)) ≡ true
      go true w h f = w
      go false w h f = f (omega arith)

  -- the test is what a kept row of the message level passes
  row-passes : (r : ℕ) → TopRow t y i r → is_plain t y i r ≡ true
  unfolding is_plain
  row-passes r x =
      let parent = eq-eqb (row_parent t r) 0 x.parent in
      let typ = eq-eqb (row_type t r) y x.typ in
      let inst = eq-eqb (row_instance t r) i x.inst in
      let stand = eq-eqb (row_standing t r) kept x.stand in
      and-true (eqb (row_parent t r) 0 && eqb (row_type t r) y && eqb (row_instance t r) i) (eqb (row_standing t r) kept)
      (and-true (eqb (row_parent t r) 0 && eqb (row_type t r) y) (eqb (row_instance t r) i) (and-true (eqb (row_parent t r) 0) (eqb (row_type t r) y) parent typ) inst) stand

  passes-row : (r : ℕ) → r < rows t → is_plain t y i r ≡ true → TopRow t y i r
  unfolding is_plain
  passes-row r l e =
      let a₃ = and_left (eqb (row_parent t r) 0 && eqb (row_type t r) y && eqb (row_instance t r) i) (eqb (row_standing t r) kept) e in
      let a₂ = and_left (eqb (row_parent t r) 0 && eqb (row_type t r) y) (eqb (row_instance t r) i) a₃ in record {
        there = l;
        parent = eqb-true _ _ (and_left (eqb (row_parent t r) 0) (eqb (row_type t r) y) a₂);
        typ = eqb-true _ _ (and_right (eqb (row_parent t r) 0) (eqb (row_type t r) y) a₂);
        inst = eqb-true _ _ (and_right (eqb (row_parent t r) 0 && eqb (row_type t r) y) (eqb (row_instance t r) i) a₃);
        stand = eqb-true _ _ (and_right (eqb (row_parent t r) 0 && eqb (row_type t r) y && eqb (row_instance t r) i) (eqb (row_standing t r) kept) e);
      }

-- the rows of standing 0, counted from either end
kept-counted : (t : List ℕ) (r n : ℕ) → kept_among t r + standing_kept t r n ≡ kept_among t (r + n)
unfolding standing_kept kept_among
kept-counted t r zero = let z : r + 0 ≡ r = omega arith in rw z (omega arith)
kept-counted t r (suc n) =
    let z : r + suc n ≡ suc r + n = omega arith in
    rw z (step (eqb (row_standing t r) kept) (standing_kept t (suc r) n) ∙ kept-counted t (suc r) n)
  where
    step : (c : Bool) (s : ℕ) → kept_among t r + cond c (suc s) s ≡ kept_among t r + cond c 1 0 + s
    step true s = omega arith
    step false s = omega arith

kept-all : (t : List ℕ) (n : ℕ) → standing_kept t 0 n ≡ kept_among t n
unfolding kept_among
kept-all t n = let z : 0 + n ≡ n = omega arith in let e = rw z at (kept-counted t 0 n) in omega (arith, e)

-- ---- a table of something else

off-right : (a : Bool) → a && false ≡ false
off-right true = refl
off-right false = refl

module _ (k : ℕ) (m t : List ℕ) where
  pub other-header : reads_as_cut t || disagrees t ≡ true → is_of k m t ≡ false
  unfolding is_of
  other-header e = rw e

  pub other-kind : table_kind t ≢ k → is_of k m t ≡ false
  unfolding is_of
  other-kind n = rw (ne_eqb (table_kind t) k n, off-right (not (reads_as_cut t || disagrees t)))

  pub no_type : length m ≤ 1 → is_of k m t ≡ false
  unfolding is_of
  no_type l = rw (le-ltb 1 (length m) l, off-right (not (reads_as_cut t || disagrees t) && eqb (table_kind t) k))

  pub other_type : table_type t ≢ message_type m → is_of k m t ≡ false
  unfolding is_of message_type
  other_type n = rw (ne_eqb (table_type t) (octet m 1) n) (off-right (not (reads_as_cut t || disagrees t) && eqb (table_kind t) k && ltb 1 (length m)))

  module _ (off : is_of k m t ≡ false) where
    nothing : (r n : ℕ) → row_span k m t r n ≡ nowhere
    unfolding row_span table_rows
    nothing r n = rw (off, le-ltb r 0 (omega arith))

    pub plain-nowhere : (y i : ℕ) → plain_span k y i m t ≡ nowhere
    unfolding plain_span
    plain-nowhere y i = nothing (seek_plain t y i 0 (table_rows k m t)) (length m)

    pub desk-nowhere : (r n : ℕ) → desk_span k r m n t ≡ nowhere
    unfolding desk_span
    desk-nowhere r n = go (eqb (length m) n)
      where
        go : (c : Bool) → cond c (row_span k m t r n) nowhere ≡ nowhere
        go true = nothing r n
        go false = refl

module _ (b : Book) (k : ℕ) (m t : List ℕ) (x : IsTable b k m t) where
  -- it agrees with itself, and is of this kind and of the message's type
  pub is-of : is_of k m t ≡ true
  unfolding is_of message_type
  is-of =
      let kept_is : kept_count t ≡ standing_kept t 0 (rows t) = x.right.kept-rows ∙ sym (kept-all t (rows t)) in
      let h : 8 ≤ length m = omega (arith, header-least m, x.right.has_body) in
      rw (
        le-ltb (length t) header_numbers (omega (arith, x.right.size)),
        le-ltb (length t) (numbers_used t) (omega (arith, x.right.numbers-used, x.right.size)),
        eq-eqb (first_row t) header_numbers x.right.first-row,
        eq-eqb (numbers_used t) (used (rows t)) x.right.numbers-used,
        eq-eqb (kept_count t) (standing_kept t 0 (rows t)) kept_is,
        eq-eqb (table_kind t) k x.right.of.of_kind,
        lt-ltb 1 (length m) (omega arith),
      )
      (eq-eqb (table_type t) (octet m 1) x.right.of.of_type)

  all-rows : table_rows k m t ≡ rows t
  unfolding table_rows
  all-rows = rw is-of

  -- a row below the count is found, and no other
  found-row : (r : ℕ) → r < rows t → row_span k m t r (length m) ≡ value_of t r
  unfolding row_span
  found-row r l = rw (all-rows, lt-ltb r (rows t) l, le-leb (row_end t r) (length m) (in_message b k m t x.right r l))

  no_row : (r : ℕ) → rows t ≤ r → row_span k m t r (length m) ≡ nowhere
  unfolding row_span
  no_row r l = rw (all-rows, le-ltb r (rows t) l)

  there_iff : (r : ℕ) → ((row_span k m t r (length m)).there ≡ true) ↔ (r < rows t)
  there_iff r = (λ e. go e (dec_lt r (rows t)), λ l. ap (λ (s : Span). s.there) (found-row r l))
    where
      go : (row_span k m t r (length m)).there ≡ true → Dec (r < rows t) → r < rows t
      go e (yes l) = l
      go e (no l) = absurd (clash (row_span k m t r (length m)).there e (ap (λ (s : Span). s.there) (no_row r (omega arith))))

  -- ---- the desk's lookup, with a copy of the message's length

  module _ (n : ℕ) (same : n ≡ length m) where
    desk-is : (r : ℕ) → desk_span k r m n t ≡ row_span k m t r (length m)
    unfolding desk_span
    desk-is r = rw (same, eq-eqb (length m) (length m) refl)

    pub desk-span : (r : ℕ) → r < rows t → desk_span k r m n t ≡ value_of t r
    desk-span r l = desk-is r ∙ found-row r l

    pub desk-found : (r : ℕ) → ((desk_span k r m n t).there ≡ true) ↔ (r < rows t)
    desk-found r = rw (desk-is r) (there_iff r)

  -- ---- the plain lookup

  module _ (y i : ℕ) where
    pub plain-span : (r : ℕ) → FirstTopRow t y i r → plain_span k y i m t ≡ value_of t r
    unfolding plain_span
    plain-span r f =
        let l : seek_plain t y i 0 (table_rows k m t) ≤ r = seek-least t y i (table_rows k m t) 0 r (omega arith) (omega (arith, all-rows, f.row.there)) (row-passes t y i r f.row) in
        let z : seek_plain t y i 0 (table_rows k m t) ≡ r = go l (dec_lt (seek_plain t y i 0 (table_rows k m t)) r) in
        rw z (found-row r f.row.there)
      where
        go : seek_plain t y i 0 (table_rows k m t) ≤ r → Dec (seek_plain t y i 0 (table_rows k m t) < r) → seek_plain t y i 0 (table_rows k m t) ≡ r
        go l (yes d) =
            let c = seek-passes t y i (table_rows k m t) 0 (omega (arith, d, f.row.there, all-rows)) in
            absurd (f.none_before (seek_plain t y i 0 (table_rows k m t)) d (passes-row t y i (seek_plain t y i 0 (table_rows k m t)) (omega (arith, d, f.row.there)) c))
        go l (no d) = omega arith

    pub plain-found : ((plain_span k y i m t).there ≡ true) ↔ ((r : ℕ) × TopRow t y i r)
    unfolding plain_span
    plain-found = (
      λ e. let l = (there_iff (seek_plain t y i 0 (table_rows k m t))).0 e in
          (seek_plain t y i 0 (table_rows k m t), passes-row t y i (seek_plain t y i 0 (table_rows k m t)) l (seek-passes t y i (table_rows k m t) 0 (omega (arith, l, all-rows)))),
      λ r. (there_iff (seek_plain t y i 0 (table_rows k m t))).1
          (omega (arith, seek-least t y i (table_rows k m t) 0 r.0 (omega arith) (omega (arith, all-rows, r.1.there)) (row-passes t y i r.0 r.1), r.1.there)),
    )
