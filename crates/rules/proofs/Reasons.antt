-- The reasons of 14 together: none holds exactly where the table is right, row by row. Assumes nothing.
--     NoReason    what a table is where none holds          no_reason, none-holds   from the tests to it, and back
--     some_holds  where it is not so, one holds
use mathlib.Core.Path.{◌≡◌, refl, ◌∙◌}
use mathlib.Core.Bool.{Bool, true, false, not, ◌&&◌, ◌||◌}
use mathlib.Core.List.{List, [], ◌∷◌}
use Prim.Native.Nat.{ℕ, zero, suc, ◌+◌, ◌≤◌, ◌<◌}
use native.Mathlib.Omega.{arith}
use native.Mathlib.Decide.{ℕ_discrete}
use borrow.Author.Tests.{eqb-true, eq-eqb, ltb-false, le-ltb, not-false}
use lib.Dec.{eqb, ltb}
use lib.ListN.{length, get_or}
use Rattle.rules.specs.Sizes.{header_numbers, used}
use Rattle.rules.specs.Types.{is_group}
use Rattle.rules.specs.Standing.{kept}
use Rattle.rules.specs.Values.{row_type, row_instance, row_place, row_length, row_standing, row_count, standing_kept, reads_as_cut, disagrees}
use Rattle.rules.specs.Built.{given_rows, depth_first, misplaced, not_kept, big_type, big_instance, outside, some_row, any_row, big_sequence, any_of, reasons}

pub record RowRight (t values : List ℕ) (r : ℕ) : Type 0 where
  pub stand : row_standing t r ≡ kept
  pub typ : row_type t r ≤ 255
  pub inst : row_instance t r ≤ 15
  pub there : is_group (row_type t r) ≡ false → row_place t r + row_length t r ≤ length values

pub record NoReason (sequence : ℕ) (t values : List ℕ) : Type 0 where
  pub long : header_numbers ≤ length t
  pub all_there : used (row_count t) ≤ length t
  pub kept_is : get_or t 1 0 ≡ row_count t
  pub place_is : get_or t 2 0 ≡ header_numbers
  pub used_is : get_or t 3 0 ≡ used (row_count t)
  pub deep : depth_first (0 ∷ []) 0 (given_rows t values) ≡ true
  pub each : (r : ℕ) → r < row_count t → RowRight t values r
  pub low : sequence ≤ 16777215

-- ---- tests

pub neither : (a c : Bool) → a || c ≡ false → (a ≡ false) × (c ≡ false)
neither true c e = let z : ◌≡◌ {A = ℕ} 0 1 = cc in absurd (omega arith)
neither false c e = (refl, e)

pub not-off : (a : Bool) → a ≡ true → not a ≡ false
not-off a e = rw e

-- no row passes the test
pub some-row : (test : ℕ → Bool) (r n : ℕ) → some_row test r n ≡ false → (j : ℕ) → r ≤ j → j < r + n → test j ≡ false
unfolding some_row
some-row test r zero e j l c = absurd (omega arith)
some-row test r (suc n) e j l c =
    let z = neither (test r) (some_row test (suc r) n) e in
    go (ℕ_discrete r j) z.0 (λ h. some-row test (suc r) n z.1 j h (omega arith))
  where
    go : Dec (r ≡ j) → test r ≡ false → (r < j → test j ≡ false) → test j ≡ false
    go (yes p) x y = rw p at x
    go (no p) x y = y (omega arith)

pub none_such : (test : ℕ → Bool) (r n : ℕ) → ((j : ℕ) → r ≤ j → j < r + n → test j ≡ false) → some_row test r n ≡ false
unfolding some_row
none_such test r zero f = refl
none_such test r (suc n) f = rw (f r (omega arith) (omega arith)) (none_such test (suc r) n (λ j l c. f j (omega arith) (omega arith)))

-- where each row is kept, the kept rows are the rows
pub all-standing : (t : List ℕ) (r n : ℕ) → ((j : ℕ) → r ≤ j → j < r + n → row_standing t j ≡ kept) → standing_kept t r n ≡ n
unfolding standing_kept
all-standing t r zero f = refl
all-standing t r (suc n) f = rw (f r (omega arith) (omega arith), all-standing t (suc r) n (λ j l c. f j (omega arith) (omega arith)))

-- ---- of the whole

module _ (sequence : ℕ) (t values : List ℕ) where
  abbrev n : ℕ
  n = row_count t

  in_buffer : (r : ℕ) → outside t values r ≡ false → is_group (row_type t r) ≡ false → row_place t r + row_length t r ≤ length values
  in_buffer r e g = ltb-false (length values) (row_place t r + row_length t r) (rw g at e)

  lies : (r : ℕ) (c : Bool) → is_group (row_type t r) ≡ c → (is_group (row_type t r) ≡ false → row_place t r + row_length t r ≤ length values)
      → not c && ltb (length values) (row_place t r + row_length t r) ≡ false
  lies r true e f = refl
  lies r false e f = le-ltb (length values) (row_place t r + row_length t r) (f e)

  pub no_reason : any_of (reasons sequence t values) ≡ false → NoReason sequence t values
  unfolding any_of reasons
  no_reason e =
      let a = neither (reads_as_cut t) _ e in
      let b = neither (disagrees t) _ a.1 in
      let c = neither (misplaced t values) _ b.1 in
      let d = neither (any_row t (not_kept t)) _ c.1 in
      let f = neither (any_row t (big_type t)) _ d.1 in
      let g = neither (any_row t (big_instance t)) _ f.1 in
      let h = neither (any_row t (outside t values)) _ g.1 in
      let i = neither (big_sequence sequence) _ h.1 in
      let cut = neither (ltb (length t) header_numbers) _ a.0 in
      let head = neither (not (eqb (get_or t 2 0) header_numbers) || not (eqb (get_or t 3 0) (used n))) _ b.0 in
      let two = neither (not (eqb (get_or t 2 0) header_numbers)) _ head.0 in
      let used_is : get_or t 3 0 ≡ used n = eqb-true _ _ (not-false _ two.1) in
      let stand : (r : ℕ) → r < row_count t → row_standing t r ≡ kept = λ r l. eqb-true _ _ (not-false _ (some-row (not_kept t) 0 n d.0 r (omega arith) (omega arith))) in
      let kept_is : get_or t 1 0 ≡ standing_kept t 0 n = eqb-true _ _ (not-false _ head.1) in
      record {
        long = ltb-false (length t) header_numbers cut.0;
        all_there = omega (arith, used_is, ltb-false (length t) (get_or t 3 0) cut.1);
        kept_is = kept_is ∙ all-standing t 0 n (λ j l q. stand j (omega arith));
        place_is = eqb-true _ _ (not-false _ two.0);
        used_is = used_is;
        deep = not-false _ c.0;
        each = λ r l. record {
          stand = stand r l;
          typ = ltb-false 255 (row_type t r) (some-row (big_type t) 0 n f.0 r (omega arith) (omega arith));
          inst = ltb-false 15 (row_instance t r) (some-row (big_instance t) 0 n g.0 r (omega arith) (omega arith));
          there = in_buffer r (some-row (outside t values) 0 n h.0 r (omega arith) (omega arith));
        };
        low = ltb-false 16777215 sequence i.0;
      }

  pub none-holds : NoReason sequence t values → any_of (reasons sequence t values) ≡ false
  unfolding any_of reasons
  none-holds a =
      rw (
        le-ltb (length t) header_numbers a.long,
        a.used_is,
        le-ltb (length t) (used n) a.all_there,
        a.place_is,
        eq-eqb (used n) (used n) refl,
        all-standing t 0 n (λ j l q. (a.each j (omega arith)).stand),
        a.kept_is,
        eq-eqb n n refl,
        a.deep,
        none_such (not_kept t) 0 n (λ j l q. not-off _ (eq-eqb _ _ (a.each j (omega arith)).stand)),
        none_such (big_type t) 0 n (λ j l q. le-ltb 255 (row_type t j) (a.each j (omega arith)).typ),
        none_such (big_instance t) 0 n (λ j l q. le-ltb 15 (row_instance t j) (a.each j (omega arith)).inst),
        none_such (outside t values) 0 n (λ j l q. lies j (is_group (row_type t j)) refl (a.each j (omega arith)).there),
        le-ltb 16777215 sequence a.low,
      )

  pub some_holds : (NoReason sequence t values → ⊥) → any_of (reasons sequence t values) ≡ true
  some_holds f = go (any_of (reasons sequence t values)) refl
    where
      go : (c : Bool) → any_of (reasons sequence t values) ≡ c → any_of (reasons sequence t values) ≡ true
      go true e = e
      go false e = absurd (f (no_reason e))
