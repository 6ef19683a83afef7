-- What the numbers of a level's lines say, at a line that is there. Assumes nothing.
--     count   how many there are          must-at, many-at, on-at, skip_at, inside-at, limited-at, key-at   what each says
--     found   the line that lists a pair
use mathlib.Core.Path.{◌≡◌, refl, sym, ◌∙◌}
use mathlib.Core.Bool.{Bool, true, false, cond, not, ◌||◌}
use mathlib.Core.List.{List, [], ◌∷◌}
use borrow.Author.Tests.{ltb-true, ltb-false}
use lib.Dec.{ltb}
use Rattle.std.specs.Prelude.{⊤, Option, None, Some, MatchOption}
use Rattle.std.specs.List.{position, position_or_len}
use Prim.Native.Nat.{ℕ, suc, ◌+◌, ◌≤◌, ◌<◌}
use native.Mathlib.Omega.{arith}
use lib.ListN.{length, get_or, drop}
use Rattle.rules.specs.Types.{among, is_group}
use Rattle.rules.specs.Listings.{Line, any_instance, book, empty_line, lists, seek, listing}
use Rattle.rules.specs.Standing.{most_lines}
use Rattle.rules.specs.Sound.{is_free}
use Rattle.rules.proofs.Lines.{SoundLine}
use Rattle.listings.specs.Data.{key_of, skipped, entry_of, key_of_entry, must_in, many_in, on_of_entry, skip_in, inside_in, limited_in, lists_in}
use Rattle.listings.proofs.Levels.{depth, few, fine, skip-low, entry_at, entries-length}
use Rattle.listings.proofs.Entries.{key_in, must-in, many-in, on_in, skip-in, inside-in, limited-in, lists-in}
use Rattle.taking.specs.Lent.{Lines, InnerIn, level_of, limited_of}
use Rattle.taking.specs.declared.Inside.{Inside}

module _ {k v : ℕ} {xs : List ℕ} (s : Lines k v xs) where
  pub count : length xs ≡ length (listing book v)
  count = rw s.lines (entries-length (listing book v))

  pub small : length xs ≤ most_lines
  small = omega (arith, count, few v)

  module _ {n : ℕ} (h : n < length xs) where
    pub line : n < length (listing book v)
    line = omega (arith, count)

    abbrev l : Line
    l = get_or (listing book v) n empty_line

    abbrev skip : ℕ
    skip = skipped (drop (suc n) (listing book v))

    number_is : get_or xs n 0 ≡ entry_of l skip
    number_is = rw s.lines (entry_at (listing book v) n line)

    pub line-fine : SoundLine (length book.levels) l
    line-fine = fine v n line

    low : skip < most_lines
    low = skip-low v n line

    deep : length book.levels ≤ 128
    deep = omega (arith, depth)

    pub key-at : key_of_entry (get_or xs n 0) ≡ key_of l.typ l.inst
    key-at = rw number_is (key_in l skip line-fine low deep)

    pub must-at : must_in (get_or xs n 0) ≡ l.must
    must-at = rw number_is (must-in l skip line-fine low deep)

    pub many-at : many_in (get_or xs n 0) ≡ l.many
    many-at = rw number_is (many-in l skip line-fine low deep)

    pub on-at : on_of_entry k (get_or xs n 0) ≡ among k l.kinds
    on-at = rw number_is (on_in l skip line-fine low deep k s.kind)

    pub skip_at : skip_in (get_or xs n 0) ≡ skip
    skip_at = rw number_is (skip-in l skip line-fine low deep)

    pub inside-at : inside_in (get_or xs n 0) ≡ l.inside
    inside-at = rw number_is (inside-in l skip line-fine low deep)

    pub limited-at : limited_in (get_or xs n 0) ≡ not (is_free l)
    limited-at = rw number_is (limited-in l skip line-fine low deep)

    -- only a group has limits
    pub no-limits : inside_in (get_or xs n 0) ≡ 0 → false ≡ not (is_free l)
    no-limits z = go (is_free l) (is_group l.typ) line-fine.limits (line-fine.group ∙ rw (sym inside-at ∙ z))
      where
        go : (a b : Bool) → a || b ≡ true → b ≡ false → false ≡ not a
        go true b e f = refl
        go false b e f = sym f ∙ e

    -- the inside that the line says
    pub inner_level : (r : Option Inside) → InnerIn (get_or xs n 0) r → level_of r ≡ l.inside
    inner_level None z = sym z ∙ inside-at
    inner_level (Some i) x = x.level ∙ inside-at

    pub inner-limited : (r : Option Inside) → InnerIn (get_or xs n 0) r → limited_of r ≡ not (is_free l)
    inner-limited None z = no-limits z
    inner-limited (Some i) x = x.limited ∙ limited-at

    pub lists_at : (t i : ℕ) → i < any_instance → lists_in k (key_of t i) (key_of t any_instance) (get_or xs n 0) ≡ lists k t i l
    lists_at t i b = rw number_is (lists-in l skip line-fine low deep k t i s.kind b)

pub inner_some : (x : ℕ) (r : Option Inside) → InnerIn x r → MatchOption r ⊤ (λ i. 0 < i.level)
inner_some x None z = tt
inner_some x (Some i) w = w.some

-- ---- a search of them

searched : (p : ℕ → Bool) (k t i : ℕ) (xs : List ℕ) (ls : List Line) → length xs ≡ length ls
    → ((n : ℕ) → n < length xs → p (get_or xs n 0) ≡ lists k t i (get_or ls n empty_line)) → position_or_len p xs ≡ seek ls k t i
unfolding seek
searched p k t i [] [] e f = refl
searched p k t i [] (y ∷ ls) e f = absurd (omega arith)
searched p k t i (x ∷ xs) [] e f = absurd (omega arith)
searched p k t i (x ∷ xs) (y ∷ ls) e f = rw (f 0 (omega arith)) (go (lists k t i y) _ _ (searched p k t i xs ls (omega arith) (λ n h. f (suc n) (omega arith))))
  where
    go : (c : Bool) (a b : ℕ) → a ≡ b → cond (not c) (1 + a) 0 ≡ cond c 0 (suc b)
    go true a b e = refl
    go false a b e = omega arith

placed : (a n : ℕ) (r : Option ℕ) → r ≡ cond (ltb a n) (Some a) None → MatchOption r (n ≤ a) (λ j. (j ≡ a) × (a < n))
placed a n r e = go (ltb a n) refl e
  where
    go : (c : Bool) → ltb a n ≡ c → r ≡ cond c (Some a) None → MatchOption r (n ≤ a) (λ j. (j ≡ a) × (a < n))
    go true w f = rw f (refl, ltb-true a n w)
    go false w f = rw f (ltb-false a n w)

carried : (r : Option ℕ) {a a' n n' : ℕ} → n ≡ n' → a ≡ a' → MatchOption r (n ≤ a) (λ j. (j ≡ a) × (a < n)) → MatchOption r (n' ≤ a') (λ j. (j ≡ a') × (j < n))
carried None e f m = omega arith
carried (Some j) e f m = (m.0 ∙ f, omega (arith, m.0, m.1))

module _ {k v : ℕ} {xs : List ℕ} (s : Lines k v xs) (t i : ℕ) (b : i < any_instance) {r : Option ℕ} (e : r ≡ position (λ x. lists_in k (key_of t i) (key_of t any_instance) x) xs) where
  found : MatchOption r (length (listing book v) ≤ seek (listing book v) k t i) (λ n. (n ≡ seek (listing book v) k t i) × (n < length xs))
  found =
      let test : ℕ → Bool = λ x. lists_in k (key_of t i) (key_of t any_instance) x in
      carried r (count s) (searched test k t i xs (listing book v) (count s) (λ n h. lists_at s h t i b)) (placed (position_or_len test xs) (length xs) r e)

  pub not-found : r ≡ None → length (listing book v) ≤ seek (listing book v) k t i
  not-found z = rw z at found

  pub found_at : {n : ℕ} → r ≡ Some n → (n ≡ seek (listing book v) k t i) × (n < length xs)
  found_at {n} z = rw z at found

  -- a level has as many marks as it may have lines
  pub has_mark : {n : ℕ} → r ≡ Some n → n < 32
  has_mark z = omega (arith, small s, (found_at z).1)
