-- The level of the inside of row r, by its standing and its line: the levels of the insides are found one row after another, and a row's own looks
-- only at rows before it, so the list may be cut off behind it (`insides-early`). Of any numbers whose parents point backwards. Assumes nothing.
--     level-next   the level of the rows with parent r + 1            group-level, level-group   it is there exactly for a kept group
use mathlib.Core.Path.{◌≡◌, refl, sym, ap, ◌∙◌}
use mathlib.Core.Bool.{Bool, true, false, cond, not}
use mathlib.Core.List.{List, [], ◌∷◌}
use Prim.Native.Nat.{ℕ, zero, suc, ◌+◌, ◌-◌, ◌≤◌, ◌<◌}
use native.Mathlib.Omega.{arith}
use native.Mathlib.Decide.{dec_lt}
use borrow.Author.Tests.{eqb-true, eq-eqb, ne_eqb}
use lib.Dec.{eqb}
use lib.ListN.{length, get_or, length-append, get_or-append, get_or-eq_default}
use lib.Seq.{get_or-append_seam}
use Rattle.rules.specs.Types.{is_group}
use Rattle.rules.specs.Listings.{Book, Line, empty_line, seek, listing}
use Rattle.rules.specs.Standing.{kept}
use Rattle.rules.specs.Sound.{sound}
use Rattle.rules.specs.Values.{row_parent, row_type, row_instance, row_standing}
use Rattle.rules.proofs.Lines.{seek-lists, lists-is, sound-line, line-sound}
use Rattle.tables.specs.Levels.{line_at, level_number, inside_by, insides, level_of}
use Rattle.tables.specs.Words.{rows, KeptGroup}

module _ (b : Book) (k v : ℕ) (t : List ℕ) where
  insides-length : (n : ℕ) → length (insides b k v t n) ≡ n
  unfolding insides
  insides-length zero = refl
  insides-length (suc n) = omega (arith, insides-length n, length-append (insides b k v t n) (inside_by b k v t (insides b k v t n) n ∷ []))

  -- more rows do not change the earlier ones
  insides-more : (n d q : ℕ) → q < n → get_or (insides b k v t (n + d)) q 0 ≡ get_or (insides b k v t n) q 0
  unfolding insides
  insides-more n zero q l = let e : n + 0 ≡ n = omega arith in rw e
  insides-more n (suc d) q l =
      let e : n + suc d ≡ suc (n + d) = omega arith in
      rw e (get_or-append (insides b k v t (n + d)) (inside_by b k v t (insides b k v t (n + d)) (n + d) ∷ []) 0 q (omega (arith, insides-length (n + d)))
      ∙ insides-more n d q l)

  insides-early : (n c q : ℕ) → q < n → n ≤ c → get_or (insides b k v t c) q 0 ≡ get_or (insides b k v t n) q 0
  insides-early n c q l h = let e : c ≡ n + (c - n) = omega arith in rw e (insides-more n (c - n) q l)

  level-early : (n c p : ℕ) → p ≤ n → n ≤ c → level_number b k v t (insides b k v t c) p ≡ level_number b k v t (insides b k v t n) p
  level-early n c zero l h = refl
  level-early n c (suc q) l h = insides-early n c q l h

  insides-last : (n : ℕ) → get_or (insides b k v t (suc n)) n 0 ≡ inside_by b k v t (insides b k v t n) n
  unfolding insides
  insides-last n =
      let g = get_or-append_seam (insides b k v t n) (inside_by b k v t (insides b k v t n) n) [] 0 in
      rw (insides-length n) at g

  -- the line of row r at its level
  abbrev pub its_line : ℕ → Line
  its_line r = line_at b k (level_of b k v t (row_parent t r)) (row_type t r) (row_instance t r)

  pub level-next : (r : ℕ) → r < rows t → row_parent t r ≤ r → level_of b k v t (suc r) ≡ cond (eqb (row_standing t r) kept) (its_line r).inside 0
  level-next r l back =
      insides-early (suc r) (rows t) r (omega arith) l ∙ insides-last r
      ∙ ap (λ (w : ℕ). cond (eqb (row_standing t r) kept) (line_at b k w (row_type t r) (row_instance t r)).inside 0) (sym (level-early r (rows t) (row_parent t r) back (omega arith)))

-- ---- which rows have an inside that is listed

module _ (b : Book) (fine : sound b ≡ true) (k w y i : ℕ) where
  abbrev its : Line
  its = line_at b k w y i

  listed_of : 0 < its.inside → seek (listing b w) k y i < length (listing b w)
  listed_of l = go (dec_lt (seek (listing b w) k y i) (length (listing b w)))
    where
      go : Dec (seek (listing b w) k y i < length (listing b w)) → seek (listing b w) k y i < length (listing b w)
      go (yes h) = h
      go (no h) = let z : line_at b k w y i ≡ empty_line = get_or-eq_default (listing b w) empty_line (omega arith) in absurd (omega (arith, l, ap (λ (x : Line). x.inside) z))

  -- a listed pair has an inside exactly where its type is a group
  type_group : seek (listing b w) k y i < length (listing b w) → is_group y ≡ not (eqb its.inside 0)
  type_group h =
      let s = sound-line (length b.levels) its (line-sound b fine w (seek (listing b w) k y i) h) in
      let e = (lists-is k y i its (seek-lists (listing b w) k y i h)).typ in
      ap is_group (sym e) ∙ s.group

  pub group-some : seek (listing b w) k y i < length (listing b w) → is_group y ≡ true → 0 < its.inside
  group-some h g = go its.inside (sym (type_group h) ∙ g)
    where
      go : (n : ℕ) → not (eqb n 0) ≡ true → 0 < n
      go zero e = let z : ◌≡◌ {A = ℕ} 0 1 = cc in absurd (omega arith)
      go (suc n) e = omega arith

  pub some-group : 0 < its.inside → is_group y ≡ true
  some-group l = type_group (listed_of l) ∙ rw (ne_eqb its.inside 0 (λ z. omega (arith, l, z)))

pub kept-inside : (s n : ℕ) (c : Bool) → eqb s kept ≡ c → 0 < cond c n 0 → (s ≡ kept) × (0 < n)
kept-inside s n true e l = (eqb-true s kept e, l)
kept-inside s n false e l = absurd (omega arith)

module _ (b : Book) (fine : sound b ≡ true) (k v : ℕ) (t : List ℕ) (r : ℕ) (l : r < rows t) (back : row_parent t r ≤ r) where
  -- each kept group is entered
  pub group-level : seek (listing b (level_of b k v t (row_parent t r))) k (row_type t r) (row_instance t r) < length (listing b (level_of b k v t (row_parent t r)))
      → KeptGroup t r → 0 < level_of b k v t (suc r)
  group-level h g =
      rw (level-next b k v t r l back, eq-eqb (row_standing t r) kept g.stand) (group-some b fine k (level_of b k v t (row_parent t r)) (row_type t r) (row_instance t r) h g.group)

  -- and nothing else is
  pub level-group : 0 < level_of b k v t (suc r) → KeptGroup t r
  level-group h =
      let w = level_of b k v t (row_parent t r) in
      let c = kept-inside (row_standing t r) (its_line b k v t r).inside (eqb (row_standing t r) kept) refl (rw (level-next b k v t r l back) at h) in
      record { there = l; stand = c.0; group = some-group b fine k w (row_type t r) (row_instance t r) c.1 }
