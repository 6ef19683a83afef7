-- Laws of any listings as one table of numbers: where a level's numbers stand in it, and which number a line has. Assumes nothing.
--     level-part   the numbers of a level          entry_at   the number of a line          skip-on   what a search may pass over
use mathlib.Core.Path.{◌≡◌, refl, sym, ap, ◌∙◌}
use mathlib.Core.Bool.{Bool, true, false, cond}
use mathlib.Core.List.{List, [], ◌∷◌, ◌++◌}
use Prim.Native.Nat.{ℕ, zero, suc, ◌+◌, ◌-◌, ◌≤◌, ◌<◌}
use native.Mathlib.Nat.{add-zero, add_assoc}
use native.Mathlib.Numerals.{add-one}
use native.Mathlib.Omega.{arith}
use lib.ListN.{length, get_or, take, drop, length-append, length-drop, get_or-append}
use lib.Seq.{take_at, drop-append-add}
use Rattle.rules.specs.Listings.{Line, Book, empty_line, levels, book, listing}
use Rattle.rules.specs.Standing.{most_lines}
use Rattle.rules.proofs.Lines.{SoundLine, level-size, line-sound, sound-line}
use Rattle.rules.proofs.Book.{book-sound}
use Rattle.listings.specs.Data.{skipped, entry_of, entries_of, joined, begins, numbers_of}

-- ---- the numbers of a level

pub entries-length : (ls : List Line) → length (entries_of ls) ≡ length ls
unfolding entries_of
entries-length [] = refl
entries-length (l ∷ ls) = ap suc (entries-length ls)

pub entry_at : (ls : List Line) (n : ℕ) → n < length ls → get_or (entries_of ls) n 0 ≡ entry_of (get_or ls n empty_line) (skipped (drop (suc n) ls))
unfolding entries_of
entry_at [] n h = absurd (omega arith)
entry_at (l ∷ ls) zero h = refl
entry_at (l ∷ ls) (suc n) h = entry_at ls n (omega arith)

pub skipped-most : (ls : List Line) → skipped ls ≤ length ls
unfolding skipped
skipped-most [] = (omega arith)
skipped-most (l ∷ ls) = go l.must (skipped-most ls)
  where
    go : (c : Bool) → skipped ls ≤ length ls → cond c 0 (suc (skipped ls)) ≤ suc (length ls)
    go true h = (omega arith)
    go false h = omega arith

-- ---- where they stand

-- where level v begins among the numbers of all lines
begin : List (List Line) → ℕ → ℕ
begin more zero = 0
begin [] (suc v) = 0
begin (ls ∷ more) (suc v) = length ls + begin more v

begins-length : (n : ℕ) (more : List (List Line)) → length (begins n more) ≡ suc (length more)
unfolding begins
begins-length n [] = refl
begins-length n (ls ∷ more) = ap suc (begins-length (n + length ls) more)

begins-at : (n : ℕ) (more : List (List Line)) (v : ℕ) → v ≤ length more → get_or (begins n more) v 0 ≡ n + begin more v
unfolding begin begins
begins-at n [] zero h = rw add-zero
begins-at n [] (suc v) h = absurd (omega arith)
begins-at n (ls ∷ more) zero h = rw add-zero
begins-at n (ls ∷ more) (suc v) h = rw (begins-at (n + length ls) more v (omega arith), add_assoc)

begin-next : (more : List (List Line)) (v : ℕ) → begin more (suc v) ≡ begin more v + length (get_or more v [])
unfolding begin
begin-next [] zero = refl
begin-next [] (suc v) = refl
begin-next (ls ∷ more) zero = omega arith
begin-next (ls ∷ more) (suc v) = rw (begin-next more v, ← add_assoc)

begin-within : (more : List (List Line)) (v : ℕ) → begin more v + length (get_or more v []) ≤ length (joined more)
unfolding joined begin
begin-within [] zero = omega arith
begin-within [] (suc v) = omega arith
begin-within (ls ∷ more) zero = simp (length-append, entries-length) (omega arith)
begin-within (ls ∷ more) (suc v) = simp (length-append, entries-length) (omega (arith, begin-within more v))

joined-part : (more : List (List Line)) (v : ℕ) → take (length (get_or more v [])) (drop (begin more v) (joined more)) ≡ entries_of (get_or more v [])
unfolding joined begin entries_of
joined-part [] zero = refl
joined-part [] (suc v) = refl
joined-part (ls ∷ more) zero = take_at (entries_of ls) (joined more) (length ls) (entries-length ls)
joined-part (ls ∷ more) (suc v) = rw (← entries-length ls, drop-append-add (entries_of ls) (joined more) (begin more v)) (joined-part more v)

module _ (b : Book) (v : ℕ) (h : v < length b.levels) where
  from_is : get_or (numbers_of b) v 0 ≡ suc (length b.levels) + begin b.levels v
  unfolding numbers_of
  from_is = get_or-append (begins (suc (length b.levels)) b.levels) (joined b.levels) 0 v (omega (arith, begins-length (suc (length b.levels)) b.levels)) ∙ begins-at (suc (length b.levels)) b.levels v (omega arith)

  to_is : get_or (numbers_of b) (v + 1) 0 ≡ suc (length b.levels) + begin b.levels v + length (listing b v)
  unfolding numbers_of listing
  to_is =
      rw (add-one v)
      (get_or-append (begins (suc (length b.levels)) b.levels) (joined b.levels) 0 (suc v) (omega (arith, begins-length (suc (length b.levels)) b.levels))
      ∙ begins-at (suc (length b.levels)) b.levels (suc v) (omega arith) ∙ rw (begin-next b.levels v, ← add_assoc))

  -- the numbers from where a level begins to where the next does
  part-from : take (length (listing b v)) (drop (suc (length b.levels) + begin b.levels v) (numbers_of b)) ≡ entries_of (listing b v)
  unfolding numbers_of listing
  part-from =
      let front = begins (suc (length b.levels)) b.levels in
      ap (λ (j : ℕ). take (length (get_or b.levels v [])) (drop (j + begin b.levels v) (front ++ joined b.levels))) (sym (begins-length (suc (length b.levels)) b.levels))
      ∙ rw (drop-append-add front (joined b.levels) (begin b.levels v)) (joined-part b.levels v)

  count_is : get_or (numbers_of b) (v + 1) 0 - get_or (numbers_of b) v 0 ≡ length (listing b v)
  count_is = omega (arith, from_is, to_is)

  pub level-part : take (get_or (numbers_of b) (v + 1) 0 - get_or (numbers_of b) v 0) (drop (get_or (numbers_of b) v 0) (numbers_of b)) ≡ entries_of (listing b v)
  level-part = rw (count_is, from_is) part-from

  pub bounds : (get_or (numbers_of b) v 0 ≤ get_or (numbers_of b) (v + 1) 0) × (get_or (numbers_of b) (v + 1) 0 ≤ length (numbers_of b))
  unfolding numbers_of listing
  bounds = (omega (arith, from_is, to_is), simp length-append (omega (arith, to_is, begins-length (suc (length b.levels)) b.levels, begin-within b.levels v)))

-- ---- these listings

pub depth : length book.levels ≡ 19
unfolding book levels
depth = refl

pub size : length (numbers_of book) ≡ 145
unfolding book levels skipped entry_of entries_of joined begins numbers_of
size = refl

module _ (v : ℕ) where
  pub few : length (listing book v) ≤ most_lines
  few = level-size book book-sound v

  pub fine : (n : ℕ) → n < length (listing book v) → SoundLine (length book.levels) (get_or (listing book v) n empty_line)
  fine n h = sound-line (length book.levels) (get_or (listing book v) n empty_line) (line-sound book book-sound v n h)

  -- a line has fewer than most_lines after it
  pub skip-low : (n : ℕ) → n < length (listing book v) → skipped (drop (suc n) (listing book v)) < most_lines
  skip-low n h = omega (arith, few, skipped-most (drop (suc n) (listing book v)), length-drop (suc n) (listing book v))
