-- An element that is counted by itself leaves its row as six numbers, and what it counts is added: the same as if it were counted with the others.
-- Assumes nothing.
--     counts-joined   what it counts          row-alone   its row          row_put   the same row, where it belongs
use mathlib.Core.Path.{◌≡◌, refl, sym, ap, ◌∙◌}
use mathlib.Core.Bool.{Bool, true, false, cond}
use Rattle.std.specs.Prelude.{Option, Some, None}
use mathlib.Core.List.{List, [], ◌∷◌}
use Prim.Native.Nat.{ℕ, zero, suc, ◌+◌, ◌-◌, ◌*◌, ◌≤◌, ◌<◌}
use native.Mathlib.Omega.{arith}
use lib.Dec.{eqb, ltb, leb}
use lib.ListN.{length, set, length-set}
use lib.Seq.{set_out}
use Rattle.rules.specs.Sizes.{row_numbers}
use Rattle.rules.specs.Standing.{Item, kept, void}
use Rattle.rules.specs.Table.{row}
use Rattle.taking.specs.Held.{short_of, counted, count, put_numbers, put_row}
use Rattle.taking.specs.declared.Counts.{Counts}
use Rattle.pieces.specs.Drafts.{blanks, stand_void, voided, back_to}
use Rattle.pieces.specs.Coded.{alone_by, joined_by, row_laid, row_if}

pub counts-joined : (c : Counts) (i : Item) → joined_by c (count (alone_by c) i) ≡ count c i
unfolding count counted
counts-joined c i = go (eqb i.stand kept)
  where
    f : ℕ
    f = short_of c.short i.must i.stand i.place i.typ i.inst

    go : (b : Bool) → ◌≡◌ {A = Counts} (record { rows = c.rows + 1; kept = c.kept + cond b 1 0; short = f; gap = c.gap })
        (record { rows = c.rows + 1; kept = cond b (c.kept + 1) c.kept; short = f; gap = c.gap })
    go true = refl
    go false = let e : c.kept + 0 ≡ c.kept = omega arith in rw e

-- one row, of which no more than one is kept
pub alone-few : (c : Counts) (i : Item) → ((count (alone_by c) i).rows ≤ 1) × ((count (alone_by c) i).kept ≤ 1)
unfolding count counted
alone-few c i = (omega arith, go (eqb i.stand kept))
  where
    go : (b : Bool) → cond b 1 0 ≤ 1
    go true = omega arith
    go false = omega arith

pub row-alone : (xs : List ℕ) (i : Item) → length xs ≡ row_numbers → put_row xs 0 i ≡ row i
unfolding put_row put_numbers
row-alone [] i e = absurd (omega arith)
row-alone (a ∷ []) i e = absurd (omega arith)
row-alone (a ∷ b ∷ []) i e = absurd (omega arith)
row-alone (a ∷ b ∷ c ∷ []) i e = absurd (omega arith)
row-alone (a ∷ b ∷ c ∷ d ∷ []) i e = absurd (omega arith)
row-alone (a ∷ b ∷ c ∷ d ∷ f ∷ []) i e = absurd (omega arith)
row-alone (a ∷ b ∷ c ∷ d ∷ f ∷ g ∷ []) i e = refl
row-alone (a ∷ b ∷ c ∷ d ∷ f ∷ g ∷ h ∷ xs) i e = absurd (omega arith)

pub row_put : (rows : List ℕ) (n : ℕ) (i : Item) → row_laid rows n (row i) ≡ put_row rows n i
unfolding put_row
row_put rows n i = refl

-- as many numbers as before
pub put-length : (rows : List ℕ) (n a b c d e f : ℕ) → length (put_numbers rows n a b c d e f) ≡ length rows
unfolding put_numbers
put-length rows n a b c d e f = go (leb (row_numbers * n + row_numbers) (length rows))
  where
    go : (t : Bool) → length (cond t
        (set (set (set (set (set (set rows (row_numbers * n) a) (row_numbers * n + 1) b) (row_numbers * n + 2) c) (row_numbers * n + 3) d) (row_numbers * n + 4) e) (row_numbers * n + 5) f) rows) ≡ length rows
    go true = simp length-set
    go false = refl

-- the last of them first, or none
pub blank_next : (rows : List ℕ) (m j : ℕ) → m < j → blanks (put_numbers rows (j - 1) 0 0 0 0 0 0) m (j - 1 - m) ≡ blanks rows m (j - m)
unfolding blanks
blank_next rows m j l =
    let n : j - m ≡ suc (j - 1 - m) = omega arith in
    let at : j - 1 ≡ m + (j - 1 - m) = omega arith in
    ap (λ (i : ℕ). blanks (put_numbers rows i 0 0 0 0 0 0) m (j - 1 - m)) at ∙ sym (ap (blanks rows m) n)

pub blank_none : (rows : List ℕ) (m j : ℕ) → j ≤ m → blanks rows m (j - m) ≡ rows
unfolding blanks
blank_none rows m j l = let n : j - m ≡ 0 = omega arith in ap (blanks rows m) n

blanks-length : (rows : List ℕ) (m n : ℕ) → length (blanks rows m n) ≡ length rows
unfolding blanks
blanks-length rows m zero = refl
blanks-length rows m (suc n) = blanks-length (put_numbers rows (m + n) 0 0 0 0 0 0) m n ∙ put-length rows (m + n) 0 0 0 0 0 0

-- past the rows there is no standing to write
pub stand_out : (rows : List ℕ) (m : ℕ) → length rows ≤ row_numbers * m - 1 → set rows (row_numbers * m - 1) void ≡ rows
stand_out rows m l = set_out rows (row_numbers * m - 1) void l

stand-length : (rows : List ℕ) (m : ℕ) → length (stand_void rows m) ≡ length rows
unfolding stand_void
stand-length rows m = go (eqb m 0)
  where
    go : (c : Bool) → length (cond c rows (set rows (row_numbers * m - 1) void)) ≡ length rows
    go true = refl
    go false = length-set rows (row_numbers * m - 1) void

pub back-length : (m n : ℕ) (rows : List ℕ) → length (back_to m n rows) ≡ length rows
unfolding back_to voided
back-length m n rows = go (ltb m n)
  where
    go : (c : Bool) → length (cond c (stand_void (blanks rows m (n - m)) m) rows) ≡ length rows
    go true = stand-length (blanks rows m (n - m)) m ∙ blanks-length rows m (n - m)
    go false = refl

pub row-length : (rows : List ℕ) (n : ℕ) (row : Option (List ℕ)) (m : ℕ) → length (row_if rows n row m) ≡ length rows
row-length rows n None m = refl
row-length rows n (Some xs) m = back-length m (n + 1) (row_laid rows n xs) ∙ put-length rows n _ _ _ _ _ _
