-- Rows that are lent as octets hold the numbers that the same would leave in a table of numbers. Assumes nothing.
--     row_there, row_out   a row          void_there, void_out   the standing of a void group's row
use mathlib.Core.Path.{◌≡◌, sym, ap, ◌∙◌}
use mathlib.Core.List.{List}
use Prim.Native.Nat.{ℕ, ◌+◌, ◌-◌, ◌*◌, ◌≤◌, ◌<◌}
use native.Mathlib.Omega.{arith}
use borrow.Author.Tests.{le-leb, lt-leb, eq-eqb, ne_eqb}
use lib.ListN.{length, get_or, set, length-set}
use lib.Seq.{set_out}
use Rattle.rules.specs.Octets.{numbers_in}
use Rattle.rules.proofs.Numbers.{numbers-length}
use Rattle.taking.specs.Held.{put_numbers}
use Rattle.octets.specs.Stored.{put2}
use Rattle.pieces.specs.Drafts.{stand_void}
use Rattle.pieces.specs.Coded.{row_laid}
use Rattle.pieces.proofs.Twos.{numbers-put}

put-at : (xs : List ℕ) (at i v : ℕ) → at ≡ 2 * i → at + 1 < length xs → numbers_in (put2 xs at v) ≡ set (numbers_in xs) i v
put-at xs at i v e l = rw e (numbers-put xs i v (rw e at l))

module _ (rows : List ℕ) (n : ℕ) (row : List ℕ) where
  abbrev a : ℕ → ℕ
  a i = get_or row i 0

  abbrev x1 : List ℕ
  x1 = put2 rows (12 * n) (a 0)

  abbrev x2 : List ℕ
  x2 = put2 x1 (12 * n + 2) (a 1)

  abbrev x3 : List ℕ
  x3 = put2 x2 (12 * n + 4) (a 2)

  abbrev x4 : List ℕ
  x4 = put2 x3 (12 * n + 6) (a 3)

  abbrev x5 : List ℕ
  x5 = put2 x4 (12 * n + 8) (a 4)

  abbrev x6 : List ℕ
  x6 = put2 x5 (12 * n + 10) (a 5)

  pub row_there : 12 * n + 12 ≤ length rows → numbers_in x6 ≡ row_laid (numbers_in rows) n row
  unfolding put_numbers
  row_there l =
      rw (le-leb (6 * n + 6) (length (numbers_in rows)) (omega (arith, numbers-length rows)))
      (put-at x5 (12 * n + 10) (6 * n + 5) (a 5) (omega arith) (simp length-set (omega arith))
      ∙ ap (λ (t : List ℕ). set t (6 * n + 5) (a 5)) (put-at x4 (12 * n + 8) (6 * n + 4) (a 4) (omega arith) (simp length-set (omega arith))
      ∙ ap (λ (t : List ℕ). set t (6 * n + 4) (a 4)) (put-at x3 (12 * n + 6) (6 * n + 3) (a 3) (omega arith) (simp length-set (omega arith))
      ∙ ap (λ (t : List ℕ). set t (6 * n + 3) (a 3)) (put-at x2 (12 * n + 4) (6 * n + 2) (a 2) (omega arith) (simp length-set (omega arith))
      ∙ ap (λ (t : List ℕ). set t (6 * n + 2) (a 2)) (put-at x1 (12 * n + 2) (6 * n + 1) (a 1) (omega arith) (simp length-set (omega arith))
      ∙ ap (λ (t : List ℕ). set t (6 * n + 1) (a 1)) (put-at rows (12 * n) (6 * n) (a 0) (omega arith) (omega arith)))))))

  pub row_out : length rows < 12 * n + 12 → numbers_in rows ≡ row_laid (numbers_in rows) n row
  unfolding put_numbers
  row_out l = rw (lt-leb (6 * n + 6) (length (numbers_in rows)) (omega (arith, numbers-length rows)))

module _ (rows : List ℕ) (m : ℕ) where
  pub void_none : m ≡ 0 → numbers_in rows ≡ stand_void (numbers_in rows) m
  unfolding stand_void
  void_none e = rw (eq-eqb m 0 e)

  module _ (some : m ≡ 0 → ⊥) where
    pub void_out : length rows < 12 * m → numbers_in rows ≡ stand_void (numbers_in rows) m
    unfolding stand_void
    void_out l = rw (ne_eqb m 0 some) (sym (set_out (numbers_in rows) (6 * m - 1) 4 (omega (arith, some, numbers-length rows))))

    pub void_there : 12 * m ≤ length rows → numbers_in (put2 rows (12 * m - 2) 4) ≡ stand_void (numbers_in rows) m
    unfolding stand_void
    void_there l = rw (ne_eqb m 0 some) (put-at rows (12 * m - 2) (6 * m - 1) 4 (omega (arith, some)) (omega (arith, some)))
