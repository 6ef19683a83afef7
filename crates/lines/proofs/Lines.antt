-- The lines put row by row are the lines of the items. Assumes nothing.
--     blanked-is, line-is   numbers put one after another are a line
--     lines_are             the rows' numbers give the items' lines
use mathlib.Core.Path.{◌≡◌, refl, sym, ap, ◌∙◌}
use mathlib.Core.List.{List, [], ◌∷◌, ◌++◌, append_assoc}
use Prim.Native.Nat.{ℕ, suc, ◌+◌, ◌-◌, ◌*◌, ◌<◌}
use native.Mathlib.Omega.{arith}
use lib.ListN.{length, take, drop, get_or, length-append}
use lib.Seq.{take-length, take-append_seam, drop_at}
use Rattle.rules.specs.Standing.{Item}
use Rattle.rules.specs.Table.{row, rows_of}
use Rattle.rules.specs.Program.{decimal, blanked, line, row_lines}
use Rattle.wording.specs.Pieces.{for_each}
use Rattle.wording.proofs.Turns.{each_none, each_more}
use Rattle.lines.specs.Lines.{six_of, lines_from}

abbrev next : ℕ → List ℕ
next n = 32 ∷ decimal n

pub blanked-is : (ns : List ℕ) → for_each (λ i. 32 ∷ decimal (get_or ns i 0)) 0 (length ns) ++ (10 ∷ []) ≡ blanked ns
unfolding blanked
blanked-is [] = ap (◌++ (10 ∷ [])) (each_none next)
blanked-is (n ∷ ns) =
    ap (◌++ (10 ∷ [])) (each_more next n ns)
    ∙ append_assoc (next n) (for_each (λ i. next (get_or ns i 0)) 0 (length ns)) (10 ∷ [])
    ∙ ap (next n ++◌) (blanked-is ns)

pub line-is : (ns : List ℕ) → 0 < length ns → decimal (get_or ns 0 0) ++ blanked (take (length ns - 1) (drop 1 ns)) ≡ line ns
unfolding line
line-is [] l = absurd (omega arith)
line-is (n ∷ ns) l = let z : suc (length ns) - 1 ≡ length ns = omega arith in rw (z, take-length)

-- ---- the lines of the items

pub six-from : (rows : List ℕ) (i : ℕ) → take ((6 * i + 6) - 6 * i) (drop (6 * i) rows) ≡ six_of rows i
six-from rows i = let z : (6 * i + 6) - 6 * i ≡ 6 = omega arith in rw z

six : (x : Item) (pre post : List ℕ) (i : ℕ) → length pre ≡ 6 * i → six_of (pre ++ (row x ++ post)) i ≡ row x
six x pre post i e = ap (take 6) (drop_at pre (row x ++ post) (6 * i) e) ∙ take-append_seam (row x) post

lines_of : (is : List Item) (pre post : List ℕ) (i : ℕ) → length pre ≡ 6 * i → lines_from (pre ++ (rows_of is ++ post)) i (length is) ≡ row_lines is
unfolding for_each rows_of row_lines
lines_of [] pre post i e = refl
lines_of (x ∷ is) pre post i e =
    ap (λ t. lines_from t i (suc (length is))) (ap (pre ++◌) (append_assoc (row x) (rows_of is) post))
    ∙ ap (λ s. line s ++ lines_from (pre ++ (row x ++ (rows_of is ++ post))) (suc i) (length is)) (six x pre (rows_of is ++ post) i e)
    ∙ ap (λ t. line (row x) ++ lines_from t (suc i) (length is)) (sym (append_assoc pre (row x) (rows_of is ++ post)))
    ∙ ap (line (row x) ++◌) (lines_of is (pre ++ row x) post (suc i) (omega (arith, e, length-append pre (row x))))

pub lines_are : (is : List Item) (rows post : List ℕ) → rows ≡ rows_of is ++ post → lines_from rows 0 (length is) ≡ row_lines is
lines_are is rows post e = ap (λ t. lines_from t 0 (length is)) e ∙ lines_of is [] post 0 refl
