-- A level that is watched is one whose group has limits: all lines with one inside have limits, or none has. Assumes nothing.
--     book-even   the listings of document 01 are so, by computation          limits-watched   an element that is entered has limits where its level is watched
use mathlib.Core.Path.{◌≡◌, refl, ◌∙◌}
use mathlib.Core.Bool.{Bool, true, false, not, ◌||◌, beq}
use mathlib.Core.List.{List, [], ◌∷◌}
use Prim.Native.Nat.{ℕ, zero, suc}
use native.Mathlib.Nat.{pos_of_ne-zero}
use borrow.Author.Tests.{eq-eqb, ne_eqb}
use lib.Dec.{eqb}
use lib.ListN.{get_or}
use Rattle.rules.specs.Listings.{Line, Book, empty_line, levels, book, listing}
use Rattle.rules.specs.Sound.{every_line, is_free}
use Rattle.rules.specs.Standing.{kept, standing, line_in, line_number, entered}
use Rattle.rules.specs.Frames.{Element}
use Rattle.rules.proofs.Lines.{and_left, and_right, beq_same}
use Rattle.rules.proofs.Standings.{entered-kept, entered-inside}
use Rattle.taking.specs.Held.{has_limits}
use Rattle.pieces.specs.Drafts.{limited_line, limited_by, limited_level, even_lines}
use Rattle.pieces.proofs.Depth.{every-at}

pub book-even : even_lines book book.levels ≡ true
unfolding book levels even_lines limited_by limited_line every_line
book-even = refl

-- a line with an inside has limits where its level is watched
abbrev even : Book → Line → Bool
even b l = eqb l.inside 0 || beq (not (is_free l)) (limited_by b.levels l.inside)

levels-even : (b : Book) (lss : List (List Line)) → even_lines b lss ≡ true → (v j : ℕ) → even b (get_or (get_or lss v []) j empty_line) ≡ true
unfolding even_lines
levels-even b [] e v j = refl
levels-even b (ls ∷ lss) e zero j = every-at (even b) ls (and_left (every_line (even b) ls) (even_lines b lss) e) refl j
levels-even b (ls ∷ lss) e (suc v) j = levels-even b lss (and_right (every_line (even b) ls) (even_lines b lss) e) v j

pub limits-watched : (k v : ℕ) (m : List ℕ) (h : Element) → (entered book k v m h ≡ 0 → ⊥) → has_limits k v m h ≡ limited_level (entered book k v m h)
unfolding limited_level listing
limits-watched k v m h n =
    let s : standing book k v m h ≡ kept = entered-kept book k v m h (pos_of_ne-zero n) in
    let i : entered book k v m h ≡ (line_in book k v h).inside = entered-inside book k v m h s in
    let t : even book (line_in book k v h) ≡ true = levels-even book book.levels book-even v (line_number book k v h) in
    let z : eqb (line_in book k v h).inside 0 ≡ false = ne_eqb (line_in book k v h).inside 0 (λ e. n (i ∙ e)) in
    rw (eq-eqb (standing book k v m h) kept s, i) (beq_same _ _ (rw z at t))
