-- Listings without limits say of an element what the listings say of it before its inside is there: limits are all that an inside bears on. Assumes nothing.
--     loose-standing, loose-entered, loose-marked, loose-item
use mathlib.Core.Path.{◌≡◌, refl, ap, ◌∙◌}
use mathlib.Core.Bool.{Bool, true, false, cond, not, ◌&&◌}
use mathlib.Core.List.{List, [], ◌∷◌}
use Prim.Native.Nat.{ℕ, zero, suc}
use lib.Dec.{eqb}
use lib.ListN.{length, get_or}
use Rattle.rules.specs.Listings.{Line, Book, empty_line, lists, seek, listing}
use Rattle.rules.specs.Frames.{Element, exceeds}
use Rattle.rules.specs.Standing.{void, line_number, line_in, is_listed, is_short, is_over, standing, marked, entered, item_of}
use Rattle.rules.specs.Late.{blind}
use Rattle.rules.proofs.Frames.{none_exceed}
use Rattle.pieces.specs.Loose.{loose_line, loose_lines, loose_levels, loose}

loose-level : (lss : List (List Line)) (v : ℕ) → get_or (loose_levels lss) v [] ≡ loose_lines (get_or lss v [])
unfolding loose_levels loose_lines
loose-level [] v = refl
loose-level (ls ∷ lss) zero = refl
loose-level (ls ∷ lss) (suc v) = loose-level lss v

pub loose-listing : (b : Book) (v : ℕ) → listing (loose b) v ≡ loose_lines (listing b v)
unfolding listing loose
loose-listing b v = loose-level b.levels v

loose-length : (ls : List Line) → length (loose_lines ls) ≡ length ls
unfolding loose_lines
loose-length [] = refl
loose-length (l ∷ ls) = ap suc (loose-length ls)

loose-seek : (ls : List Line) (k t i : ℕ) → seek (loose_lines ls) k t i ≡ seek ls k t i
unfolding loose_lines seek
loose-seek [] k t i = refl
loose-seek (l ∷ ls) k t i = ap (λ (n : ℕ). cond (lists k t i l) 0 (suc n)) (loose-seek ls k t i)

loose_at : (ls : List Line) (n : ℕ) → get_or (loose_lines ls) n empty_line ≡ loose_line (get_or ls n empty_line)
unfolding loose_lines
loose_at [] n = refl
loose_at (l ∷ ls) zero = refl
loose_at (l ∷ ls) (suc n) = loose_at ls n

module _ (b : Book) (k v : ℕ) (h : Element) where
  loose-number : line_number (loose b) k v h ≡ line_number b k v h
  loose-number = ap (λ (ls : List Line). seek ls k h.typ h.inst) (loose-listing b v) ∙ loose-seek (listing b v) k h.typ h.inst

  loose-line : line_in (loose b) k v h ≡ loose_line (line_in b k v h)
  loose-line = rw (loose-number, loose-listing b v) (loose_at (listing b v) (line_number b k v h))

  loose-listed : is_listed (loose b) k v h ≡ is_listed b k v h
  loose-listed = rw (loose-number, loose-listing b v, loose-length (listing b v))

  never-over : is_over (loose b) k v h ≡ false
  unfolding exceeds
  never-over = rw loose-line

  module _ (m : List ℕ) where
    pub loose-standing : standing (loose b) k v m h ≡ standing b k v m (blind h)
    unfolding standing is_short
    loose-standing = rw (never-over, loose-listed, loose-line, loose-number, none_exceed (line_in b k v h).limits)

    pub loose-entered : entered (loose b) k v m h ≡ entered b k v m (blind h)
    unfolding entered
    loose-entered = rw (loose-line, loose-standing)

    pub loose-marked : marked (loose b) k v m h ≡ marked b k v m (blind h)
    unfolding marked
    loose-marked = rw (loose-standing, loose-listed, loose-number)

    never-void : eqb (standing b k v m (blind h)) void ≡ false
    unfolding standing is_short
    never-void = rw (none_exceed (line_in b k v h).limits) (go (is_listed b k v h) (not (line_in b k v h).many && not (eqb (get_or m (line_number b k v h) 0) 0)) (is_short h))
      where
        go : (c d e : Bool) → eqb (cond (not c) 1 (cond d 2 (cond e 3 0))) 4 ≡ false
        go false d e = refl
        go true true e = refl
        go true false true = refl
        go true false false = refl

    pub loose-item : (p at : ℕ) → item_of (loose b) k v m p at h ≡ item_of b k v m p at (blind h)
    unfolding item_of
    loose-item p at = rw (loose-standing, loose-entered, loose-line, never-void)
