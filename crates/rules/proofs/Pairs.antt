-- A mark that is not 0 was made by an element of its own line, and a line that may not repeat has one pair; so it was made by an element of that
-- pair. Assumes nothing.
use mathlib.Core.Path.{◌≡◌, refl, sym, ◌∙◌}
use mathlib.Core.Logic.{◌⊎◌, inl, inr, ◌≢◌}
use mathlib.Core.Bool.{Bool, true, false, or-false}
use mathlib.Core.List.{List}
use Prim.Native.Nat.{ℕ, ◌<◌}
use native.Mathlib.Omega.{arith}
use native.Mathlib.Decide.{ℕ_discrete}
use borrow.Author.Tests.{ltb-true, eqb-true, ne_eqb}
use lib.Dec.{eqb, ltb}
use lib.ListN.{length, get_or}
use lib.Seq.{get_or-set_other}
use Rattle.rules.specs.Listings.{Book, Line, any_instance, empty_line, seek, listing}
use Rattle.rules.specs.Standing.{line_number, is_listed, marked}
use Rattle.rules.specs.Sound.{sound}
use Rattle.rules.specs.Frames.{Element}
use Rattle.rules.proofs.Lines.{seek-lists, Lists, lists-is, line-sound, sound-line}
use Rattle.rules.proofs.Standings.{marked-listed, marked_unlisted}

-- a pair that is listed at a level, and may stand there once
pub record Once (b : Book) (k v t j : ℕ) : Type 0 where
  pub listed : seek (listing b v) k t j < length (listing b v)
  pub once : (get_or (listing b v) (seek (listing b v) k t j) empty_line).many ≡ false

module _ (b : Book) (fine : sound b ≡ true) (k v : ℕ) where
  -- two pairs of one line that may not repeat are one pair
  module _ {t j : ℕ} (w : Once b k v t j) where
    abbrev line : Line
    line = get_or (listing b v) (seek (listing b v) k t j) empty_line

    one_instance : line.inst ≢ any_instance
    one_instance z =
        let s = (sound-line (length b.levels) line (line-sound b fine v (seek (listing b v) k t j) w.listed)).every in
        omega (arith, ltb-true line.inst any_instance (sym (or-false (ltb line.inst any_instance)) ∙ (rw w.once at s)))

    own : (i : ℕ) {u : ℕ} → Lists k u i line → line.inst ≡ i
    own i l = eqb-true line.inst i (sym (or-false (eqb line.inst i)) ∙ (rw (ne_eqb line.inst any_instance one_instance) at l.inst))

    one-pair : (t' j' : ℕ) → seek (listing b v) k t' j' ≡ seek (listing b v) k t j → (t' ≡ t) × (j' ≡ j)
    one-pair t' j' e =
        let a = lists-is k t j line (seek-lists (listing b v) k t j w.listed) in
        let c = lists-is k t' j' line (rw e at (seek-lists (listing b v) k t' j' (rw e w.listed))) in
        (sym c.typ ∙ a.typ, sym (own j' c) ∙ own j a)

  -- a mark that is there after an element was there before it, or is the element's own
  pub new-mark : {t j : ℕ} → Once b k v t j → (m : List ℕ) (h : Element) → get_or (marked b k v m h) (seek (listing b v) k t j) 0 ≢ 0
      → (get_or m (seek (listing b v) k t j) 0 ≢ 0) ⊎ ((h.typ ≡ t) × (h.inst ≡ j))
  new-mark {t} {j} w m h c = go (is_listed b k v h) refl (ℕ_discrete (line_number b k v h) (seek (listing b v) k t j))
    where
      go : (z : Bool) → is_listed b k v h ≡ z → Dec (line_number b k v h ≡ seek (listing b v) k t j)
          → (get_or m (seek (listing b v) k t j) 0 ≢ 0) ⊎ ((h.typ ≡ t) × (h.inst ≡ j))
      go z e (yes l) = inr (one-pair w h.typ h.inst l)
      go false e (no l) = inl (rw (marked_unlisted b k v m h e) at c)
      go true e (no l) = inl (λ y. c (rw (marked-listed b k v m h e) (get_or-set_other m (line_number b k v h) (seek (listing b v) k t j) _ 0 (λ x. l (sym x)) ∙ y)))
