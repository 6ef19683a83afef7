-- The tests of a state, way by way. Assumes nothing.
use mathlib.Core.Path.{◌≡◌, sym, ap, ◌∙◌}
use mathlib.Core.Bool.{Bool, true, false, ◌&&◌}
use mathlib.Core.List.{List}
use Prim.Native.Nat.{ℕ, suc, ◌+◌, ◌≤◌, ◌<◌}
use native.Mathlib.Omega.{arith}
use native.Mathlib.Numerals.{add-one}
use borrow.Author.Tests.{le-leb, lt-leb, leb-true}
use lib.Dec.{ltb, leb}
use lib.ListN.{length, get_or, drop}
use lib.Seq.{drop-cons, drop-length}
use Rattle.rules.specs.Sizes.{largest_message}
use Rattle.rules.specs.Listings.{book}
use Rattle.rules.proofs.Lines.{and_right}
use Rattle.pieces.specs.declared.Open.{Open}
use Rattle.pieces.specs.Depth.{deepest}
use Rattle.pieces.specs.Coded.{no_open}
use Rattle.pieces.specs.Answers.{slot_fits, slots_fit}

pub and_no : (a b : Bool) → a ≡ false → a && b ≡ false
and_no a b e = rw e

pub and_yes : (a b c : Bool) → a ≡ true → b ≡ c → a && b ≡ c
and_yes a b c e f = rw e f

pub slot_left : (f : Open) → slot_fits f ≡ true → f.left ≤ largest_message
unfolding slot_fits
slot_left f e =
    leb-true _ _ (and_right (leb f.home largest_message) _ (and_right (leb f.parent largest_message) _ (and_right (ltb f.level (length book.levels)) _ e)))

-- what holds at each turn of the loop over the levels: those from n on are to fit, from a place on
pub record Fitting (place : ℕ) (fs : List Open) (at n : ℕ) : Type 0 where
  pub long : length fs ≡ deepest
  pub low : at ≤ largest_message
  pub most : n ≤ deepest
  pub same : slots_fit place fs ≡ slots_fit at (drop n fs)

module _ {place : ℕ} {fs : List Open} {at n : ℕ} (w : Fitting place fs at n) where
  pub all_fit : deepest ≤ n → slots_fit place fs ≡ true
  unfolding slots_fit
  all_fit l = let e : n ≡ length fs = omega (arith, w.long, w.most) in w.same ∙ rw (e, drop-length fs)

  module _ (l : n < deepest) where
    abbrev f : Open
    f = get_or fs n no_open

    here : slots_fit place fs ≡ slot_fits f && (leb (at + f.left) largest_message && slots_fit (at + f.left) (drop (suc n) fs))
    unfolding slots_fit
    here = w.same ∙ ap (slots_fit at) (drop-cons fs n no_open (omega (arith, w.long)))

    pub level_unfit : slot_fits f ≡ false → slots_fit place fs ≡ false
    level_unfit e = here ∙ and_no _ _ e

    pub too_far : slot_fits f ≡ true → largest_message < at + f.left → slots_fit place fs ≡ false
    too_far e h = here ∙ and_yes _ _ _ e (and_no _ _ (lt-leb (at + f.left) largest_message h))

    pub fits_on : slot_fits f ≡ true → at + f.left ≤ largest_message → Fitting place fs (at + f.left) (n + 1)
    fits_on e h = record {
      long = w.long;
      low = h;
      most = omega arith;
      same = here ∙ and_yes _ _ _ e (and_yes _ _ _ (le-leb (at + f.left) largest_message h) (ap (λ (j : ℕ). slots_fit (at + f.left) (drop j fs)) (sym (add-one n))));
    }
