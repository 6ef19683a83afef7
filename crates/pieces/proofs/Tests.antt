-- The test of a state is that it fits. Assumes nothing.
use mathlib.Core.Path.{◌≡◌, refl}
use mathlib.Core.Bool.{Bool, true, false, cond, not, ◌&&◌}
use mathlib.Core.List.{List, [], ◌∷◌}
use Prim.Native.Nat.{ℕ, ◌+◌, ◌-◌, ◌≤◌, ◌<◌}
use native.Mathlib.Omega.{arith}
use native.Mathlib.Nat.{pos_of_ne-zero}
use borrow.Author.Tests.{ltb-true, leb-true, eqb-true, eqb-false, lt-ltb, le-leb, eq-eqb, ne_eqb, not-true}
use lib.Dec.{eqb, ltb, leb}
use lib.ListN.{length}
use Rattle.rules.specs.Sizes.{largest_message}
use Rattle.rules.specs.Framing.{element_header, value_length}
use Rattle.rules.specs.Types.{among}
use Rattle.rules.specs.Listings.{book}
use Rattle.rules.proofs.Lines.{and_left, and_right}
use Rattle.taking.specs.declared.Counts.{Counts}
use Rattle.pieces.specs.declared.Open.{Open}
use Rattle.pieces.specs.declared.Going.{Going}
use Rattle.pieces.specs.Depth.{deepest}
use Rattle.pieces.specs.Coded.{top_of}
use Rattle.pieces.specs.Fits.{Slot, EachSlot, lefts, Waiting, Fits}
use Rattle.pieces.specs.Answers.{slot_fits, slots_fit, back_fits, waits, walk_fits}

both : (a b : Bool) → a ≡ true → b ≡ true → a && b ≡ true
both a b e f = rw (e, f)

slot_is : (f : Open) → slot_fits f ≡ true → Slot f
unfolding slot_fits
slot_is f e =
    let r = and_right (ltb f.level (length book.levels)) _ e in
    let q = and_right (leb f.parent largest_message) _ r in
    record { level = ltb-true _ _ (and_left _ _ e); parent = leb-true _ _ (and_left _ _ r); home = leb-true _ _ (and_left _ _ q) }

is-slot : (f : Open) → Slot f → f.left ≤ largest_message → slot_fits f ≡ true
unfolding slot_fits
is-slot f s l = rw (lt-ltb f.level (length book.levels) s.level, le-leb f.parent 4096 s.parent, le-leb f.home 4096 s.home, le-leb f.left 4096 l)

-- the levels, from a place on
slots_are : (at : ℕ) (fs : List Open) → at ≤ largest_message → slots_fit at fs ≡ true → EachSlot fs × (at + lefts fs ≤ largest_message)
unfolding slots_fit
slots_are at [] l e = (tt, omega arith)
slots_are at (f ∷ fs) l e =
    let r = and_right (slot_fits f) _ e in
    let t = slots_are (at + f.left) fs (leb-true _ _ (and_left (leb (at + f.left) largest_message) _ r)) (and_right (leb (at + f.left) largest_message) _ r) in
    ((slot_is f (and_left (slot_fits f) _ e), t.0), omega (arith, t.1))

are_slots : (at : ℕ) (fs : List Open) → EachSlot fs → at + lefts fs ≤ largest_message → slots_fit at fs ≡ true
unfolding slots_fit
are_slots at [] e l = refl
are_slots at (f ∷ fs) e l =
    rw (is-slot f e.0 (omega arith), le-leb (at + f.left) 4096 (omega arith), are_slots (at + f.left) fs e.1 (omega arith))

back_is : (back : Counts) (rows apns : ℕ) → back_fits back rows apns ≡ true → (back.rows + apns ≤ rows) × (back.kept ≤ back.rows)
unfolding back_fits
back_is back rows apns e =
    let r = and_right (leb back.rows rows) _ e in
    let l : back.rows ≤ rows = leb-true _ _ (and_left (leb back.rows rows) _ e) in
    let n : apns ≤ rows - back.rows = leb-true _ _ (and_left (leb apns (rows - back.rows)) _ r) in
    (omega arith, leb-true _ _ (and_right (leb apns (rows - back.rows)) _ r))

is-back : (back : Counts) (rows apns : ℕ) → back.rows + apns ≤ rows → back.kept ≤ back.rows → back_fits back rows apns ≡ true
unfolding back_fits
is-back back rows apns l n = rw (le-leb back.rows rows (omega arith), le-leb apns (rows - back.rows) (omega arith), le-leb back.kept back.rows n)

module _ (k : ℕ) (w : Going) where
  waits-is : waits w ≡ true → w.stopped ≡ false → 0 < w.depth → w.have ≡ 4 → Waiting w
  unfolding waits
  waits-is e r d n =
      let t : not (eqb (value_length w.some) 0) && leb (element_header + value_length w.some) (top_of w).left ≡ true
      = rw (r, ne_eqb w.depth 0 (λ z. omega arith), eq-eqb w.have 4 n) at e in
      record {
        some = pos_of_ne-zero (eqb-false _ _ (not-true _ (and_left (not (eqb (value_length w.some) 0)) _ t)));
        room = leb-true _ _ (and_right (not (eqb (value_length w.some) 0)) _ t);
      }

  is-waits : (w.stopped ≡ false → 0 < w.depth → w.have ≡ 4 → Waiting w) → waits w ≡ true
  unfolding waits
  is-waits f = go w.stopped (eqb w.depth 0) (eqb w.have 4) refl refl refl
    where
      go : (a b c : Bool) → w.stopped ≡ a → eqb w.depth 0 ≡ b → eqb w.have 4 ≡ c
          → cond a true (cond b true (cond (not c) true (not (eqb (value_length w.some) 0) && leb (element_header + value_length w.some) (top_of w).left))) ≡ true
      go true b c ea eb ec = refl
      go false true c ea eb ec = refl
      go false false false ea eb ec = refl
      go false false true ea eb ec =
          let t = f ea (pos_of_ne-zero (eqb-false _ _ eb)) (eqb-true _ _ ec) in
          rw (ne_eqb (value_length w.some) 0 (λ z. omega (arith, t.some)), le-leb (element_header + value_length w.some) (top_of w).left t.room)

  pub test_fits : length w.levels ≡ deepest → length w.some ≡ 4 → walk_fits k w ≡ true → Fits k w
  unfolding walk_fits
  test_fits l n e =
      let e3 = and_right (leb w.place largest_message) _ e in
      let e4 = and_right (slots_fit w.place w.levels) _ e3 in
      let e5 = and_right (leb w.depth deepest) _ e4 in
      let e6 = and_right (leb w.have 4) _ e5 in
      let e7 = and_right (leb w.counts.rows w.place) _ e6 in
      let e8 = and_right (leb w.counts.kept w.counts.rows) _ e7 in
      let e9 = and_right (back_fits w.back w.counts.rows w.apns) _ e8 in
      let e10 = and_right (cond (eqb w.depth 0) true (among k book.kinds)) _ e9 in
      let b = back_is w.back w.counts.rows w.apns (and_left (back_fits w.back w.counts.rows w.apns) _ e8) in
      let t = slots_are w.place w.levels (leb-true _ _ (and_left (leb w.place largest_message) _ e)) (and_left (slots_fit w.place w.levels) _ e3) in
      record {
        sized = record {
          slots = l;
          bytes = n;
          deep = leb-true _ _ (and_left _ _ e4);
          have = leb-true _ _ (and_left _ _ e5);
          each = t.0;
          ends = t.1;
          few = record { kept = leb-true _ _ (and_left _ _ e7); rows = leb-true _ _ (and_left _ _ e6) };
          owns = b.0;
          spare = b.1;
          kind = λ d. rw (ne_eqb w.depth 0 (λ z. omega arith)) at (and_left (cond (eqb w.depth 0) true (among k book.kinds)) _ e9);
        };
        wait = waits-is e10;
      }

  pub fits-test : Fits k w → walk_fits k w ≡ true
  unfolding walk_fits
  fits-test f =
      let s = f.sized in
      rw (
        le-leb w.place 4096 (omega (arith, s.ends)),
        are_slots w.place w.levels s.each s.ends,
        le-leb w.depth deepest s.deep,
        le-leb w.have 4 s.have,
        le-leb w.counts.rows w.place s.few.rows,
        le-leb w.counts.kept w.counts.rows s.few.kept,
        is-back w.back w.counts.rows w.apns s.owns s.spare,
        is-waits f.wait,
      )
      (both _ true (go (eqb w.depth 0) refl) refl)
    where
      go : (c : Bool) → eqb w.depth 0 ≡ c → cond c true (among k book.kinds) ≡ true
      go true e = refl
      go false e = f.sized.kind (pos_of_ne-zero (eqb-false _ _ e))
