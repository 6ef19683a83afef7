-- One element is taken: counted by itself and added it is what the steps take, whatever rows are lent, and its row is the six numbers. Assumes nothing.
--     adds   the sums stay small          watch-placing   where it is placed          took-sized   the walk stays sized          took-wrote   what is left
use mathlib.Core.Path.{◌≡◌, refl, sym, ap, ◌∙◌}
use mathlib.Core.Bool.{Bool, true, false, cond}
use Rattle.std.specs.Prelude.{Option, Some}
use Rattle.taking.specs.Lent.{level_of, limited_of}
use Rattle.taking.specs.declared.Inside.{Inside}
use mathlib.Core.List.{List, []}
use Prim.Native.Nat.{ℕ, ◌+◌, ◌-◌, ◌≤◌, ◌<◌}
use native.Mathlib.Omega.{arith}
use borrow.Author.Tests.{eqb-false}
use lib.Dec.{eqb}
use lib.ListN.{length}
use Rattle.rules.specs.Sizes.{row_numbers}
use Rattle.rules.specs.Framing.{element_header, value_length}
use Rattle.rules.specs.Listings.{book}
use Rattle.rules.specs.Standing.{Item, item_of}
use Rattle.rules.specs.Table.{row}
use Rattle.rules.specs.Frames.{Element, element, filled_by, frames_by, frames_of}
use Rattle.rules.specs.declared.Head.{Head}
use Rattle.taking.specs.Held.{Held, held, one, count, Took}
use Rattle.taking.specs.declared.Counts.{Counts}
use Rattle.pieces.specs.declared.Open.{Open}
use Rattle.pieces.specs.declared.Going.{Going}
use Rattle.taking.specs.Frames.{IsApn}
use Rattle.pieces.specs.Drafts.{back_by, back_to}
use Rattle.pieces.specs.Coded.{top_of, settle_top, head_by, with_watch, watched_by, placed_by, alone_by, joined_by, next_held, enters, next_open, watched, placed, head_on, taken_by, take_by}
use Rattle.pieces.specs.Fits.{Sized}
use Rattle.pieces.specs.Agreements.{Adds, Placing, Wrote}
use Rattle.pieces.proofs.Fits.{rows-one, placed-sized}
use Rattle.pieces.proofs.Limits.{limits-watched}
use Rattle.pieces.proofs.Alone.{counts-joined, alone-few, row-alone, row_put}

-- the element h at the innermost level
abbrev item_in : ℕ → Going → Element → Item
item_in k w h = item_of book k (top_of w).level (top_of w).marks (top_of w).parent w.place h

module _ {k : ℕ} (w : Going) {lent row' m' : List ℕ} {own own' : Counts} {t : Option Inside} {h : Element}
    (e : own ≡ alone_by w.counts) (took : Took t m' (held own' row') k (top_of w).level (top_of w).marks (top_of w).parent w.place h (held own lent)) where
  counts-by : own' ≡ count (alone_by w.counts) (item_in k w h)
  unfolding one
  counts-by = ap (λ (s : Held). s.counts) took.holds ∙ rw e

  row_by : length lent ≡ row_numbers → row' ≡ row (item_in k w h)
  unfolding one
  row_by l = ap (λ (s : Held). s.rows) took.holds ∙ rw e (row-alone lent (item_in k w h) l)

  pub adds : Sized k w → Adds w.counts own'
  adds z =
      let f = alone-few w.counts (item_in k w h) in
      record { rows = omega (arith, z.few.rows, z.ends); kept = z.few.kept; one_row = rw counts-by f.0; one_kept = rw counts-by f.1 }

-- what is watched of a level hangs on its limits only if it is entered
watched_as : (w : Going) (inner n : ℕ) (c : Counts) {a b : Bool} → ((inner ≡ 0 → ⊥) → a ≡ b) → watched_by w inner a n c ≡ watched_by w inner b n c
unfolding watched_by
watched_as w inner n c {a} {b} same = go (eqb inner 0) refl
  where
    go : (t : Bool) → eqb inner 0 ≡ t
        → cond t (with_watch w w.limited (w.apns + n) w.back) (with_watch w a 0 (back_by w.counts c))
        ≡ cond t (with_watch w w.limited (w.apns + n) w.back) (with_watch w b 0 (back_by w.counts c))
    go true e = refl
    go false e = ap (λ (l : Bool). with_watch w l 0 (back_by w.counts c)) (same (eqb-false inner 0 e))

-- nor does where an element is placed hang on it
pub watch-placing : (w : Going) (inner n : ℕ) (l : Bool) (c : Counts) {g : Option Inside} {len came : ℕ} {seen : Going} → seen ≡ watched_by w inner l n c → Placing w g len came → Placing seen g len came
unfolding watched_by with_watch
watch-placing w inner n l c {g} {len} {came} e p = rw e (go (eqb inner 0))
  where
    go : (t : Bool) → Placing (cond t (with_watch w w.limited (w.apns + n) w.back) (with_watch w l 0 (back_by w.counts c))) g len came
    go true = record { deep = p.deep; inside = p.inside; came_of = p.came_of; ends = p.ends; group = p.group }
    go false = record { deep = p.deep; inside = p.inside; came_of = p.came_of; ends = p.ends; group = p.group }

module _ (k came x : ℕ) (w : Going) (lent : List ℕ) {value row' m' : List ℕ} {own own' counts : Counts} {t : Option Inside} {h : Head} {on : Open}
    (hh : h ≡ head_by w.some x) (hv : value ≡ []) (ha : own ≡ alone_by w.counts)
    (took : Took t m' (held own' row') k (top_of w).level (top_of w).marks (top_of w).parent w.place (element h (frames_of value)) (held own lent))
    (hc : counts ≡ joined_by w.counts own')
    (ho : on ≡ record { level = (top_of w).level; marks = m'; parent = (top_of w).parent; home = (top_of w).home; left = (top_of w).left - (element_header + h.len) }) where
  element-is : element h (frames_of value) ≡ head_on k w x
  unfolding frames_of filled_by frames_by
  element-is = rw (hh, hv)

  on-is : on ≡ next_open k w (head_on k w x)
  on-is = ho ∙ rw (took.marks, element-is, hh)

  inner-is : level_of t ≡ enters k w (head_on k w x)
  inner-is = rw (← element-is) took.level

  counts_are : (rows : List ℕ) → counts ≡ (next_held k w (head_on k w x) rows).counts
  unfolding one
  counts_are rows = rw (← element-is) (hc ∙ ap (joined_by w.counts) (counts-by w ha took) ∙ counts-joined w.counts _)

  module _ {n : ℕ} {seen b : Going} (ha' : IsApn h.typ h.inst n) (hs : seen ≡ watched_by w (level_of t) (limited_of t) n counts)
      (e : b ≡ placed_by seen on (level_of t) h.len x came counts) where
    watched-is : seen ≡ watched k w (head_on k w x) counts
    watched-is =
        hs ∙ rw (ha'.is, inner-is, took.limits, element-is, hh)
        (watched_as w (enters k w (head_on k w x)) _ counts (λ some. limits-watched k (top_of w).level (top_of w).marks (head_on k w x) some))

    placed-is : (rows : List ℕ) → b ≡ placed k w (head_on k w x) x came (next_held k w (head_on k w x) rows).counts
    unfolding placed
    placed-is rows = e ∙ rw (watched-is, on-is, counts_are rows, inner-is, hh)

    pub took-sized : Sized k w → 0 < w.depth → element_header + value_length w.some ≤ (top_of w).left → came ≤ 1 → Sized k b
    took-sized z some room l = rw (placed-is lent) (placed-sized k w x came lent z some room l)

    pub took-wrote : {r : Going} {left : List ℕ} → left ≡ row' → length lent ≡ row_numbers → r ≡ settle_top k b → Wrote r (Some left) w.counts.rows (take_by k w x came)
    unfolding take_by taken_by one
    took-wrote {r} {left} hl l f =
        let is : left ≡ row (item_in k w (head_on k w x)) = hl ∙ row_by w ha took l ∙ ap (λ (i : Element). row (item_in k w i)) element-is in
        let going : (rows : List ℕ) → taken_by k w x came (next_held k w (head_on k w x) rows).counts ≡ r = λ rows. sym (f ∙ ap (settle_top k) (placed-is rows)) in
        record {
          going = going;
          rows_left = λ rows. ap (λ (g : Going). back_to g.counts.rows (next_held k w (head_on k w x) rows).counts.rows (next_held k w (head_on k w x) rows).rows) (going rows)
              ∙ rw (rows-one (held w.counts rows) (item_in k w (head_on k w x)), is) (ap (back_to r.counts.rows (w.counts.rows + 1)) (sym (row_put rows w.counts.rows (item_in k w (head_on k w x)))));
        }
