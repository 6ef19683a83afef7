-- Each step leads from a state that fits to one that does. Assumes nothing.
use mathlib.Core.Path.{◌≡◌, refl, ◌∙◌}
use mathlib.Core.Bool.{Bool, true, false, cond, ◌&&◌}
use mathlib.Core.List.{List, [], ◌∷◌}
use Prim.Native.Nat.{ℕ, zero, suc, ◌+◌, ◌-◌, ◌≤◌, ◌<◌}
use native.Mathlib.Omega.{arith}
use native.Mathlib.Nat.{pos_of_ne-zero}
use borrow.Author.Tests.{ltb-true, ltb-false, eqb-true, eqb-false}
use lib.Dec.{eqb, ltb}
use lib.ListN.{length, get_or, set, length-set}
use Rattle.rules.specs.Sizes.{largest_message}
use Rattle.rules.specs.Framing.{element_header, value_length}
use Rattle.rules.specs.Listings.{book}
use Rattle.rules.specs.Standing.{Item, kept}
use Rattle.rules.specs.Frames.{Element}
use Rattle.taking.specs.Lacks.{lack_of}
use Rattle.taking.specs.Held.{Held, held, one, count, counted, closed, Few}
use Rattle.taking.specs.declared.Counts.{Counts}
use Rattle.listings.proofs.Levels.{depth}
use Rattle.reading.proofs.Runs.{inner-low}
use Rattle.pieces.specs.declared.Open.{Open}
use Rattle.pieces.specs.declared.Going.{Going}
use Rattle.taking.specs.Frames.{apn, apns_of}
use Rattle.pieces.specs.Depth.{deepest}
use Rattle.pieces.specs.Drafts.{limited_level, back_by, is_crowded}
use Rattle.pieces.specs.Steps.{opened}
use Rattle.pieces.specs.Coded.{no_open, top_of, with_depth, with_have, stop, closed_by, close_top, close_tops, check_top, settle_top, beyond, into, with_watch, watched_by, fed_with, next_held, enters, next_open, watched, placed, head_on, taken_by, take_by, gather_by, pass_one, headed_by, eat_by}
use Rattle.pieces.specs.Fits.{Slot, EachSlot, lefts, Sized, Fits}

-- ---- slots

none-slot : Slot no_open
none-slot = record { level = omega (arith, depth); parent = omega arith; home = omega arith }

pub slot_at : (fs : List Open) (i : ℕ) → EachSlot fs → Slot (get_or fs i no_open)
slot_at [] i e = none-slot
slot_at (f ∷ fs) zero e = e.0
slot_at (f ∷ fs) (suc i) e = slot_at fs i e.1

each_set : (fs : List Open) (i : ℕ) (f : Open) → EachSlot fs → Slot f → EachSlot (set fs i f)
each_set [] i f e s = e
each_set (g ∷ fs) zero f e s = (s, e.1)
each_set (g ∷ fs) (suc i) f e s = (e.0, each_set fs i f e.1 s)

-- one level's octets are others
lefts-set : (fs : List Open) (i : ℕ) (f : Open) → i < length fs → lefts (set fs i f) + (get_or fs i no_open).left ≡ lefts fs + f.left
lefts-set [] i f l = absurd (omega arith)
lefts-set (g ∷ fs) zero f l = omega arith
lefts-set (g ∷ fs) (suc i) f l = omega (arith, lefts-set fs i f (omega arith))

pub left-most : (fs : List Open) (i : ℕ) → (get_or fs i no_open).left ≤ lefts fs
left-most [] i = omega arith
left-most (f ∷ fs) zero = omega arith
left-most (f ∷ fs) (suc i) = omega (arith, left-most fs i)

-- ---- closing

module _ (k : ℕ) (w : Going) where
  pub close_sized : Sized k w → Sized k (close_top k w)
  unfolding close_top with_depth closed
  close_sized s = go (eqb w.depth 0) (eqb (top_of w).left 0)
    where
      few-by : (c : Bool) → Few (cond c w.back (closed w.counts (lack_of book k (top_of w).level (top_of w).marks (top_of w).home))) w.place
      few-by true = record { kept = s.spare; rows = omega (arith, s.owns, s.few.rows) }
      few-by false = record { kept = s.few.kept; rows = s.few.rows }

      go : (c d : Bool) → Sized k (cond c w (cond d (with_depth w (w.depth - 1) (closed_by k w)) w))
      go true d = s
      go false false = s
      go false true = record {
        slots = s.slots;
        bytes = s.bytes;
        deep = omega (arith, s.deep);
        have = s.have;
        each = s.each;
        ends = s.ends;
        few = few-by (is_crowded w.limited w.apns);
        owns = omega arith;
        spare = omega arith;
        kind = λ l. s.kind (omega arith);
      }

pub closes_sized : (n k : ℕ) (w : Going) → Sized k w → Sized k (close_tops n k w)
unfolding close_tops
closes_sized zero k w s = s
closes_sized (suc n) k w s = closes_sized n k (close_top k w) (close_sized k w s)

-- what waits is not touched by the closing: `have` is under 4
close_have : (k : ℕ) (w : Going) → (close_top k w).have ≡ w.have
unfolding close_top with_depth
close_have k w = go (eqb w.depth 0) (eqb (top_of w).left 0)
  where
    go : (c d : Bool) → (cond c w (cond d (with_depth w (w.depth - 1) (closed_by k w)) w)).have ≡ w.have
    go true d = refl
    go false false = refl
    go false true = refl

closes_have : (n k : ℕ) (w : Going) → (close_tops n k w).have ≡ w.have
unfolding close_tops
closes_have zero k w = refl
closes_have (suc n) k w = closes_have n k (close_top k w) ∙ close_have k w

pub check-fits : (k : ℕ) (w : Going) → Sized k w → w.have < 4 → Fits k (check_top w)
unfolding check_top with_have stop
check-fits k w s l = go (eqb w.depth 0) (ltb (top_of w).left element_header)
  where
    go : (c d : Bool) → Fits k (cond c (with_have w 0) (cond d (stop w) w))
    go true d = record {
      sized = record { slots = s.slots; bytes = s.bytes; deep = s.deep; have = omega arith; each = s.each; ends = s.ends; few = s.few; owns = s.owns; spare = s.spare; kind = s.kind };
      wait = λ a b c. absurd (omega arith);
    }
    go false true = record {
      sized = record { slots = s.slots; bytes = s.bytes; deep = s.deep; have = s.have; each = s.each; ends = s.ends; few = s.few; owns = s.owns; spare = s.spare; kind = s.kind };
      wait = λ a b c. absurd (omega arith);
    }
    go false false = record { sized = s; wait = λ a b c. absurd (omega arith) }

pub settle-fits : (k : ℕ) (w : Going) → Sized k w → w.have < 4 → Fits k (settle_top k w)
unfolding settle_top
settle-fits k w s l = check-fits k (close_tops deepest k w) (closes_sized deepest k w s) (rw (closes_have deepest k w) l)

-- ---- one element

few-one : (s : Held) (i : Item) (n m : ℕ) → Few s.counts n → n < m → Few (one s i).counts m
unfolding one count counted
few-one s i n m f l = record { kept = go (eqb i.stand kept); rows = omega (arith, f.rows) }
  where
    go : (c : Bool) → cond c (s.counts.kept + 1) s.counts.kept ≤ s.counts.rows + 1
    go true = omega (arith, f.kept)
    go false = omega (arith, f.kept)

-- an element is one APN at the most
pub apns-low : (t i : ℕ) → apns_of t i ≤ 1
apns-low t i = go (eqb t apn && eqb i 0)
  where
    go : (c : Bool) → cond c 1 0 ≤ 1
    go true = omega arith
    go false = omega arith

pub rows-one : (s : Held) (i : Item) → (one s i).counts.rows ≡ s.counts.rows + 1
unfolding one count counted
rows-one s i = refl

module _ (k : ℕ) (w : Going) (x came : ℕ) (rows : List ℕ) (z : Sized k w) (some : 0 < w.depth)
    (room : element_header + value_length w.some ≤ (top_of w).left) where
  abbrev h : Element
  h = head_on k w x

  abbrev c : Counts
  c = (next_held k w h rows).counts

  top_in : w.depth - 1 < length w.levels
  top_in = omega (arith, z.slots, z.deep)

  on-slot : Slot (next_open k w h)
  on-slot = let s = slot_at w.levels (w.depth - 1) z.each in record { level = s.level; parent = s.parent; home = s.home }

  few-next : (m : ℕ) → w.place < m → Few c m
  few-next m l = few-one (held w.counts rows) _ w.place m z.few l

  rows_next : c.rows ≡ w.counts.rows + 1
  rows_next = rows-one (held w.counts rows) _

  pub in_place : w.place + element_header + value_length w.some ≤ largest_message
  in_place = omega (arith, z.ends, left-most w.levels (w.depth - 1))

  -- whatever is watched
  module _ (limited : Bool) (n : ℕ) (back : Counts) (own : back.rows + n ≤ c.rows) (less : back.kept ≤ back.rows) where
    beyond-sized : Sized k (beyond (with_watch w limited n back) (next_open k w h) h.len came c)
    unfolding beyond with_watch
    beyond-sized = record {
      slots = length-set w.levels (w.depth - 1) (next_open k w h) ∙ z.slots;
      bytes = z.bytes;
      deep = z.deep;
      have = omega arith;
      each = each_set w.levels (w.depth - 1) (next_open k w h) z.each on-slot;
      ends = omega (arith, z.ends, lefts-set w.levels (w.depth - 1) (next_open k w h) top_in);
      few = few-next _ (omega arith);
      owns = own;
      spare = less;
      kind = z.kind;
    }

    into-sized : came ≤ 1 → w.depth < deepest → Sized k (into (with_watch w limited n back) (next_open k w h) (enters k w h) h.len x came c)
    unfolding into with_watch
    into-sized one-most deep =
        let on = next_open k w h in
        let levels = set w.levels (w.depth - 1) on in
        let inn = opened (enters k w h) c.rows w.place h.len in
        let few = few-next (w.place + element_header) (omega arith) in
        let m : length levels ≡ deepest = length-set w.levels (w.depth - 1) on ∙ z.slots in
        record {
          slots = length-set levels w.depth inn ∙ m;
          bytes = length-set w.some 0 x ∙ z.bytes;
          deep = omega arith;
          have = omega arith;
          each = each_set levels w.depth inn (each_set w.levels (w.depth - 1) on z.each on-slot)
              (record { level = inner-low k (top_of w).level (top_of w).marks h (enters k w h) refl; parent = omega (arith, few.rows, in_place); home = omega (arith, in_place) });
          ends = omega (arith, z.ends, lefts-set w.levels (w.depth - 1) on top_in, lefts-set levels w.depth inn (omega (arith, m)));
          few = few;
          owns = own;
          spare = less;
          kind = λ l. z.kind some;
        }

  own-beyond : w.back.rows + (w.apns + apns_of h.typ h.inst) ≤ c.rows
  own-beyond = omega (arith, z.owns, rows_next, apns-low h.typ h.inst)

  own-into : (back_by w.counts c).rows + 0 ≤ c.rows
  own-into = omega arith

  spare-into : (back_by w.counts c).kept ≤ (back_by w.counts c).rows
  spare-into = omega (arith, z.few.kept, rows_next)

  abbrev deeper : Bool → Going → Going
  deeper d v = cond d (into v (next_open k w h) (enters k w h) h.len x came c) (beyond v (next_open k w h) h.len came c)

  abbrev entering : Going
  entering = with_watch w (limited_level (enters k w h)) 0 (back_by w.counts c)

  deeper-sized : came ≤ 1 → (d : Bool) → ltb w.depth deepest ≡ d → Sized k (deeper d entering)
  deeper-sized l true e = into-sized (limited_level (enters k w h)) 0 (back_by w.counts c) own-into spare-into l (ltb-true _ _ e)
  deeper-sized l false e = beyond-sized (limited_level (enters k w h)) 0 (back_by w.counts c) own-into spare-into

  pub placed-sized : came ≤ 1 → Sized k (placed k w h x came c)
  unfolding placed watched_by with_watch
  placed-sized l = go (eqb (enters k w h) 0)
    where
      go : (a : Bool)
          → Sized k (cond a (beyond (cond a (with_watch w w.limited (w.apns + apns_of h.typ h.inst) w.back) entering) (next_open k w h) h.len came c)
          (deeper (ltb (cond a (with_watch w w.limited (w.apns + apns_of h.typ h.inst) w.back) entering).depth deepest) (cond a (with_watch w w.limited (w.apns + apns_of h.typ h.inst) w.back) entering)))
      go true = beyond-sized w.limited (w.apns + apns_of h.typ h.inst) w.back own-beyond z.spare
      go false = deeper-sized l (ltb w.depth deepest) refl

  placed-have : came ≤ 1 → (placed k w h x came c).have < 4
  unfolding placed watched_by beyond into
  placed-have l = go (eqb (enters k w h) 0) (ltb (watched k w h c).depth deepest)
    where
      go : (a d : Bool) → (cond a (beyond (watched k w h c) (next_open k w h) h.len came c) (deeper d (watched k w h c))).have < 4
      go true d = omega arith
      go false true = omega arith
      go false false = omega arith

  pub take-fits : came ≤ 1 → Fits k (take_by k w x came rows).going
  unfolding take_by taken_by
  take-fits l = settle-fits k (placed k w h x came c) (placed-sized l) (placed-have l)

-- ---- one octet

module _ (k : ℕ) (w : Going) where
  pub gather-sized : Sized k w → (x : ℕ) → w.have ≤ 3 → Sized k (gather_by w x)
  unfolding gather_by
  gather-sized s x l = record {
    slots = s.slots;
    bytes = length-set w.some w.have x ∙ s.bytes;
    deep = s.deep;
    have = omega arith;
    each = s.each;
    ends = s.ends;
    few = s.few;
    owns = s.owns;
    spare = s.spare;
    kind = s.kind;
  }

  pub gather-fits : Sized k w → (x : ℕ) → w.have < 3 → Fits k (gather_by w x)
  unfolding gather_by
  gather-fits s x l = record { sized = gather-sized s x (omega arith); wait = λ a b c. absurd (omega arith) }

  pub pass_fits : Fits k w → Fits k (pass_one w)
  unfolding pass_one
  pass_fits f = let s = f.sized in record {
    sized = record { slots = s.slots; bytes = s.bytes; deep = s.deep; have = s.have; each = s.each; ends = s.ends; few = s.few; owns = s.owns; spare = s.spare; kind = s.kind };
    wait = λ a b c. let t = f.wait a b c in record { some = t.some; room = t.room };
  }

  pub stop-fits : Sized k w → Fits k (stop w)
  unfolding stop
  stop-fits s = record {
    sized = record { slots = s.slots; bytes = s.bytes; deep = s.deep; have = s.have; each = s.each; ends = s.ends; few = s.few; owns = s.owns; spare = s.spare; kind = s.kind };
    wait = λ a b c. let y : ◌≡◌ {A = ℕ} 0 1 = cc in absurd (omega arith);
  }

  pub headed-fits : Sized k w → 0 < w.depth → w.have ≡ 4 → (rows : List ℕ) → Fits k (headed_by k w rows).going
  unfolding headed_by
  headed-fits s d n rows = go (ltb (top_of w).left (element_header + value_length w.some)) (eqb (value_length w.some) 0) refl refl
    where
      go : (a b : Bool) → ltb (top_of w).left (element_header + value_length w.some) ≡ a → eqb (value_length w.some) 0 ≡ b
          → Fits k (cond a (fed_with (stop w) rows) (cond b (take_by k w 0 0 rows) (fed_with w rows))).going
      go true b e f = stop-fits s
      go false true e f = take-fits k w 0 0 rows s d (ltb-false _ _ e) (omega arith)
      go false false e f = record { sized = s; wait = λ a b c. record { some = pos_of_ne-zero (eqb-false _ _ f); room = ltb-false _ _ e } }

pub depth-kept : (k : ℕ) (w : Going) (x : ℕ) → 0 < w.depth → 0 < (gather_by w x).depth
unfolding gather_by
depth-kept k w x l = l

pub have-on : (k : ℕ) (w : Going) (x : ℕ) → w.have ≡ 3 → (gather_by w x).have ≡ 4
unfolding gather_by
have-on k w x e = omega arith

pub not_three : (n : ℕ) → 3 ≤ n → n ≤ 4 → (n ≡ 3 → ⊥) → n ≡ 4
not_three n a c d = omega (arith, pos_of_ne-zero {n = n - 3} (λ w. d (omega arith)))

pub eat-fits : (k : ℕ) (w : Going) (x : ℕ) (rows : List ℕ) → Fits k w → Fits k (eat_by k w x rows).going
unfolding eat_by
eat-fits k w x rows f = go w.stopped (ltb 0 w.pass) (eqb w.depth 0) (ltb w.have 3) (eqb w.have 3) refl refl refl refl
  where
    s : Sized k w
    s = f.sized

    go : (a b c d e : Bool) → w.stopped ≡ a → eqb w.depth 0 ≡ c → ltb w.have 3 ≡ d → eqb w.have 3 ≡ e
        → Fits k (cond a (fed_with w rows) (cond b (fed_with (pass_one w) rows) (cond c (fed_with w rows) (cond d (fed_with (gather_by w x) rows) (cond e (headed_by k (gather_by w x) rows) (take_by k w x 1 rows)))))).going
    go true b c d e ea ec ed ee = f
    go false true c d e ea ec ed ee = pass_fits k w f
    go false false true d e ea ec ed ee = f
    go false false false true e ea ec ed ee = gather-fits k w s x (ltb-true _ _ ed)
    go false false false false true ea ec ed ee =
        let n : w.have ≡ 3 = eqb-true _ _ ee in
        let p : 0 < w.depth = pos_of_ne-zero (eqb-false _ _ ec) in
        headed-fits k (gather_by w x) (gather-sized k w s x (omega arith)) (depth-kept k w x p) (have-on k w x n) rows
    go false false false false false ea ec ed ee =
        let l : 3 ≤ w.have = ltb-false _ _ ed in
        let p : 0 < w.depth = pos_of_ne-zero (eqb-false _ _ ec) in
        let n : w.have ≡ 4 = not_three w.have l s.have (eqb-false _ _ ee) in
        let t = f.wait ea p n in
        take-fits k w x 1 rows s p t.room (omega arith)
