-- Arrays of a state stay as long as they are: a step sets what is there, and a new level has fresh marks. Assumes nothing.
--     sane-start, sane-part, sane-end, formed   so a state that is kept is read again as it was
use mathlib.Core.Path.{◌≡◌, refl, ◌∙◌}
use mathlib.Core.Bool.{Bool, true, false, cond, not, ◌&&◌}
use mathlib.Core.List.{List, [], ◌∷◌}
use Prim.Native.Nat.{ℕ, zero, suc, ◌+◌, ◌-◌, ◌≤◌, ◌<◌}
use native.Mathlib.Omega.{arith}
use borrow.Author.Tests.{leb-true}
use lib.Dec.{eqb, ltb, leb}
use lib.ListN.{length, get_or, set, drop, replicate, length-set}
use Rattle.rules.specs.Sizes.{header_numbers}
use Rattle.rules.specs.Framing.{element_header, value_length, length_field, header_length}
use Rattle.rules.specs.Listings.{book}
use Rattle.rules.specs.Verdicts.{accepted, opening_checks, refuses, first}
use Rattle.rules.specs.Frames.{Element}
use Rattle.rules.proofs.Lines.{and_right}
use Rattle.rules.proofs.Standings.{marked-length}
use Rattle.taking.specs.Frames.{apns_of}
use Rattle.taking.specs.Held.{no_counts}
use Rattle.pieces.specs.Drafts.{limited_level, back_by}
use Rattle.taking.specs.declared.Counts.{Counts}
use Rattle.pieces.specs.declared.Open.{Open}
use Rattle.pieces.specs.declared.Going.{Going}
use Rattle.pieces.specs.declared.Pieces.{Pieces}
use Rattle.pieces.specs.Depth.{deepest}
use Rattle.pieces.specs.Steps.{opened}
use Rattle.pieces.specs.Feeding.{count_on}
use Rattle.pieces.specs.Coded.{no_open, blank_open, top_of, with_depth, with_have, stop, closed_by, close_top, close_tops, check_top, settle_top, beyond, into, with_watch, watched_by, gather_by, pass_one, idle_by, entry_by, fed_with, enters, next_open, placed, head_on, taken_by, take_by, headed_by, eat_by, body_by, with_going, head_after, in_header_by, FedPieces, feed_by, feed_all_by}
use Rattle.pieces.specs.Agreements.{FitsAll}
use Rattle.pieces.specs.declared.Told.{Told}
use Rattle.pieces.specs.Answers.{takes, start_of, told_out, part_told, ended_by}
use Rattle.pieces.proofs.Tests.{test_fits}
use Rattle.pieces.proofs.Feeds.{all-fits}
use Rattle.keeping.specs.Kept.{Formed}

-- ---- the arrays of a walk

pub record Shaped (w : Going) : Type 0 where
  pub bytes : length w.some ≡ 4
  pub slots : length w.levels ≡ deepest
  pub marks : (i : ℕ) → i < deepest → length (get_or w.levels i no_open).marks ≡ 32

-- a level is set, with marks of the right length
set-marks : (fs : List Open) (j : ℕ) (f : Open) → length f.marks ≡ 32 → {n : ℕ} → ((i : ℕ) → i < n → length (get_or fs i no_open).marks ≡ 32) → (i : ℕ) → i < n
    → length (get_or (set fs j f) i no_open).marks ≡ 32
set-marks [] j f l m i k = m i k
set-marks (g ∷ fs) zero f l m zero k = l
set-marks (g ∷ fs) zero f l m (suc i) k = m (suc i) k
set-marks (g ∷ fs) (suc j) f l m zero k = m 0 k
set-marks (g ∷ fs) (suc j) f l {n} m (suc i) k = set-marks fs j f l {n = n - 1} (λ a b. m (suc a) (omega arith)) i (omega arith)

-- the same arrays
same_shape : {w v : Going} → v.some ≡ w.some → v.levels ≡ w.levels → Shaped w → Shaped v
same_shape e f s = record { bytes = rw e s.bytes; slots = rw f s.slots; marks = rw f s.marks }

module _ (k : ℕ) where
  close_shape : (w : Going) → Shaped w → Shaped (close_top k w)
  unfolding close_top with_depth
  close_shape w s = go (eqb w.depth 0) (eqb (top_of w).left 0) (closed_by k w)
    where
      go : (c d : Bool) (x : Counts) → Shaped (cond c w (cond d (with_depth w (w.depth - 1) x) w))
      go true d x = s
      go false true x = record { bytes = s.bytes; slots = s.slots; marks = s.marks }
      go false false x = s

  closes_shape : (n : ℕ) (w : Going) → Shaped w → Shaped (close_tops n k w)
  unfolding close_tops
  closes_shape zero w s = s
  closes_shape (suc n) w s = closes_shape n (close_top k w) (close_shape w s)

  check_shape : (w : Going) → Shaped w → Shaped (check_top w)
  unfolding check_top with_have stop
  check_shape w s = go (eqb w.depth 0) (ltb (top_of w).left element_header)
    where
      go : (c d : Bool) → Shaped (cond c (with_have w 0) (cond d (stop w) w))
      go true d = record { bytes = s.bytes; slots = s.slots; marks = s.marks }
      go false true = record { bytes = s.bytes; slots = s.slots; marks = s.marks }
      go false false = s

  settle_shape : (w : Going) → Shaped w → Shaped (settle_top k w)
  unfolding settle_top
  settle_shape w s = check_shape (close_tops deepest k w) (closes_shape deepest w s)

  -- ---- one element

  module _ (w : Going) (s : Shaped w) (deep : w.depth ≤ deepest) where
    on-marks : (h : Element) → length (next_open k w h).marks ≡ 32
    on-marks h = marked-length book k (top_of w).level (top_of w).marks h ∙ s.marks (w.depth - 1) (omega arith)

    -- whatever is watched
    module _ (h : Element) (x came : ℕ) (c : Counts) (v : Going) (levels : v.levels ≡ w.levels) (some : v.some ≡ w.some) (depth : v.depth ≡ w.depth) where
      past : Shaped (beyond v (next_open k w h) h.len came c)
      unfolding beyond
      past = record {
        bytes = rw some s.bytes;
        slots = rw (levels, depth) (length-set w.levels (w.depth - 1) (next_open k w h) ∙ s.slots);
        marks = rw (levels, depth) (set-marks w.levels (w.depth - 1) (next_open k w h) (on-marks h) s.marks);
      }

      within : Shaped (into v (next_open k w h) (enters k w h) h.len x came c)
      unfolding into
      within =
          let fs = set w.levels (w.depth - 1) (next_open k w h) in
          let n = length-set w.levels (w.depth - 1) (next_open k w h) ∙ s.slots in
          let f = opened (enters k w h) c.rows v.place h.len in
          record {
            bytes = rw some (length-set w.some 0 x ∙ s.bytes);
            slots = rw (levels, depth) (length-set fs w.depth f ∙ n);
            marks = rw (levels, depth) (set-marks fs w.depth f refl (set-marks w.levels (w.depth - 1) (next_open k w h) (on-marks h) s.marks));
          }

      either : (a d : Bool) → Shaped (cond a (beyond v (next_open k w h) h.len came c) (cond d (into v (next_open k w h) (enters k w h) h.len x came c) (beyond v (next_open k w h) h.len came c)))
      either true d = past
      either false true = within
      either false false = past

    placed_shape : (h : Element) (x came : ℕ) (c : Counts) → Shaped (placed k w h x came c)
    unfolding placed watched_by with_watch
    placed_shape h x came c = go (eqb (enters k w h) 0)
      where
        v : Bool → Going
        v a = cond a (with_watch w w.limited (w.apns + apns_of h.typ h.inst) w.back) (with_watch w (limited_level (enters k w h)) 0 (back_by w.counts c))

        go : (a : Bool) → Shaped (cond a (beyond (v a) (next_open k w h) h.len came c)
            (cond (ltb (v a).depth deepest) (into (v a) (next_open k w h) (enters k w h) h.len x came c) (beyond (v a) (next_open k w h) h.len came c)))
        go true = either h x came c (v true) refl refl refl true true
        go false = either h x came c (v false) refl refl refl false (ltb (v false).depth deepest)

    take_shape : (x came : ℕ) (rows : List ℕ) → Shaped (take_by k w x came rows).going
    unfolding take_by taken_by
    take_shape x came rows = settle_shape _ (placed_shape (head_on k w x) x came _)

    headed_shape : (rows : List ℕ) → Shaped (headed_by k w rows).going
    unfolding headed_by stop
    headed_shape rows = go (ltb (top_of w).left (element_header + value_length w.some)) (eqb (value_length w.some) 0)
      where
        go : (a d : Bool) → Shaped (cond a (fed_with (stop w) rows) (cond d (take_by k w 0 0 rows) (fed_with w rows))).going
        go true d = record { bytes = s.bytes; slots = s.slots; marks = s.marks }
        go false true = take_shape 0 0 rows
        go false false = s

  gather_shape : (w : Going) (x : ℕ) → Shaped w → Shaped (gather_by w x)
  unfolding gather_by
  gather_shape w x s = record { bytes = length-set w.some w.have x ∙ s.bytes; slots = s.slots; marks = s.marks }

  same-depth : (w : Going) (x : ℕ) → w.depth ≤ deepest → (gather_by w x).depth ≤ deepest
  unfolding gather_by
  same-depth w x l = l

  eat_shape : (w : Going) (x : ℕ) (rows : List ℕ) → Shaped w → w.depth ≤ deepest → Shaped (eat_by k w x rows).going
  unfolding eat_by pass_one
  eat_shape w x rows s deep = go w.stopped (ltb 0 w.pass) (eqb w.depth 0) (ltb w.have 3) (eqb w.have 3)
    where
      go : (a b c d e : Bool) → Shaped (cond a (fed_with w rows) (cond b (fed_with (pass_one w) rows) (cond c (fed_with w rows) (cond d (fed_with (gather_by w x) rows) (cond e (headed_by k (gather_by w x) rows) (take_by k w x 1 rows)))))).going
      go true b c d e = s
      go false true c d e = record { bytes = s.bytes; slots = s.slots; marks = s.marks }
      go false false true d e = s
      go false false false true e = gather_shape w x s
      go false false false false true = headed_shape (gather_by w x) (gather_shape w x s) (same-depth w x deep) rows
      go false false false false false = take_shape w s deep x 1 rows

-- ---- the message

blank-marks : (n i : ℕ) → i < n → length (get_or (replicate n blank_open) i no_open).marks ≡ 32
blank-marks zero i l = absurd (omega arith)
blank-marks (suc n) zero l = refl
blank-marks (suc n) (suc i) l = blank-marks n i (omega arith)

idle_shape : Shaped (idle_by no_counts)
unfolding idle_by
idle_shape = record { bytes = refl; slots = refl; marks = blank-marks deepest }

entry_shape : (h : List ℕ) → Shaped (entry_by h)
unfolding entry_by
entry_shape h = record { bytes = refl; slots = refl; marks = set-marks (replicate deepest blank_open) 0 _ refl (blank-marks deepest) }

body_shape : (k : ℕ) (h : List ℕ) → Shaped (body_by k h)
unfolding body_by
body_shape k h = go (refuses (first (opening_checks book k h (length_field h + 4))))
  where
    go : (a : Bool) → Shaped (cond a (idle_by no_counts) (settle_top k (entry_by h)))
    go true = idle_shape
    go false = settle_shape k (entry_by h) (entry_shape h)

pub record Sane (p : Pieces) : Type 0 where
  pub head : length p.head ≡ 4
  pub walk : Shaped p.going

after-head : (h : List ℕ) (n x : ℕ) → length h ≡ 4 → length (head_after h n x) ≡ 4
unfolding head_after
after-head h n x l = go (ltb n 4)
  where
    go : (c : Bool) → length (cond c (set h n x) h) ≡ 4
    go true = length-set h n x ∙ l
    go false = l

feed-sane : (p : Pieces) (x : ℕ) (rows : List ℕ) → FitsAll p → Sane p → Sane (feed_by p x rows).state
unfolding feed_by in_header_by
feed-sane p x rows f s = go (ltb p.count (header_length p.head))
  where
    begins : (c : Bool) → Shaped (cond c (body_by p.kind (head_after p.head p.count x)) p.going)
    begins true = body_shape p.kind (head_after p.head p.count x)
    begins false = s.walk

    go : (c : Bool) → Sane (cond {A = FedPieces} c (record { state = in_header_by p x; rows = rows })
        (record { state = with_going p (count_on p.count) p.head (eat_by p.kind p.going x rows).going; rows = (eat_by p.kind p.going x rows).rows })).state
    go true = record { head = after-head p.head p.count x s.head; walk = begins (eqb (p.count + 1) (header_length (head_after p.head p.count x))) }
    go false = record { head = s.head; walk = eat_shape p.kind p.going x rows s.walk f.fits.sized.deep }

all-sane : (p : Pieces) (xs rows : List ℕ) → FitsAll p → Sane p → Sane (feed_all_by p xs rows).state
unfolding feed_all_by
all-sane p [] rows f s = s
all-sane p (x ∷ xs) rows f s = all-sane (feed_by p x rows).state xs (feed_by p x rows).rows (all-fits p (x ∷ []) rows f) (feed-sane p x rows f s)

-- ---- start, part and end

-- a state that is taken and has its arrays is sound
taken-fits : (p : Pieces) (room : ℕ) → Sane p → takes p room ≡ true → FitsAll p
unfolding takes
taken-fits p room s e =
    let a = and_right (not p.ended) _ e in
    let b = and_right (eqb p.room room) _ a in
    record { fits = test_fits p.kind p.going s.walk.slots s.walk.bytes (and_right (leb p.count 4097) _ b); count = leb-true _ _ (and_left' _ _ b) }
  where
    and_left' : (a b : Bool) → a && b ≡ true → a ≡ true
    and_left' true b e = refl
    and_left' false b e = e

pub sane-start : (k room : ℕ) → Sane (start_of k room)
sane-start k room = record { head = refl; walk = idle_shape }

pub sane-part : (p : Pieces) (part table : List ℕ) → Sane p → Sane (part_told p part table).state
unfolding part_told
sane-part p part table s = go (takes p (length table)) refl
  where
    go : (c : Bool) → takes p (length table) ≡ c → Sane (cond {A = Told} c (record { state = (feed_all_by p part (drop header_numbers table)).state; verdict = accepted }) (told_out p)).state
    go true e = all-sane p part (drop header_numbers table) (taken-fits p (length table) s e) s
    go false e = s

pub sane-end : (p : Pieces) → Sane p → Sane (ended_by p)
unfolding ended_by
sane-end p s = record { head = s.head; walk = s.walk }

pub formed : {p : Pieces} → Sane p → Formed p
formed s = record { head_four = s.head; some_four = s.walk.bytes; levels_all = s.walk.slots; marks_all = s.walk.marks }
