-- Octets that are set from a place on: a run after a run is one run. Assumes nothing.
--     sets-join, eight_bytes, four_bytes, put_is, taken_run  a run after a run, a number, and octets that are laid and taken
--     start_set, counts_set, walk_set, watch_set, open_set   the parts of a state
--     unkept, state_kept                                     a state, or nothing
use mathlib.Core.Path.{◌≡◌, refl, sym, ap, ◌∙◌}
use mathlib.Core.List.{List, [], ◌∷◌, ◌++◌, append-nil, append_assoc}
use Prim.Native.Nat.{ℕ, zero, suc, ◌+◌, ◌*◌, ◌/◌, ◌%◌, ◌≤◌, ◌<◌}
use native.Mathlib.Omega.{arith}
use borrow.Author.Tests.{lt-ltb, le-ltb}
use lib.ListN.{length, get_or, set, take, drop, length-append}
use lib.Seq.{sets, sets-eq, drop-drop, drop-cons, take_all}
use Rattle.std.specs.Int.{w32, w64, to_be_bytes}
use Rattle.rules.specs.Table.{laid}
use Rattle.taking.specs.declared.Counts.{Counts}
use Rattle.pieces.specs.declared.Open.{Open}
use Rattle.pieces.specs.declared.Going.{Going}
use Rattle.pieces.specs.declared.Pieces.{Pieces}
use Rattle.pieces.specs.Depth.{deepest}
use Rattle.keeping.specs.Kept.{levels_from, level_size, state_size, nth, opens_octets, state_octets, kept_in, flag_of, four_of, eight_of, run, start_octets, counts_octets, walk_octets, watch_octets, open_octets}

pub sets-join : (l : List ℕ) (n : ℕ) (xs ys : List ℕ) {m : ℕ} → m ≡ n + length xs → sets (sets l n xs) m ys ≡ sets l n (xs ++ ys)
sets-join l n [] ys {m} e = let z : m ≡ n = omega (arith, e) in rw z
sets-join l n (x ∷ xs) ys {m} e = sets-join (set l n x) (suc n) xs ys (omega (arith, e))

-- the octets of a number, whose top one is cut nowhere
pub eight_bytes : (x : ℕ) → x < 18446744073709551616 → to_be_bytes w64 x ≡ eight_of x
unfolding eight_of
eight_bytes x l = let e : x / 72057594037927936 % 256 ≡ x / 72057594037927936 = omega arith in rw e

pub four_bytes : (x : ℕ) → x < 4294967296 → to_be_bytes w32 x ≡ four_of x
unfolding four_of
four_bytes x l = let e : x / 16777216 % 256 ≡ x / 16777216 = omega arith in rw e

pub length_run : (k : ℕ) (s : List ℕ) (n : ℕ) → length (run k s n) ≡ k
unfolding run
length_run zero s n = refl
length_run (suc k) s n = ap suc (length_run k s (suc n))

-- octets that are taken from a place on
pub taken_run : (k : ℕ) (s : List ℕ) (n : ℕ) → n + k ≤ length s → take k (drop n s) ≡ run k s n
unfolding run
taken_run zero s n l = refl
taken_run (suc k) s n l = rw (drop-cons s n 0 (omega arith)) (ap (λ (t : List ℕ). get_or s n 0 ∷ t) (taken_run k s (suc n) (omega arith)))

pub run_whole : (k : ℕ) (xs : List ℕ) → length xs ≡ k → run k xs 0 ≡ xs
run_whole k xs e = sym (taken_run k xs 0 (omega (arith, e))) ∙ take_all k xs (omega (arith, e))

-- octets that are laid over others, from a place on
pub put_is : (l v : List ℕ) (n k : ℕ) {w : List ℕ} {m : ℕ} → length v ≡ k → n + k ≤ length l → w ≡ v → m ≡ k → take n l ++ (w ++ drop m (drop n l)) ≡ sets l n (run k v 0)
put_is l v n k {w} {m} s h e f =
    let d : drop m (drop n l) ≡ drop (n + length v) l = drop-drop m n l ∙ ap (λ (j : ℕ). drop (n + j) l) (f ∙ sym s) in
    rw (e, d, run_whole k v s) (sym (append_assoc (take n l) v (drop (n + length v) l)) ∙ sym (sets-eq v l n (omega (arith, h, s))))

-- ---- a state's parts, each stored after the one before

module _ (l : List ℕ) where
  pub start_set : (p : Pieces) → sets (sets (sets (sets (sets l 0 (four_of p.kind)) 4 (eight_of p.room)) 12 (flag_of p.ended ∷ [])) 13 (eight_of p.count)) 21 (run 4 p.head 0) ≡ sets l 0 (start_octets p)
  unfolding start_octets four_of eight_of run
  start_set p = refl

  pub counts_set : (c : Counts) (n : ℕ)
      → sets (sets (sets (sets l n (eight_of c.rows)) (n + 8) (eight_of c.kept)) (n + 16) (eight_of c.short)) (n + 24) (eight_of c.gap) ≡ sets l n (counts_octets c)
  unfolding counts_octets eight_of
  counts_set c n =
      let two : List ℕ = eight_of c.rows ++ eight_of c.kept in
      rw (
        sets-join l n (eight_of c.rows) (eight_of c.kept) {m = n + 8} refl,
        sets-join l n two (eight_of c.short) {m = n + 16} refl,
        sets-join l n (two ++ eight_of c.short) (eight_of c.gap) {m = n + 24} refl,
      )

  pub walk_set : (w : Going)
      → sets (sets (sets (sets (sets (sets (sets l 25 (flag_of w.stopped ∷ [])) 26 (eight_of w.depth)) 34 (eight_of w.place)) 42 (eight_of w.have)) 50 (run 4 w.some 0)) 54 (eight_of w.pass)) 62 (counts_octets w.counts)
      ≡ sets l 25 (walk_octets w)
  unfolding walk_octets counts_octets eight_of run
  walk_set w = refl

  pub watch_set : (w : Going) → sets (sets (sets l 94 (flag_of w.limited ∷ [])) 95 (eight_of w.apns)) 103 (counts_octets w.back) ≡ sets l 94 (watch_octets w)
  unfolding watch_octets counts_octets eight_of
  watch_set w = refl

  pub open_set : (o : Open) (n : ℕ)
      → sets (sets (sets (sets (sets l n (o.level ∷ [])) (n + 1) (run 32 o.marks 0)) (n + 33) (eight_of o.parent)) (n + 41) (eight_of o.home)) (n + 49) (eight_of o.left)
      ≡ sets l n (open_octets o)
  unfolding open_octets eight_of
  open_set o n =
      let h = length_run 32 o.marks 0 in
      let one : List ℕ = o.level ∷ [] ++ run 32 o.marks 0 in
      let at : length one ≡ 33 = omega (arith, h) in
      rw (
        sets-join l n (o.level ∷ []) (run 32 o.marks 0) {m = n + 1} refl,
        sets-join l n one (eight_of o.parent) {m = n + 33} (omega (arith, at)),
        sets-join l n (one ++ eight_of o.parent) (eight_of o.home) {m = n + 41} (omega (arith, at, length-append one (eight_of o.parent))),
        sets-join l n (one ++ eight_of o.parent ++ eight_of o.home) (eight_of o.left) {m = n + 49} (omega (arith, at, length-append one (eight_of o.parent), length-append (one ++ eight_of o.parent) (eight_of o.home))),
      )

pub length_open : (o : Open) → length (open_octets o) ≡ 57
unfolding open_octets eight_of
length_open o = simp length-append (omega (arith, length_run 32 o.marks 0))

pub length-opens : (k : ℕ) (w : Going) (i : ℕ) → length (opens_octets k w i) ≡ k * level_size
unfolding opens_octets
length-opens zero w i = refl
length-opens (suc k) w i =
    omega (arith, length-append (open_octets (nth w i)) (opens_octets k w (suc i)), length_open (nth w i), length-opens k w (suc i))

-- one level after another, from place n on, is all of them
abbrev set_opens : ℕ → Going → List ℕ → ℕ → ℕ → List ℕ
set_opens zero w l n i = l
set_opens (suc k) w l n i = set_opens k w (sets l n (open_octets (nth w i))) (n + level_size) (suc i)

opens-set : (k : ℕ) (w : Going) (l xs : List ℕ) (i : ℕ) {n : ℕ} → n ≡ length xs → set_opens k w (sets l 0 xs) n i ≡ sets l 0 (xs ++ opens_octets k w i)
unfolding opens_octets
opens-set zero w l xs i e = ap (sets l 0) (sym (append-nil xs))
opens-set (suc k) w l xs i {n} e =
    let o = open_octets (nth w i) in
    ap (λ (j : List ℕ). set_opens k w j (n + level_size) (suc i)) (sets-join l 0 xs o (omega (arith, e)))
    ∙ opens-set k w l (xs ++ o) (suc i) (omega (arith, length-append xs o, length_open (nth w i)))
    ∙ ap (sets l 0) (append_assoc xs o (opens_octets k w (suc i)))

-- what stands before the watch, and before the levels
abbrev walked : Pieces → List ℕ
walked p = start_octets p ++ walk_octets p.going

abbrev pub first : Pieces → List ℕ
first p = walked p ++ watch_octets p.going

module _ (p : Pieces) where
  length-start : length (start_octets p) ≡ 25
  unfolding start_octets four_of eight_of run
  length-start = refl

  length-walked : length (walked p) ≡ 94
  unfolding start_octets walk_octets counts_octets four_of eight_of run
  length-walked = refl

  pub length-first : length (first p) ≡ levels_from
  unfolding start_octets walk_octets watch_octets counts_octets four_of eight_of run
  length-first = refl

  pub length-state : length (state_octets p) ≡ state_size
  unfolding state_octets
  length-state = omega (arith, length-append (first p) (opens_octets deepest p.going 0), length-first, length-opens deepest p.going 0)

  module _ (l : List ℕ) where
    pub unkept : length l < state_size → l ≡ kept_in p l
    unfolding kept_in
    unkept h = rw (lt-ltb (length l) state_size h)

    pub kept_is : state_size ≤ length l → kept_in p l ≡ state_octets p ++ drop state_size l
    unfolding kept_in laid
    kept_is h = rw (le-ltb (length l) state_size h, length-state)

    pub state_kept : state_size ≤ length l
        → set_opens deepest p.going (sets (sets (sets l 0 (start_octets p)) 25 (walk_octets p.going)) 94 (watch_octets p.going)) levels_from 0 ≡ kept_in p l
    unfolding state_octets
    state_kept h =
        let size : 0 + length (state_octets p) ≡ state_size = omega (arith, length-state) in
        rw (
          sets-join l 0 (start_octets p) (walk_octets p.going) {m = 25} (omega (arith, length-start)),
          sets-join l 0 (walked p) (watch_octets p.going) {m = 94} (omega (arith, length-walked)),
          opens-set deepest p.going l (first p) 0 {n = levels_from} (omega (arith, length-first)),
        )
        (sets-eq (state_octets p) l 0 (omega (arith, size)) ∙ ap (λ (n : ℕ). state_octets p ++ drop n l) size ∙ sym (kept_is h))
