-- What was kept is read again: a number's octets make the number, and each part stands where it is read. Assumes nothing.
--     kept_again   a state that was kept comes back
--     formed       what is read has arrays as long as they are declared
use mathlib.Core.Path.{◌≡◌, refl, sym, ap, ◌∙◌}
use mathlib.Core.Bool.{Bool, true, false}
use mathlib.Core.List.{List, [], ◌∷◌, ◌++◌, append_assoc}
use Prim.Native.Nat.{ℕ, zero, suc, ◌+◌, ◌*◌, ◌/◌, ◌%◌, ◌≤◌, ◌<◌}
use native.Mathlib.Nat.{div-div-eq-div-mul, div-add-mod'}
use native.Mathlib.Omega.{arith}
use borrow.Author.Tests.{le-ltb}
use lib.ListN.{length, get_or, drop, length-append}
use lib.Seq.{get_or_at, get_or-append-add, drop-cons, drop-length}
use Rattle.taking.specs.declared.Counts.{Counts}
use Rattle.pieces.specs.declared.Open.{Open}
use Rattle.pieces.specs.declared.Going.{Going}
use Rattle.pieces.specs.declared.Pieces.{Pieces}
use Rattle.pieces.specs.Depth.{deepest}
use Rattle.pieces.specs.Coded.{no_open}
use Rattle.keeping.specs.Kept.{state_size, four_of, eight_of, number_on, number_of, run, number_at, flag_of, is_flag, start_octets, counts_octets, walk_octets, watch_octets, open_octets, nth, levels_from, level_size, opens_octets, state_octets, kept_in, open_at, opens_at, counts_at, walk_in, fields_in, state_in, Formed}
use Rattle.keeping.proofs.Storing.{length_run, run_whole, first, length-first, length_open, length-state, kept_is}

-- ---- numbers and bools

-- one octet more
join : (x k m : ℕ) → k * 256 ≡ m → x / m * 256 + x / k % 256 ≡ x / k
join x k m e = rw (← e, ← div-div-eq-div-mul x k 256) (div-add-mod' (x / k) 256)

four-again : (x : ℕ) → number_of (four_of x) ≡ x
unfolding four_of number_of number_on
four-again x = rw (join x 65536 16777216 refl, join x 256 65536 refl) (div-add-mod' x 256)

eight_again : (x : ℕ) → number_of (eight_of x) ≡ x
unfolding eight_of four_of number_of number_on
eight_again x =
    rw (join x 281474976710656 72057594037927936 refl, join x 1099511627776 281474976710656 refl, join x 4294967296 1099511627776 refl, join x 16777216 4294967296 refl)
    (four-again x)

flag-again : (b : Bool) → is_flag (flag_of b) ≡ b
flag-again true = refl
flag-again false = refl

-- ---- runs

run-after : (k : ℕ) (xs ys : List ℕ) (n : ℕ) {m : ℕ} → m ≡ length xs + n → run k (xs ++ ys) m ≡ run k ys n
unfolding run
run-after zero xs ys n e = refl
run-after (suc k) xs ys n {m} e = rw (e, get_or-append-add xs ys n 0, run-after k xs ys (suc n) {m = suc (length xs + n)} (omega arith))

run-first : (k : ℕ) (xs ys : List ℕ) → length xs ≡ k → run k (xs ++ ys) 0 ≡ xs
unfolding run
run-first zero [] ys e = refl
run-first zero (x ∷ xs) ys e = absurd (omega (arith, e))
run-first (suc k) [] ys e = absurd (omega (arith, e))
run-first (suc k) (x ∷ xs) ys e = ap (λ (l : List ℕ). x ∷ l) (run-after k (x ∷ []) (xs ++ ys) 0 {m = 1} refl ∙ run-first k xs ys (omega (arith, e)))

-- ---- a level

open_same : (o : Open) {v a b c : ℕ} {m : List ℕ} → v ≡ o.level → m ≡ o.marks → a ≡ o.parent → b ≡ o.home → c ≡ o.left
    → ◌≡◌ {A = Open} record { level = v; marks = m; parent = a; home = b; left = c } o
open_same o v m a b c = rw (v, m, a, b, c)

module _ (o : Open) (ys : List ℕ) where
  numbers : List ℕ
  numbers = eight_of o.parent ++ (eight_of o.home ++ (eight_of o.left ++ ys))

  before : List ℕ
  before = o.level ∷ run 32 o.marks 0

  open_parts : open_octets o ++ ys ≡ before ++ numbers
  unfolding open_octets numbers before
  open_parts = simp append_assoc refl

  -- the three numbers
  first-number : run 8 numbers 0 ≡ eight_of o.parent
  unfolding numbers eight_of run
  first-number = refl

  second_number : run 8 numbers 8 ≡ eight_of o.home
  unfolding numbers eight_of run
  second_number = refl

  third_number : run 8 numbers 16 ≡ eight_of o.left
  unfolding numbers eight_of run
  third_number = refl

  module _ (xs : List ℕ) (n : ℕ) (e : length xs ≡ n) where
    number-there : (j x : ℕ) {m : ℕ} → run 8 numbers j ≡ eight_of x → m ≡ n + (33 + j) → number_at (xs ++ (before ++ numbers)) m ≡ x
    unfolding before
    number-there j x is at =
        ap number_of
        (run-after 8 xs (before ++ numbers) (33 + j) (omega (arith, e, at))
        ∙ run-after 8 before numbers j (omega (arith, length_run 32 o.marks 0))
        ∙ is)
        ∙ eight_again x

    marks-there : length o.marks ≡ 32 → run 32 (xs ++ (before ++ numbers)) (n + 1) ≡ o.marks
    unfolding before
    marks-there h =
        run-after 32 xs (before ++ numbers) 1 (omega (arith, e))
        ∙ run-after 32 (o.level ∷ []) (run 32 o.marks 0 ++ numbers) 0 {m = 1} refl
        ∙ run-first 32 (run 32 o.marks 0) numbers (length_run 32 o.marks 0)
        ∙ run_whole 32 o.marks h

    level-there : get_or (xs ++ (before ++ numbers)) n 0 ≡ o.level
    unfolding before
    level-there = get_or_at xs o.level (run 32 o.marks 0 ++ numbers) 0 n e

    open_again : length o.marks ≡ 32 → open_at (xs ++ (open_octets o ++ ys)) n ≡ o
    unfolding open_at
    open_again h =
        rw open_parts
        (open_same o level-there (marks-there h)
        (number-there 0 o.parent first-number refl)
        (number-there 8 o.home second_number refl)
        (number-there 16 o.left third_number refl))

-- ---- a state

counts-again : (c : Counts)
    → ◌≡◌ {A = Counts} record { rows = number_of (eight_of c.rows); kept = number_of (eight_of c.kept); short = number_of (eight_of c.short); gap = number_of (eight_of c.gap) } c
counts-again c = rw (eight_again c.rows, eight_again c.kept, eight_again c.short, eight_again c.gap)

going-same : (w : Going) {s f : Bool} {d p h a n : ℕ} {l : List Open} {m : List ℕ} {c b : Counts}
    → s ≡ w.stopped → d ≡ w.depth → l ≡ w.levels → p ≡ w.place → h ≡ w.have → m ≡ w.some → a ≡ w.pass → c ≡ w.counts → f ≡ w.limited → n ≡ w.apns → b ≡ w.back
    → ◌≡◌ {A = Going} record { stopped = s; depth = d; levels = l; place = p; have = h; some = m; pass = a; counts = c; limited = f; apns = n; back = b } w
going-same w s d l p h m a c f n b = rw (s, d, l, p, h, m, a, c, f, n, b)

pieces-same : (p : Pieces) {k r c : ℕ} {e : Bool} {h : List ℕ} {w : Going}
    → k ≡ p.kind → r ≡ p.room → e ≡ p.ended → c ≡ p.count → h ≡ p.head → w ≡ p.going
    → ◌≡◌ {A = Pieces} record { kind = k; room = r; ended = e; count = c; head = h; going = w } p
pieces-same p k r e c h w = rw (k, r, e, c, h, w)

-- the levels of a state are all that are read
nths : ℕ → Going → ℕ → List Open
nths zero w i = []
nths (suc k) w i = nth w i ∷ nths k w (suc i)

opens-again : (k : ℕ) (w : Going) (i : ℕ) (xs ys : List ℕ) {n : ℕ} → length xs ≡ n → ((j : ℕ) → j < i + k → length (nth w j).marks ≡ 32) → opens_at k (xs ++ (opens_octets k w i ++ ys)) n ≡ nths k w i
unfolding opens_at opens_octets nths
opens-again zero w i xs ys e f = refl
opens-again (suc k) w i xs ys {n} e f =
    let o = open_octets (nth w i) in
    let rest = opens_octets k w (suc i) ++ ys in
    let inner : opens_at k (xs ++ (o ++ rest)) (n + level_size) ≡ nths k w (suc i)
    = ap (λ (s : List ℕ). opens_at k s (n + level_size)) (sym (append_assoc xs o rest))
    ∙ opens-again k w (suc i) (xs ++ o) ys (omega (arith, e, length-append xs o, length_open (nth w i))) (λ j l. f j (omega arith)) in
    rw (append_assoc o (opens_octets k w (suc i)) ys, open_again (nth w i) rest xs n e (f i (omega arith)), inner)

nths_are : (k : ℕ) (w : Going) (i : ℕ) → k + i ≡ length w.levels → nths k w i ≡ drop i w.levels
unfolding nths
nths_are zero w i e = let z : i ≡ length w.levels = omega (arith, e) in rw (z, drop-length w.levels)
nths_are (suc k) w i e = rw (drop-cons w.levels i no_open (omega arith), nths_are k w (suc i) (omega arith))

module _ (p : Pieces) (f : Formed p) where
  module _ (ys : List ℕ) where
    walk-again : opens_at deepest (first p ++ ys) levels_from ≡ p.going.levels → walk_in (first p ++ ys) ≡ p.going
    unfolding start_octets walk_octets watch_octets counts_octets four_of eight_of run counts_at walk_in
    walk-again e =
        let w = p.going in
        going-same w (flag-again w.stopped) (eight_again w.depth) e (eight_again w.place) (eight_again w.have) (run_whole 4 w.some f.some_four)
        (eight_again w.pass) (counts-again w.counts) (flag-again w.limited) (eight_again w.apns) (counts-again w.back)

    fields_again : walk_in (first p ++ ys) ≡ p.going → fields_in (first p ++ ys) ≡ p
    unfolding start_octets walk_octets watch_octets counts_octets four_of eight_of run fields_in
    fields_again e =
        pieces-same p (four-again p.kind) (eight_again p.room) (flag-again p.ended) (eight_again p.count) (run_whole 4 p.head f.head_four) e

  whole : (ys : List ℕ) → state_octets p ++ ys ≡ first p ++ (opens_octets deepest p.going 0 ++ ys)
  unfolding state_octets
  whole ys = append_assoc (first p) (opens_octets deepest p.going 0) ys

  all-again : (ys : List ℕ) → fields_in (state_octets p ++ ys) ≡ p
  all-again ys =
      let rest : List ℕ = opens_octets deepest p.going 0 ++ ys in
      let levels = opens-again deepest p.going 0 (first p) ys (length-first p) f.marks_all ∙ nths_are deepest p.going 0 (sym f.levels_all) in
      ap fields_in (whole ys) ∙ fields_again rest (walk-again rest levels)

  pub kept_again : (lent : List ℕ) → state_size ≤ length lent → state_in (kept_in p lent) ≡ p
  unfolding state_in
  kept_again lent h =
      let rest : List ℕ = drop state_size lent in
      let long : state_size ≤ length (state_octets p ++ rest) = omega (arith, length-append (state_octets p) rest, length-state p) in
      rw (kept_is p lent h, le-ltb (length (state_octets p ++ rest)) state_size long) (all-again rest)

opens-long : (k : ℕ) (t : List ℕ) (n : ℕ) → length (opens_at k t n) ≡ k
unfolding opens_at
opens-long zero t n = refl
opens-long (suc k) t n = ap suc (opens-long k t (n + level_size))

marks-long : (k : ℕ) (t : List ℕ) (n i : ℕ) → i < k → length (get_or (opens_at k t n) i no_open).marks ≡ 32
unfolding opens_at open_at
marks-long zero t n i l = absurd (omega arith)
marks-long (suc k) t n zero l = length_run 32 t (n + 1)
marks-long (suc k) t n (suc i) l = marks-long k t (n + level_size) i (omega arith)

pub formed : (s : List ℕ) → Formed (state_in s)
unfolding state_in fields_in walk_in
formed s = record {
  head_four = length_run 4 _ 21;
  some_four = length_run 4 _ 50;
  levels_all = opens-long deepest _ levels_from;
  marks_all = λ i l. marks-long deepest _ levels_from i l;
}
