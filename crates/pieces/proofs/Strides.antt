-- Octets of the elements that go by one step: those that are passed over, a header that stands whole in the part, and those that change nothing.
-- Assumes nothing.
use mathlib.Core.Path.{◌≡◌, refl, sym, ap, ◌∙◌}
use mathlib.Core.Bool.{Bool, true, false}
use Rattle.std.specs.Prelude.{None}
use mathlib.Core.List.{List, [], ◌∷◌}
use Prim.Native.Nat.{ℕ, suc, ◌+◌, ◌-◌, ◌≤◌, ◌<◌}
use native.Mathlib.Omega.{arith}
use lib.ListN.{length, get_or, set, take, drop}
use lib.Seq.{length-take-le}
use Rattle.pieces.specs.declared.Going.{Going}
use Rattle.pieces.specs.declared.Stride.{Stride}
use Rattle.pieces.specs.Coded.{fed_with, gather_by, gather_four, pass_one, pass_by, headed_by, eat_by, eat_all_by}
use Rattle.pieces.specs.Fits.{Sized}
use Rattle.pieces.specs.Agreements.{Ready, and_then, HeadStrode, Strode}
use Rattle.pieces.proofs.Headed.{ate_stopped, ate_pass, ate_none, ate_few, ate_three, wrote_as, wrote_none, with_taken}

-- ---- passed over

pass-none : (w : Going) → pass_by w 0 ≡ w
unfolding pass_by
pass-none w = let e : w.pass - 0 ≡ w.pass = omega arith in rw e

pass-more : (w : Going) (n : ℕ) → pass_by (pass_one w) n ≡ pass_by w (suc n)
unfolding pass_by pass_one
pass-more w n = let e : w.pass - 1 - n ≡ w.pass - suc n = omega arith in rw e

all_pass : (k : ℕ) (w : Going) (xs rows : List ℕ) → w.stopped ≡ false → length xs ≤ w.pass → eat_all_by k w xs rows ≡ fed_with (pass_by w (length xs)) rows
unfolding eat_all_by pass_one
all_pass k w [] rows s l = ap (λ (g : Going). fed_with g rows) (sym (pass-none w))
all_pass k w (x ∷ xs) rows s l =
    let e : eat_by k w x rows ≡ fed_with (pass_one w) rows = ate_pass k w rows x s (omega arith) in
    ap (and_then k xs) e ∙ all_pass k (pass_one w) xs rows s (omega arith) ∙ ap (λ (g : Going). fed_with g rows) (pass-more w (length xs))

pub strode_pass : (k : ℕ) (w : Going) (part : List ℕ) (n : ℕ) → w.stopped ≡ false → 0 < n → n ≤ w.pass → n ≤ length part
    → Strode k w part (record { state = pass_by w n; taken = n; row = None })
unfolding pass_by
strode_pass k w part n s some left right =
    let len : length (take n part) ≡ n = length-take-le n part right in
    let is : (rows : List ℕ) → eat_all_by k w (take n part) rows ≡ fed_with (pass_by w n) rows
    = λ rows. all_pass k w (take n part) rows s (omega (arith, len, left)) ∙ ap (λ (j : ℕ). fed_with (pass_by w j) rows) len in
    record {
      least = some;
      most = right;
      wrote = wrote_as (fed_with (pass_by w n)) _ is (wrote_none (pass_by w n) w.counts.rows);
    }

-- ---- nothing is walked

pub all-idle : (k : ℕ) (w : Going) (xs rows : List ℕ) → (w.stopped ≡ false → (w.pass ≡ 0) × (w.depth ≡ 0)) → eat_all_by k w xs rows ≡ fed_with w rows
unfolding eat_all_by
all-idle k w [] rows h = refl
all-idle k w (x ∷ xs) rows h = ap (and_then k xs) (one-idle w.stopped refl) ∙ all-idle k w xs rows h
  where
    one-idle : (c : Bool) → w.stopped ≡ c → eat_by k w x rows ≡ fed_with w rows
    one-idle true e = ate_stopped k w rows x e
    one-idle false e = ate_none k w rows x e (h e).0 (h e).1

-- ---- a whole header

sets-four : (a b c d n : ℕ) (some : List ℕ) → n ≡ 0 → length some ≡ 4 → set (set (set (set some n a) (n + 1) b) (n + 1 + 1) c) (n + 1 + 1 + 1) d ≡ a ∷ b ∷ c ∷ d ∷ []
sets-four a b c d n some e l = rw e (go some l)
  where
    go : (some : List ℕ) → length some ≡ 4 → set (set (set (set some 0 a) 1 b) 2 c) 3 d ≡ a ∷ b ∷ c ∷ d ∷ []
    go [] l = absurd (omega arith)
    go (x ∷ []) l = absurd (omega arith)
    go (x ∷ y ∷ []) l = absurd (omega arith)
    go (x ∷ y ∷ z ∷ []) l = absurd (omega arith)
    go (x ∷ y ∷ z ∷ u ∷ []) l = refl
    go (x ∷ y ∷ z ∷ u ∷ v ∷ xs) l = absurd (omega arith)

module _ (k : ℕ) (w : Going) (ready : Ready w) (none : w.have ≡ 0) (bytes : length w.some ≡ 4) where
  gathers : (a b c d : ℕ) → gather_by (gather_by (gather_by (gather_by w a) b) c) d ≡ gather_four w (a ∷ b ∷ c ∷ d ∷ [])
  unfolding gather_by gather_four
  gathers a b c d =
      let h : w.have + 1 + 1 + 1 + 1 ≡ 4 = omega arith in
      let made : ℕ → List ℕ → Going
      = λ n some. record { stopped = w.stopped; depth = w.depth; levels = w.levels; place = w.place; have = n; some = some; pass = w.pass; counts = w.counts; limited = w.limited; apns = w.apns; back = w.back } in
      ap (λ (n : ℕ). made n (set (set (set (set w.some w.have a) (w.have + 1) b) (w.have + 1 + 1) c) (w.have + 1 + 1 + 1) d)) h
      ∙ ap (made 4) (sets-four a b c d w.have w.some none bytes)

  ate_header : (a b c d : ℕ) (xs rows : List ℕ) → eat_all_by k w (a ∷ b ∷ c ∷ d ∷ xs) rows ≡ and_then k xs (headed_by k (gather_four w (a ∷ b ∷ c ∷ d ∷ [])) rows)
  unfolding eat_all_by gather_by
  ate_header a b c d xs rows =
      let w1 = gather_by w a in
      let w2 = gather_by w1 b in
      let w3 = gather_by w2 c in
      ap (and_then k (b ∷ c ∷ d ∷ xs)) (ate_few k w rows a ready.going ready.none ready.inside (omega arith))
      ∙ ap (and_then k (c ∷ d ∷ xs)) (ate_few k w1 rows b ready.going ready.none ready.inside (omega arith))
      ∙ ap (and_then k (d ∷ xs)) (ate_few k w2 rows c ready.going ready.none ready.inside (omega arith))
      ∙ ap (and_then k xs) (ate_three k w3 rows d ready.going ready.none ready.inside (omega arith) ∙ ap (λ (g : Going). headed_by k g rows) (gathers a b c d))

front-four : (n : ℕ) (xs : List ℕ) → 4 ≤ length xs → take (4 + n) xs ≡ get_or xs 0 0 ∷ get_or xs 1 0 ∷ get_or xs 2 0 ∷ get_or xs 3 0 ∷ take n (drop 4 xs)
front-four n [] l = absurd (omega arith)
front-four n (a ∷ []) l = absurd (omega arith)
front-four n (a ∷ b ∷ []) l = absurd (omega arith)
front-four n (a ∷ b ∷ c ∷ []) l = absurd (omega arith)
front-four n (a ∷ b ∷ c ∷ d ∷ xs) l = let e : 4 + n ≡ suc (suc (suc (suc n))) = omega arith in rw e

-- the first four octets
abbrev pub Four : List ℕ → List ℕ
Four xs = get_or xs 0 0 ∷ get_or xs 1 0 ∷ get_or xs 2 0 ∷ get_or xs 3 0 ∷ []

pub strode_four : (k : ℕ) (w : Going) (part : List ℕ) {s : Stride Going} → Ready w → w.have ≡ 0 → length w.some ≡ 4 → 4 ≤ length part
    → HeadStrode k (gather_four w (Four part)) (drop 4 part) s → length (drop 4 part) + 4 ≡ length part → Strode k w part (with_taken s 4)
unfolding gather_four
strode_four k w part {s} ready none bytes l t n =
    record {
      least = omega arith;
      most = omega (arith, t.most);
      wrote = wrote_as _ _
          (λ rows. rw (front-four s.taken part l)
          (ate_header k w ready none bytes (get_or part 0 0) (get_or part 1 0) (get_or part 2 0) (get_or part 3 0) (take s.taken (drop 4 part)) rows)) t.wrote;
    }

-- ---- what gathering four keeps

pub ready_four : {w : Going} (xs : List ℕ) → Ready w → Ready (gather_four w xs)
unfolding gather_four
ready_four xs r = record { going = r.going; none = r.none; inside = r.inside }

pub four_have : (w : Going) (xs : List ℕ) → (gather_four w xs).have ≡ 4
unfolding gather_four
four_have w xs = refl

pub four_sized : {k : ℕ} {w : Going} (part : List ℕ) → Sized k w → Sized k (gather_four w (Four part))
unfolding gather_four
four_sized part z = record { slots = z.slots; bytes = refl; deep = z.deep; have = omega arith; each = z.each; ends = z.ends; few = z.few; owns = z.owns; spare = z.spare; kind = z.kind }
