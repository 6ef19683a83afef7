-- The octets of an element's header, its first value octet, and what they do to the walk: one law for each way out of the code. Assumes nothing.
use mathlib.Core.Path.{◌≡◌, refl, ap, ◌∙◌}
use mathlib.Core.Bool.{true, false, cond}
use Rattle.std.specs.Prelude.{Option, None}
use mathlib.Core.List.{List, [], ◌∷◌}
use Prim.Native.Nat.{ℕ, suc, ◌+◌, ◌≤◌, ◌<◌}
use native.Mathlib.Omega.{arith}
use borrow.Author.Tests.{eq-eqb, ne_eqb, lt-ltb, le-ltb}
use lib.Dec.{eqb, ltb}
use lib.ListN.{length, get_or, take, drop}
use Rattle.rules.specs.Framing.{element_header, value_length}
use Rattle.pieces.specs.declared.Going.{Going}
use Rattle.pieces.specs.declared.Stride.{Stride}
use Rattle.pieces.specs.Coded.{top_of, stop, Fed, fed_with, take_by, gather_by, pass_one, headed_by, eat_by, eat_all_by}
use Rattle.pieces.proofs.Accepting.{cond_yes, cond_no}
use Rattle.pieces.specs.Agreements.{Wrote, Takes, Ready, and_then, HeadStrode, Strode}

-- ---- a header is whole

module _ (k : ℕ) (w : Going) (rows : List ℕ) where
  headed-cut : (top_of w).left < element_header + value_length w.some → headed_by k w rows ≡ fed_with (stop w) rows
  unfolding headed_by
  headed-cut l = cond_yes _ _ _ (lt-ltb _ _ l)

  headed-empty : element_header + value_length w.some ≤ (top_of w).left → value_length w.some ≡ 0 → headed_by k w rows ≡ take_by k w 0 0 rows
  unfolding headed_by
  headed-empty l e = cond_no _ _ _ (le-ltb _ _ l) ∙ cond_yes _ _ _ (eq-eqb _ _ e)

  headed-waits : element_header + value_length w.some ≤ (top_of w).left → (value_length w.some ≡ 0 → ⊥) → headed_by k w rows ≡ fed_with w rows
  unfolding headed_by
  headed-waits l e = cond_no _ _ _ (le-ltb _ _ l) ∙ cond_no _ _ _ (ne_eqb _ _ e)

  -- ---- one octet

  module _ (x : ℕ) where
    pub ate_stopped : w.stopped ≡ true → eat_by k w x rows ≡ fed_with w rows
    unfolding eat_by
    ate_stopped e = cond_yes _ _ _ e

    module _ (go : w.stopped ≡ false) where
      pub ate_pass : 0 < w.pass → eat_by k w x rows ≡ fed_with (pass_one w) rows
      unfolding eat_by
      ate_pass l = cond_no _ _ _ go ∙ cond_yes _ _ _ (lt-ltb _ _ l)

      module _ (none : w.pass ≡ 0) where
        pub ate_none : w.depth ≡ 0 → eat_by k w x rows ≡ fed_with w rows
        unfolding eat_by
        ate_none e = cond_no _ _ _ go ∙ cond_no _ _ _ (le-ltb 0 w.pass (omega arith)) ∙ cond_yes _ _ _ (eq-eqb _ _ e)

        module _ (some : 0 < w.depth) where
          past : eat_by k w x rows ≡ cond (ltb w.have 3) (fed_with (gather_by w x) rows) (cond (eqb w.have 3) (headed_by k (gather_by w x) rows) (take_by k w x 1 rows))
          unfolding eat_by
          past = cond_no _ _ _ go ∙ cond_no _ _ _ (le-ltb 0 w.pass (omega arith)) ∙ cond_no _ _ _ (ne_eqb w.depth 0 (λ z. omega arith))

          pub ate_few : w.have < 3 → eat_by k w x rows ≡ fed_with (gather_by w x) rows
          ate_few l = past ∙ cond_yes _ _ _ (lt-ltb _ _ l)

          pub ate_three : w.have ≡ 3 → eat_by k w x rows ≡ headed_by k (gather_by w x) rows
          ate_three e = past ∙ cond_no _ _ _ (le-ltb w.have 3 (omega arith)) ∙ cond_yes _ _ _ (eq-eqb _ _ e)

          ate_four : 3 < w.have → eat_by k w x rows ≡ take_by k w x 1 rows
          ate_four l = past ∙ cond_no _ _ _ (le-ltb w.have 3 (omega arith)) ∙ cond_no _ _ _ (ne_eqb w.have 3 (λ z. omega arith))

-- ---- what is written

-- the same of a function that is equal everywhere
pub wrote_as : {r : Going} {row : Option (List ℕ)} {n : ℕ} (f g : List ℕ → Fed) → ((rows : List ℕ) → g rows ≡ f rows) → Wrote r row n f → Wrote r row n g
wrote_as f g e w = record {
  going = λ rows. ap (λ (t : Fed). t.going) (e rows) ∙ w.going rows;
  rows_left = λ rows. ap (λ (t : Fed). t.rows) (e rows) ∙ w.rows_left rows;
}

-- nothing
pub wrote_none : (r : Going) (n : ℕ) → Wrote r None n (fed_with r)
wrote_none r n = record { going = λ rows. refl; rows_left = λ rows. refl }

-- ---- the ways out of `headed`

-- nothing of the rest is taken
abbrev pub waited : Going → Stride Going
waited w = record { state = w; taken = 0; row = None }

-- one octet more was taken before
abbrev pub with_taken : Stride Going → ℕ → Stride Going
with_taken s n = record { state = s.state; taken = n + s.taken; row = s.row }

module _ (k : ℕ) (w : Going) (rest : List ℕ) where
  pub strode_cut : (top_of w).left < element_header + value_length w.some → HeadStrode k w rest (waited (stop w))
  unfolding eat_all_by
  strode_cut lt = record {
    most = omega arith;
    few = omega arith;
    wrote = wrote_as (fed_with (stop w)) _ (λ rows. ap (and_then k []) (headed-cut k w rows lt)) (wrote_none (stop w) w.counts.rows);
  }

  pub strode_waits : element_header + value_length w.some ≤ (top_of w).left → (value_length w.some ≡ 0 → ⊥) → HeadStrode k w rest (waited w)
  unfolding eat_all_by
  strode_waits le n = record {
    most = omega arith;
    few = omega arith;
    wrote = wrote_as (fed_with w) _ (λ rows. ap (and_then k []) (headed-waits k w rows le n)) (wrote_none w w.counts.rows);
  }

  pub strode_empty : {r : Stride Going} → element_header + value_length w.some ≤ (top_of w).left → value_length w.some ≡ 0 → Takes k w 0 0 r → HeadStrode k w rest r
  unfolding eat_all_by
  strode_empty {r} le e t = record {
    most = omega (arith, t.taken);
    few = omega (arith, t.taken);
    wrote = rw t.taken (wrote_as (take_by k w 0 0) _ (λ rows. ap (and_then k []) (headed-empty k w rows le e)) t.wrote);
  }

  pub strode_first : {r : Stride Going} → Ready w → w.have ≡ 4 → 0 < length rest → element_header + value_length w.some ≤ (top_of w).left → (value_length w.some ≡ 0 → ⊥)
      → Takes k w (get_or rest 0 0) 1 r → HeadStrode k w rest r
  unfolding eat_all_by
  strode_first {r} ready four some le n t =
      let d : take 1 rest ≡ get_or rest 0 0 ∷ [] = first_of rest some in record {
        most = omega (arith, t.taken);
        few = omega (arith, t.taken);
        wrote = rw t.taken (wrote_as (take_by k w (get_or rest 0 0) 1) _
            (λ rows. rw d (ap (and_then k (get_or rest 0 0 ∷ [])) (headed-waits k w rows le n)
            ∙ ate_four k w rows (get_or rest 0 0) ready.going ready.none ready.inside (omega arith))) t.wrote);
      }
    where
      first_of : (xs : List ℕ) → 0 < length xs → take 1 xs ≡ get_or xs 0 0 ∷ []
      first_of [] l = absurd (omega arith)
      first_of (x ∷ xs) l = refl

-- ---- the ways out of `one`

front : (n : ℕ) (xs : List ℕ) → 0 < length xs → take (1 + n) xs ≡ get_or xs 0 0 ∷ take n (drop 1 xs)
front n [] l = absurd (omega arith)
front n (y ∷ xs) l = let e : 1 + n ≡ suc n = omega arith in rw e

module _ (k : ℕ) (w : Going) (part : List ℕ) (ready : Ready w) (some : 0 < length part) where
  pub one_few : {g : Going} → w.have < 3 → g ≡ gather_by w (get_or part 0 0) → Strode k w part (record { state = g; taken = 1; row = None })
  unfolding eat_all_by gather_by
  one_few {g} h e =
      let d : take 1 part ≡ get_or part 0 0 ∷ [] = front 0 part some in record {
        least = omega arith;
        most = omega arith;
        wrote = rw e (wrote_as (fed_with (gather_by w (get_or part 0 0))) _
            (λ rows. rw d (ate_few k w rows (get_or part 0 0) ready.going ready.none ready.inside h)) (wrote_none (gather_by w (get_or part 0 0)) w.counts.rows));
      }

  pub one_four : {r : Stride Going} → 3 < w.have → Takes k w (get_or part 0 0) 1 r → Strode k w part r
  unfolding eat_all_by
  one_four {r} h t =
      let d : take 1 part ≡ get_or part 0 0 ∷ [] = front 0 part some in record {
        least = omega (arith, t.taken);
        most = omega (arith, t.taken);
        wrote = rw t.taken (wrote_as (take_by k w (get_or part 0 0) 1) _
            (λ rows. rw d (ate_four k w rows (get_or part 0 0) ready.going ready.none ready.inside h)) t.wrote);
      }

  pub one_three : {g : Going} {s : Stride Going} → w.have ≡ 3 → g ≡ gather_by w (get_or part 0 0) → HeadStrode k g (drop 1 part) s → length (drop 1 part) < length part
      → Strode k w part (with_taken s 1)
  unfolding eat_all_by gather_by
  one_three {g} {s} h e t l =
      let t' : HeadStrode k (gather_by w (get_or part 0 0)) (drop 1 part) s = rw e at t in
      record {
        least = omega arith;
        most = omega (arith, t'.most);
        wrote = wrote_as _ _
            (λ rows. rw (front s.taken part some) (ap (and_then k (take s.taken (drop 1 part))) (ate_three k w rows (get_or part 0 0) ready.going ready.none ready.inside h))) t'.wrote;
      }

-- ---- what gathering keeps

pub ready_gather : {w : Going} (x : ℕ) → Ready w → Ready (gather_by w x)
unfolding gather_by
ready_gather x r = record { going = r.going; none = r.none; inside = r.inside }

pub have_gather : (w : Going) (x : ℕ) → w.have ≡ 3 → (gather_by w x).have ≡ 4
unfolding gather_by
have_gather w x e = omega arith
