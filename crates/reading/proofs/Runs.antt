-- One turn of `read_run`, in terms of lists and numbers alone: the run ends, is cut, passes an element, or goes on after a group. Assumes nothing.
use mathlib.Core.Path.{◌≡◌, refl, sym, ap, ◌∙◌}
use mathlib.Core.Bool.{true, false}
use mathlib.Core.List.{List}
use Prim.Native.Nat.{ℕ, zero, suc, ◌+◌, ◌-◌, ◌≤◌, ◌<◌}
use native.Mathlib.Omega.{arith}
use lib.ListN.{length, take, drop, length-take, length-drop}
use lib.Seq.{drop-drop}
use Rattle.rules.specs.Framing.{head_of}
use Rattle.rules.specs.Listings.{book}
use Rattle.rules.specs.Standing.{fresh, entered}
use Rattle.rules.specs.Taking.{Out, cut, whole, after, inside}
use Rattle.rules.specs.Frames.{Element, element, seen, frames_of}
use Rattle.rules.specs.declared.Head.{Head}
use Rattle.rules.proofs.Walks.{walk_nil, walk-cut, walk_more}
use Rattle.rules.proofs.Covers.{group-level}
use Rattle.rules.proofs.Book.{book-sound}
use Rattle.taking.specs.Lacks.{lack_of}
use Rattle.taking.specs.Held.{Held, held, tallied, one, closed, Few, Tallied}
use Rattle.reading.specs.Scan.{shut, number, scan, scan_in, walk_of, held_of, Ran}
use Rattle.taking.specs.declared.Counts.{Counts}
use Rattle.taking.specs.declared.Tally.{Tally}
use Rattle.listings.proofs.Levels.{depth}
use Rattle.std.specs.Prelude.{⊤, Option, None, Some, Result, Ok, Err}
use Rattle.answers.specs.declared.Refusal.{Refusal}
use Rattle.answers.specs.declared.Refusal.TheVariants.{Cut}
use Rattle.taking.specs.Lent.{level_of}
use Rattle.taking.specs.declared.Inside.{Inside}

-- ---- an outcome that is known

pub ran_whole : {o : Out Held} {t t' : Tally} {n : ℕ} → t'.rows.ghost_name ≡ t.rows.ghost_name → o ≡ whole (tallied t') → Few t'.counts n → Ran (Ok tt) t t' n o
ran_whole s e f = record { same = s; answer = sym (ap walk_of e); holds = sym (ap held_of e); few = f }

pub ran_cut : {o : Out Held} {t t' : Tally} {n q : ℕ} → t'.rows.ghost_name ≡ t.rows.ghost_name → o ≡ cut q (tallied t') → Ran (Err (Cut q)) t t' n o
ran_cut s e = record { same = s; answer = sym (ap walk_of e); holds = sym (ap held_of e); few = tt }

pub ran_same : {r : Result ⊤ Refusal} {t t' : Tally} {n : ℕ} {o o' : Out Held} → o ≡ o' → Ran r t t' n o → Ran r t t' n o'
ran_same {r} {t} {t'} {n} e x = rw e at x

pub ran_is : {r r' : Result ⊤ Refusal} {t t' : Tally} {n : ℕ} {o : Out Held} → r ≡ r' → Ran r t t' n o → Ran r' t t' n o
ran_is e x = rw e at x

-- the run was begun on a tally that has the same lent table as another
pub ran_from : {r : Result ⊤ Refusal} {s t t' : Tally} {n : ℕ} {o : Out Held} → t.rows.ghost_name ≡ s.rows.ghost_name → Ran r t t' n o → Ran r s t' n o
ran_from e x = record { same = x.same ∙ e; answer = x.answer; holds = x.holds; few = x.few }

-- the run is whole: what it leaves is known
pub whole_is : (o : Out Held) (t t' : Tally) (n : ℕ) → Ran (Ok tt) t t' n o → o ≡ whole (tallied t')
whole_is (cut q s) t t' n x = let k : ◌≡◌ {A = Result ⊤ Refusal} (Ok tt) (Err (Cut q)) = x.answer in let z : ◌≡◌ {A = ℕ} 0 1 = cc in absurd (omega arith)
whole_is (whole s) t t' n x = rw x.holds

-- the run is cut: what would have followed does not matter
cut-after : (o : Out Held) (f : Held → Out Held) (e : Refusal) (t t' : Tally) (n m : ℕ) → Ran (Err e) t t' n o → Ran (Err e) t t' m (after o f)
cut-after (cut p s) f e t t' n m x = record { same = x.same; answer = x.answer; holds = x.holds; few = tt }
cut-after (whole s) f e t t' n m x = let w : ◌≡◌ {A = Result ⊤ Refusal} (Err e) (Ok tt) = x.answer in let z : ◌≡◌ {A = ℕ} 0 1 = cc in absurd (omega arith)

-- ---- the run ends, or is cut

pub ends : (k v : ℕ) (m : List ℕ) (p o base : ℕ) (part : List ℕ) (at : ℕ) (s : Held) → length part ≤ at
    → scan k v m p o (base + at) (drop at part) s ≡ whole (shut k s v m o)
ends k v m p o base part at s h = walk_nil book k Held one (shut k) number v m p o (base + at) (drop at part) s (simp length-drop (omega arith))

pub breaks : (k v : ℕ) (m : List ℕ) (p o base : ℕ) (part : List ℕ) (at : ℕ) (s : Held) → at < length part → (head_of (drop at part)).whole ≡ false
    → scan k v m p o (base + at) (drop at part) s ≡ cut (base + at) s
unfolding seen
breaks k v m p o base part at s h e = walk-cut book k Held one (shut k) number v m p o (base + at) (drop at part) s (simp length-drop (omega arith)) e

-- ---- entering

pub no_group : (k at : ℕ) (xs : List ℕ) (s : Held) → scan_in k 0 at xs s ≡ whole s
unfolding inside
no_group k at xs s = refl

pub some-group : (k g at : ℕ) (xs : List ℕ) (s : Held) → 0 < g → scan_in k g at xs s ≡ scan k g fresh s.counts.rows at (at + 4) xs s
unfolding inside
some-group k zero at xs s h = absurd (omega arith)
some-group k (suc g) at xs s h = refl

-- the level of an inside is one of the listings
pub inner-low : (k v : ℕ) (m : List ℕ) (h : Element) (x : ℕ) → x ≡ entered book k v m h → x < length book.levels
inner-low k v m h zero e = omega (arith, depth)
inner-low k v m h (suc g) e = omega (arith, group-level book book-sound k v m h g (sym e))

-- a part of a run is no longer than the run
pub group-within : (part : List ℕ) (at len : ℕ) → length (take (at + 4 + len - (at + 4)) (drop (at + 4) part)) ≤ length part
group-within part at len = simp (length-take, length-drop) (omega arith)

-- ---- one element

module _ {k v : ℕ} {m m' : List ℕ} {p : ℕ} {t t₁ : Tally} {h : Head} {e : Option Inside} (o base : ℕ) (part : List ℕ) (at : ℕ)
    (lt : at < length part)
    (hh : h ≡ head_of (drop at part))
    (hw : h.whole ≡ true)
    (fits : at + 4 + h.len ≤ length part)
    (took : Tallied e m' t₁ k v m p (base + at) (element h (frames_of (take (at + 4 + h.len - (at + 4)) (drop (at + 4) part)))) t) where
  abbrev group : List ℕ
  group = take (at + 4 + h.len - (at + 4)) (drop (at + 4) part)

  pub group-length : length group ≡ h.len
  group-length = simp (length-take, length-drop) (omega arith)

  -- it stands at the head of what is left
  stands : seen (drop at part) ≡ element h (frames_of group)
  unfolding seen
  stands =
      let n : at + 4 + h.len - (at + 4) ≡ h.len = omega arith in
      rw (← hh, drop-drop 4 at part, n)

  unfolds : scan k v m p o (base + at) (drop at part) (tallied t)
      ≡ after (scan_in k (level_of e) (base + at) group (tallied t₁)) (scan k v m' p o (base + (at + 4 + h.len)) (drop (at + 4 + h.len) part))
  unfolds =
      let pos : 0 < length (drop at part) = simp length-drop (omega arith) in
      let i₁ : at + 4 + h.len - (at + 4) ≡ h.len = omega arith in
      let i₂ : base + (at + 4 + h.len) ≡ base + at + 4 + h.len = omega arith in
      let i₃ : at + 4 + h.len ≡ at + (4 + h.len) = omega arith in
      let l₁ : drop 4 (drop at part) ≡ drop (at + 4) part = drop-drop 4 at part in
      let l₂ : drop (4 + h.len) (drop at part) ≡ drop (at + 4 + h.len) part = drop-drop (4 + h.len) at part ∙ ap (λ (n : ℕ). drop n part) (sym i₃) in
      walk_more book k Held one (shut k) number v m p o (base + at) (drop at part) (tallied t) pos (ap (λ (x : Element). x.whole) stands ∙ hw)
      ∙ rw (stands, ← took.took.holds, ← took.took.marks, ← took.took.level, l₁, l₂, i₁, i₂)

  -- it is not entered
  pub passes : e ≡ None
      → scan k v m p o (base + at) (drop at part) (tallied t) ≡ scan k v m' p o (base + (at + 4 + h.len)) (drop (at + 4 + h.len) part) (tallied t₁)
  passes z = unfolds ∙ rw (z, no_group k (base + at) group (tallied t₁))

  -- it is entered
  module _ {i : Inside} (z : e ≡ Some i) where
    pub inside-some : 0 < i.level
    inside-some = rw z at took.took.some

    pub inside-low : i.level < length book.levels
    inside-low = inner-low k v m (element h (frames_of group)) i.level (rw z at took.took.level)

    enters : scan k v m p o (base + at) (drop at part) (tallied t)
        ≡ after (scan_in k i.level (base + at) group (tallied t₁)) (scan k v m' p o (base + (at + 4 + h.len)) (drop (at + 4 + h.len) part))
    enters = unfolds ∙ rw z

    -- its inside is whole
    pub goes_on : {t₂ : Tally} {n : ℕ} → Ran (Ok tt) t₁ t₂ n (scan_in k i.level (base + at) group (tallied t₁))
        → scan k v m p o (base + at) (drop at part) (tallied t) ≡ scan k v m' p o (base + (at + 4 + h.len)) (drop (at + 4 + h.len) part) (tallied t₂)
    goes_on {t₂} {n} x = enters ∙ rw (whole_is (scan_in k i.level (base + at) group (tallied t₁)) t₁ t₂ n x)

    -- its inside is cut
    pub stops : {f : Refusal} {t₂ : Tally} {n j : ℕ} → Ran (Err f) t₁ t₂ n (scan_in k i.level (base + at) group (tallied t₁))
        → Ran (Err f) t t₂ j (scan k v m p o (base + at) (drop at part) (tallied t))
    stops {f} {t₂} {n} {j} x = ran_same (sym enters) (ran_from took.same (cut-after (scan_in k i.level (base + at) group (tallied t₁)) _ f t₁ t₂ n j x))

-- ---- what closing the level leaves

pub shut-is : (k : ℕ) (c c' : Counts) (rows : List ℕ) (v : ℕ) (m : List ℕ) (o : ℕ) → c' ≡ closed c (lack_of book k v m o) → whole (shut k (held c rows) v m o) ≡ whole (held c' rows)
unfolding shut
shut-is k c c' rows v m o e = rw e

pub few-closed : (c c' : Counts) (l : ℕ) {n j : ℕ} → c' ≡ closed c l → Few c n → n ≤ j → Few c' j
unfolding closed
few-closed c c' l e f h = rw e (record { kept = f.kept; rows = omega (arith, f.rows) })

-- ---- the loop's invariant: the walk of what is left, from what is held now, is the walk of the whole part from what was held at entry

pub record Turning (k v p o base : ℕ) (part : List ℕ) (t₀ t : Tally) (seen : List ℕ) (at : ℕ) : Type 0 where
  pub passed : at ≤ length part
  pub few : Few t.counts (base + at)
  pub same : t.rows.ghost_name ≡ t₀.rows.ghost_name
  pub goes : scan k v seen p o (base + at) (drop at part) (tallied t) ≡ scan k v fresh p o base part (tallied t₀)
