-- The first gap is the least: a gap at a place lies above every gap at an earlier place, and levels are checked in the order of their places. Assumes nothing.
--     level-within, groups-within   between which places the gaps of a level lie, and those of the groups of a run
--     first-least                   of two lists of checks, if the gaps of the second lie above those of the first
--     group-least                   of a group's level, the groups in it and the groups after it
use mathlib.Core.Path.{◌≡◌, refl, sym, ◌∙◌}
use mathlib.Core.Bool.{Bool, true, false, cond, not, ◌&&◌}
use mathlib.Core.List.{List, [], ◌∷◌, ◌++◌, append_assoc}
use Prim.Native.Nat.{ℕ, zero, suc, ◌+◌, ◌*◌, ◌≤◌, ◌<◌}
use native.Mathlib.Omega.{arith}
use native.Mathlib.Nat.{add-zero, add-suc, suc-add}
use lib.Dec.{eqb}
use lib.ListN.{length}
use Rattle.rules.specs.Listings.{Book, Line, listing}
use Rattle.rules.specs.Standing.{Item}
use Rattle.rules.specs.Met.{Met}
use Rattle.rules.specs.Verdicts.{is_mandatory, refuses, first, level_checks, inside_checks, group_checks}
use Rattle.rules.specs.Sound.{sound}
use Rattle.rules.specs.declared.Verdict.{Verdict}
use Rattle.rules.proofs.Checks.{first_append}
use Rattle.rules.proofs.Rows.{Every}
use Rattle.rules.proofs.Places.{Ranged, ranged}
use Rattle.standings.specs.Faults.{lesser}
use Rattle.taking.specs.Lacks.{fault}
use Rattle.reading.specs.Gaps.{packed}
use Rattle.reading.proofs.Lesser.{lesser-none, none-lesser, lesser-left}
use Rattle.reading.proofs.Marks.{missing, EachMust, Must, must-line, checks_by}

-- what a list of checks names
abbrev pub gap_of : List Verdict → ℕ
gap_of vs = packed (first vs)

-- what the groups lack among the rows from number n + 1 on
abbrev pub group_gap : Book → ℕ → List Item → ℕ → List Item → ℕ
group_gap b k all n es = gap_of (group_checks b k all n es)

-- no gap, or one at a place from lo on and before hi
pub record Within (lo hi x : ℕ) : Type 0 where
  pub low : (x ≡ 0 → ⊥) → lo * 4096 < x
  pub high : x ≤ hi * 4096

none_within : (lo hi : ℕ) → Within lo hi 0
none_within lo hi = record { low = λ z. absurd (z refl); high = (omega arith) }

pub within_more : {lo hi lo' hi' x : ℕ} → Within lo hi x → lo' ≤ lo → hi ≤ hi' → Within lo' hi' x
within_more w a c = record { low = λ z. omega (arith, w.low z); high = omega (arith, w.high) }

-- ---- one level

missing-within : (k : ℕ) (has : ℕ → Line → Bool) (o : ℕ) (ls : List Line) → EachMust k (λ j l. Must k l) ls → Within o (o + 1) (missing k has o ls)
unfolding missing fault
missing-within k has o [] e = none_within o (o + 1)
missing-within k has o (l ∷ ls) e = go (is_mandatory k l) (not (has 0 l)) refl (missing-within k (λ j. has (suc j)) o ls (λ j a. e (suc j) (omega arith)))
  where
    rest : ℕ
    rest = missing k (λ j. has (suc j)) o ls

    go : (c d : Bool) → is_mandatory k l ≡ c → Within o (o + 1) rest → Within o (o + 1) (cond (c && d) (fault o l.typ l.inst) rest)
    go true true z w = let y = e 0 (omega arith) z in record { low = λ u. omega arith; high = omega (arith, y.typ, y.inst) }
    go true false z w = w
    go false d z w = w

-- ---- checks one after the other

within_append : (lo hi : ℕ) (us vs : List Verdict) → Within lo hi (gap_of us) → Within lo hi (gap_of vs) → Within lo hi (gap_of (us ++ vs))
within_append lo hi us vs a c = rw (first_append us vs) (go (refuses (first us)))
  where
    go : (r : Bool) → Within lo hi (packed (cond r (first us) (first vs)))
    go true = a
    go false = c

pub first-least : (us vs : List Verdict) {lo hi : ℕ} (c : ℕ) → Within lo c (gap_of us) → Within c hi (gap_of vs)
    → gap_of (us ++ vs) ≡ lesser (gap_of us) (gap_of vs)
unfolding packed fault
first-least us vs c a w = rw (first_append us vs) (go (first us) (refuses (first us)) refl a.high)
  where
    below : (x y : ℕ) {hi : ℕ} → 0 < x → x ≤ c * 4096 → Within c hi y → x ≡ lesser x y
    below x zero p l h = sym (lesser-none x)
    below x (suc y) p l h = sym (lesser-left x (suc y) p (omega (arith, h.low (λ z. omega arith))))

    go : (u : Verdict) (r : Bool) → refuses u ≡ r → packed u ≤ c * 4096 → packed (cond r u (first vs)) ≡ lesser (packed u) (gap_of vs)
    go u true e l = below (packed u) (gap_of vs) (rw e (omega arith)) l w
    go u false e l = rw e (sym (none-lesser (gap_of vs)))

-- ---- the levels of a run

groups_append : (b : Book) (k : ℕ) (all : List Item) (n : ℕ) (is es : List Item)
    → group_checks b k all n (is ++ es) ≡ group_checks b k all n is ++ group_checks b k all (n + length is) es
unfolding group_checks
groups_append b k all n [] es = rw (add-zero n)
groups_append b k all n (i ∷ is) es =
    rw (groups_append b k all (suc n) is es, suc-add, ← add-suc) (sym (append_assoc (inside_checks b k all (suc n) i) (group_checks b k all (suc n) is) _))

module _ (b : Book) (fine : sound b ≡ true) (k : ℕ) (all : List Item) where
  pub level-within : (p o v : ℕ) → Within o (o + 1) (gap_of (level_checks k all p o (listing b v)))
  level-within p o v = rw (checks_by k all p o (listing b v)) (missing-within k _ o (listing b v) (must-line b fine k v))

  inside-within : (p : ℕ) (i : Item) → Within i.place (i.place + 1) (gap_of (inside_checks b k all p i))
  unfolding first packed
  inside-within p i = go (eqb i.inside 0)
    where
      go : (c : Bool) → Within i.place (i.place + 1) (gap_of (cond c [] (level_checks k all p i.place (listing b i.inside))))
      go true = none_within i.place (i.place + 1)
      go false = level-within p i.place i.inside

  ranged-within : (p c at end top n : ℕ) (es : List Item) → Every (Ranged p c at end top) es → Within at end (group_gap b k all n es)
  unfolding group_checks Every first packed
  ranged-within p c at end top n [] a = none_within at end
  ranged-within p c at end top n (i ∷ es) a =
      within_append at end (inside_checks b k all (suc n) i) (group_checks b k all (suc n) es)
      (within_more (inside-within (suc n) i) a.0.begins (omega (arith, a.0.finishes)))
      (ranged-within p c at end top (suc n) es a.1)

  pub groups-within : {v : ℕ} {m : List ℕ} {p n at : ℕ} {xs : List ℕ} {es : List Item} → Met b k v m p n at xs es → p ≤ n
      → Within at (at + length xs) (group_gap b k all n es)
  groups-within {p = p} {n} {at} {xs} {es} d le = ranged-within p n at (at + length xs) (n + length es) n es (ranged d le)

  pub group-least : {v g p n at₁ at₂ : ℕ} {m m' ys zs : List ℕ} {is es : List Item}
      → Met b k g m (n + 1) (n + 1) at₁ ys is → Met b k v m' p (n + 1 + length is) at₂ zs es → p ≤ n → (at : ℕ) → at < at₁ → at₁ + length ys ≤ at₂
      → gap_of (level_checks k all (n + 1) at (listing b g) ++ group_checks b k all (n + 1) (is ++ es))
      ≡ lesser (gap_of (level_checks k all (n + 1) at (listing b g))) (lesser (group_gap b k all (n + 1) is) (group_gap b k all (n + 1 + length is) es))
  group-least {g = g} {n = n} {at₂ = at₂} {zs = zs} {is} {es} d f le at l past =
      let within = group_checks b k all (n + 1) is in
      let behind = group_checks b k all (n + 1 + length is) es in
      let w : Within (at + 1) at₂ (gap_of (group_checks b k all (n + 1) is)) = within_more (groups-within d (omega arith)) (omega arith) past in
      let y = groups-within f (omega arith) in
      rw (groups_append b k all (n + 1) is es)
      (first-least (level_checks k all (n + 1) at (listing b g)) (within ++ behind) (at + 1) (level-within (n + 1) at g)
      (within_append (at + 1) (at₂ + length zs) within behind (within_more w (omega arith) (omega arith)) (within_more y (omega arith) (omega arith)))
      ∙ rw (first-least within behind at₂ w y))
