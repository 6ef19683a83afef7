-- The gap that the walk finds by marks, the least over all levels as they end, is the first that check 12 names over the elements: by induction over
-- what is met, a level's elements are counted by its marks one by one, and levels stand in the order of their places. Assumes nothing.
--     made-gap   what a run adds to the least gap so far
--     gap_is     what the walk of a whole body comes to
use mathlib.Core.Path.{◌≡◌, refl, sym, ap, ◌∙◌}
use mathlib.Core.Bool.{true}
use mathlib.Core.List.{List, [], ◌∷◌, ◌++◌}
use Prim.Native.Nat.{ℕ, suc, ◌+◌, ◌≤◌, ◌<◌}
use native.Mathlib.Omega.{arith}
use native.Mathlib.Numerals.{add-one}
use native.Mathlib.Nat.{zero-add, le_refl}
use lib.ListN.{length, take, drop, length-replicate}
use lib.Dec.{eqb-suc-zero}
use Rattle.rules.specs.Framing.{element_header}
use Rattle.rules.specs.Listings.{Book, listing}
use Rattle.rules.specs.Standing.{Item, most_lines, fresh, item_of, marked, entered}
use Rattle.rules.specs.Taking.{whole, items_of}
use Rattle.rules.specs.Met.{At, Met, ends, alone, group}
use Rattle.rules.specs.Verdicts.{first, level_checks, group_checks, lack_checks, lack_verdict}
use Rattle.rules.specs.Sound.{sound}
use Rattle.rules.specs.Frames.{Element}
use Rattle.rules.proofs.Heads.{fits, value-length}
use Rattle.rules.proofs.Mets.{made, made-number, met-walk, whole-met}
use Rattle.rules.proofs.Standings.{marked-length}
use Rattle.standings.specs.Faults.{lesser}
use Rattle.taking.specs.Lacks.{lack_of}
use Rattle.reading.specs.Gaps.{packed, Gap, gap_one, gap_shut, gap_number, gap_walk}
use Rattle.reading.proofs.Lesser.{none-lesser, lesser_comm, lesser_assoc}
use Rattle.reading.proofs.Marks.{lack_with, by-marks, by_rows, same_rows, with_mark}
use Rattle.reading.proofs.Kept.{Local, local_tail, own-level, in_group, local_inside, local_after}
use Rattle.reading.proofs.Firsts.{within_more, level-within, groups-within, first-least, gap_of, group_gap, group-least}

shuffle : (a g₁ l₁ g₂ l₂ : ℕ) → lesser (lesser a (lesser g₁ l₁)) (lesser g₂ l₂) ≡ lesser a (lesser (lesser l₁ (lesser g₁ g₂)) l₂)
shuffle a g₁ l₁ g₂ l₂ = rw (lesser_comm g₁ l₁) (simp lesser_assoc)

-- what the walk makes of a whole run; o is the place of its level
abbrev gap_made : {b : Book} {k v : ℕ} {m : List ℕ} {p n at : ℕ} {xs : List ℕ} {es : List Item} → Met b k v m p n at xs es → ℕ → Gap → Gap
gap_made {b} {k} d o s = made b k Gap gap_one (gap_shut b k) (gap_number b k) d o s

own-parent : (b : Book) (k v : ℕ) (m : List ℕ) (p at n : ℕ) (h : Element) → p ≤ n → (item_of b k v m p at h).parent ≤ n
unfolding item_of
own-parent b k v m p at n h le = le

module _ (b : Book) (fine : sound b ≡ true) (k : ℕ) (all : List Item) where
  no_groups : (n : ℕ) → group_gap b k all n [] ≡ 0
  unfolding group_checks first packed
  no_groups n = refl

  alone-gap : (n v : ℕ) (m : List ℕ) (p at : ℕ) (h : Element) (es : List Item) → entered b k v m h ≡ 0
      → group_gap b k all n (item_of b k v m p at h ∷ es) ≡ group_gap b k all (n + 1) es
  unfolding group_checks item_of
  alone-gap n v m p at h es e = rw (e, add-one n)

  -- a group: its own level, and the groups in it and after it
  module _ (m : List ℕ) (at : ℕ) {v p n g : ℕ} {xs : List ℕ} {is es : List Item} (h : Element) (a : At xs h) (e : entered b k v m h ≡ suc g)
      (d : Met b k (suc g) fresh (n + 1) (n + 1) (at + element_header) (take h.len (drop element_header xs)) is)
      (t : Met b k v (marked b k v m h) p (n + 1 + length is) (at + element_header + h.len) (drop (element_header + h.len) xs) es)
      (le : p ≤ n) (loc : Local all n (item_of b k v m p at h ∷ (is ++ es))) where
    group-head : group_gap b k all n (item_of b k v m p at h ∷ (is ++ es))
        ≡ gap_of (level_checks k all (n + 1) at (listing b (suc g)) ++ group_checks b k all (n + 1) (is ++ es))
    unfolding group_checks item_of
    group-head = rw (e, eqb-suc-zero g, add-one n)

    level-gap : gap_of (level_checks k all (n + 1) at (listing b (suc g))) ≡ lack_with b k (suc g) fresh (n + 1) at is
    level-gap =
        sym (by_rows b k (suc g) (n + 1) at all)
        ∙ same_rows b k (suc g) (n + 1) at fresh all is
        (λ c j. in_group d t le loc (own-parent b k v m p at n h le) (n + 1) c j (omega arith) (omega arith))

    group-gap : group_gap b k all n (item_of b k v m p at h ∷ (is ++ es))
        ≡ lesser (lack_with b k (suc g) fresh (n + 1) at is) (lesser (group_gap b k all (n + 1) is) (group_gap b k all (n + 1 + length is) es))
    group-gap = group-head ∙ group-least b fine k all d t le at (omega arith) (omega (arith, value-length xs h.len (fits a))) ∙ rw level-gap

    past-group : (o : ℕ) → length m ≡ most_lines → lack_with b k v m p o (item_of b k v m p at h ∷ (is ++ es)) ≡ lack_with b k v (marked b k v m h) p o es
    past-group o len = with_mark b fine k v m p o at h (is ++ es) len ∙ same_rows b k v p o (marked b k v m h) (is ++ es) es (own-level d t le)

  pub made-gap : {v : ℕ} {m : List ℕ} {p n at : ℕ} {xs : List ℕ} {es : List Item} (d : Met b k v m p n at xs es)
      → p ≤ n → length m ≡ most_lines → Local all n es → (o : ℕ) (s : Gap)
      → (gap_made d o s).gap ≡ lesser s.gap (lesser (group_gap b k all n es) (lack_with b k v m p o es))
  unfolding made
  made-gap (ends {v = v} {m = m} {p = p} {n = n}) le len loc o s = rw (by-marks b k v p o m, no_groups n, none-lesser (lack_of b k v m o))
  made-gap (alone {v = v} {m = m} {p = p} {n = n} {at = at} {es = es} h a e t) le len loc o s =
      made-gap t (omega arith) (marked-length b k v m h ∙ len) (local_tail loc (own-parent b k v m p at n h le)) o (gap_one s (item_of b k v m p at h))
      ∙ rw (alone-gap n v m p at h es e, with_mark b fine k v m p o at h es len)
  made-gap (group {v = v} {m = m} {p = p} {n = n} {at = at} {is = is} {es = es} h g a e d t) le len loc o s =
      let mine = own-parent b k v m p at n h le in
      let s₁ = gap_one s (item_of b k v m p at h) in
      let inside = made-gap d (omega arith) (length-replicate {A = ℕ} most_lines 0) (local_inside d t le loc mine) at s₁ in
      made-gap t (omega arith) (marked-length b k v m h ∙ len) (local_after d t le loc mine) o (gap_made d at s₁)
      ∙ rw (inside, group-gap m at h a e d t le loc, past-group m at h a e d t le loc o len)
      (shuffle s.gap (group_gap b k all (n + 1) is) (lack_with b k (suc g) fresh (n + 1) at is)
      (group_gap b k all (n + 1 + length is) es) (lack_with b k v (marked b k v m h) p o es))

-- the least of the body's own gap and its groups' is the first
body-least : (b : Book) → sound b ≡ true → (k v at : ℕ) {xs : List ℕ} {es : List Item} → Met b k v fresh 0 0 at xs es → 0 < at
    → lesser (group_gap b k es 0 es) (lack_with b k v fresh 0 0 es) ≡ packed (lack_verdict b k v es)
unfolding lack_checks
body-least b fine k v at {es = es} d pos =
    lesser_comm (group_gap b k es 0 es) (lack_with b k v fresh 0 0 es)
    ∙ rw (by_rows b k v 0 0 es)
    (sym (first-least (level_checks k es 0 0 (listing b v)) (group_checks b k es 0 es) 1 (level-within b fine k es 0 0 v)
    (within_more (groups-within b fine k es d (omega arith)) pos (le_refl _))))

pub gap_is : (b : Book) → sound b ≡ true → (k v at : ℕ) (xs : List ℕ) (es : List Item) → items_of b k v at xs ≡ whole es → 0 < at
    → gap_walk b k v fresh 0 0 at xs (record { rows = 0; gap = 0 }) ≡ whole (record { rows = length es; gap = packed (lack_verdict b k v es) })
gap_is b fine k v at xs es e pos =
    let d = whole-met b k v at xs es e in
    let none : Gap = record { rows = 0; gap = 0 } in
    let rows : (gap_made d 0 none).rows ≡ length es
    = made-number b k Gap gap_one (gap_shut b k) (gap_number b k) (λ s i. refl) (λ s w m o. refl) d 0 none ∙ zero-add (length es) in
    let gap : (gap_made d 0 none).gap ≡ packed (lack_verdict b k v es)
    = made-gap b fine k es d (omega arith) (length-replicate {A = ℕ} most_lines 0) (record { same = λ q t j a c. refl }) 0 none
    ∙ none-lesser (lesser (group_gap b k es 0 es) (lack_with b k v fresh 0 0 es))
    ∙ body-least b fine k v at d pos in
    met-walk b k Gap gap_one (gap_shut b k) (gap_number b k) (λ s i. refl) (λ s w m o. refl) d 0 none refl
    ∙ ap whole (λ i. record { rows = rows i; gap = gap i })
