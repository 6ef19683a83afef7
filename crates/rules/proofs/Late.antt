-- Deciding from the raw frames before a group is entered is walking its inside and taking it back at its end: a group with a limit has no group inside,
-- so its inside is whole just where elements fill it, and the rows directly inside are those elements. Assumes nothing.
--     walk-late    the walk, with every group entered blind and taken back where it is void
--     late-count   whether it is void, by the rows that its inside gave        late-cut   an inside that is cut is not void
use mathlib.Core.Path.{◌≡◌, refl, sym, ap, ◌∙◌}
use mathlib.Core.Bool.{Bool, true, false, cond, not, ◌||◌}
use mathlib.Core.List.{List, [], ◌∷◌, ◌++◌}
use Prim.Native.Nat.{ℕ, zero, suc, ◌+◌, ◌≤◌, ◌<◌}
use native.Mathlib.Omega.{arith}
use borrow.Author.Tests.{eqb-true, ne_eqb, eq-eqb, ltb-true, ltb-false}
use lib.Dec.{eqb, ltb}
use lib.ListN.{length, take, drop, get_or, set}
use Rattle.rules.specs.Framing.{element_header, head_of}
use Rattle.rules.specs.Listings.{Book, Line, listing}
use Rattle.rules.specs.Frames.{Frame, Element, seen, frames_of, exceeds}
use Rattle.rules.specs.Standing.{Item, kept, void, fresh, line_number, line_in, is_listed, is_short, is_over, standing, mark_after, marked, entered, item_of}
use Rattle.rules.specs.Taking.{Out, cut, whole, after, walk, inside}
use Rattle.rules.specs.Met.{At, Met, ends, alone, group, CutAt, here, later, within, behind}
use Rattle.rules.specs.Late.{blind, taken_back, directs}
use Rattle.rules.specs.Sound.{sound, every_line, is_free, flat_lines, flat_levels, flat}
use Rattle.rules.proofs.Heads.{at_seen, at-within, fits}
use Rattle.rules.proofs.Frames.{Filled, none, more, frames-of, over-filled, none_exceed, frame_in, filled_more}
use Rattle.rules.proofs.Walks.{walk_more, in_some}
use Rattle.rules.proofs.Mets.{some-octets, made, met-walk, walk-alone}
use Rattle.rules.proofs.Lines.{and_left, and_right, every-line-at}
use Rattle.rules.proofs.Standings.{Case, is_unexpected, is_repeated, is-short, is-kept, is_void, standing_case, entered-inside}
use Rattle.rules.proofs.Rows.{Every}
use Rattle.rules.proofs.Walked.{met-walked}
use Rattle.rules.proofs.Places.{parents}
use Rattle.rules.proofs.Covers.{void-over, void-limited, limited-inside, limited-group, no_line}

-- ---- the rows directly in a run are the elements that fill it

none_direct : (p n : ℕ) (is es : List Item) → p ≤ n → Every (λ i. n + 1 ≤ i.parent) is → directs p (is ++ es) ≡ directs p es
unfolding directs Every
none_direct p n [] es l a = refl
none_direct p n (i ∷ is) es l a = rw (ne_eqb i.parent p (λ z. omega (arith, a.0))) (none_direct p n is es l a.1)

own_direct : (b : Book) (k v : ℕ) (m : List ℕ) (p at : ℕ) (h : Element) (es : List Item) → directs p (item_of b k v m p at h ∷ es) ≡ frame_in h ∷ directs p es
unfolding directs item_of
own_direct b k v m p at h es = rw (eq-eqb p p refl)

pub met-directs : {b : Book} {k v : ℕ} {m : List ℕ} {p n at : ℕ} {xs : List ℕ} {es : List Item} → Met b k v m p n at xs es → p ≤ n → Filled xs (directs p es)
unfolding directs
met-directs ends l = none
met-directs {b} {k} (alone {v = v} {m = m} {p = p} {at = at} {es = es} h a e t) l =
    rw (own_direct b k v m p at h es) (filled_more a (met-directs t (omega arith)))
met-directs {b} {k} (group {v = v} {m = m} {p = p} {n = n} {at = at} {is = is} {es = es} h g a e d t) l =
    rw (own_direct b k v m p at h (is ++ es), none_direct p n is es l (parents (met-walked d) (omega arith))) (filled_more a (met-directs t (omega arith)))

-- ---- a level with no group

abbrev pub Flat : Book → ℕ → Type 0
Flat b v = every_line (λ l. eqb l.inside 0) (listing b v) ≡ true

flat-inside : (b : Book) (k v : ℕ) (h : Element) → Flat b v → (line_in b k v h).inside ≡ 0
flat-inside b k v h f = go (is_listed b k v h) refl
  where
    go : (c : Bool) → is_listed b k v h ≡ c → (line_in b k v h).inside ≡ 0
    go true e = eqb-true _ _ (every-line-at (λ l. eqb l.inside 0) (listing b v) f (line_number b k v h) (ltb-true _ _ e))
    go false e = ap (λ (l : Line). l.inside) (no_line (listing b v) (line_number b k v h) (ltb-false _ _ e))

pub flat-alone : (b : Book) (k v : ℕ) (m : List ℕ) (h : Element) → Flat b v → entered b k v m h ≡ 0
unfolding entered
flat-alone b k v m h f = rw (flat-inside b k v h f) (go (eqb (standing b k v m h) kept))
  where
    go : (c : Bool) → ◌≡◌ {A = ℕ} (cond c 0 0) 0
    go true = refl
    go false = refl

-- octets that elements fill are a whole run of such a level
pub flat-met : (b : Book) (k v : ℕ) → Flat b v → {xs : List ℕ} {fs : List Frame} → Filled xs fs → (m : List ℕ) (p n at : ℕ) → (es : List Item) × Met b k v m p n at xs es
unfolding seen
flat-met b k v f none m p n at = ([], ends)
flat-met b k v f (more {xs = xs} w d) m p n at =
    let h = seen xs in
    let r = flat-met b k v f d (marked b k v m h) p (n + 1) (at + element_header + h.len) in
    (item_of b k v m p at h ∷ r.0, alone h (record { is = refl; whole = w }) (flat-alone b k v m h f) r.1)

-- and a run of it that is cut is not filled
pub flat-cut : (b : Book) (k v : ℕ) → Flat b v → {m : List ℕ} {n at : ℕ} {xs : List ℕ} {q : ℕ} → CutAt b k v m n at xs q → (fs : List Frame) → Filled xs fs → ⊥
unfolding seen
flat-cut b k v f (here l w) fs none = omega arith
flat-cut b k v f (here l w) fs (more c d) = let y : true ≡ false = sym c ∙ w in let z : ◌≡◌ {A = ℕ} 0 1 = cc in omega arith
flat-cut b k v f (later h a e t) fs none = omega (arith, fits a)
flat-cut b k v f (later {xs = xs} h a e t) fs (more {fs = gs} c d) =
    let l : h.len ≡ (head_of xs).len = ap (λ (x : Element). x.len) (at_seen a) in
    flat-cut b k v f t gs (rw l d)
flat-cut b k v f (within {m = m} h g a e t) fs d = omega (arith, e, flat-alone b k v m h f)
flat-cut b k v f (behind {m = m} h g a e i t) fs d = omega (arith, e, flat-alone b k v m h f)

-- the inside of an element with limits is such a level
or_free : (a c : Bool) → a ≡ false → a || c ≡ true → c ≡ true
or_free true c e o = let z : ◌≡◌ {A = ℕ} 0 1 = cc in absurd (omega arith)
or_free false c e o = o

levels-flat : (b : Book) (lss : List (List Line)) → flat_levels b lss ≡ true → (v : ℕ) → v < length lss → flat_lines b (get_or lss v []) ≡ true
unfolding flat_levels
levels-flat b [] e v l = absurd (omega arith)
levels-flat b (ls ∷ lss) e zero l = and_left (flat_lines b ls) (flat_levels b lss) e
levels-flat b (ls ∷ lss) e (suc v) l = levels-flat b lss (and_right (flat_lines b ls) (flat_levels b lss) e) v (omega arith)

beyond : (lss : List (List Line)) (v : ℕ) → length lss ≤ v → get_or lss v [] ≡ []
beyond [] v l = refl
beyond (ls ∷ lss) zero l = absurd (omega arith)
beyond (ls ∷ lss) (suc v) l = beyond lss v (omega arith)

pub limited-flat : (b : Book) → sound b ≡ true → flat b ≡ true → (k v : ℕ) (h : Element) → is_free (line_in b k v h) ≡ false → Flat b (line_in b k v h).inside
unfolding flat flat_lines listing
limited-flat b fine even k v h e =
    let l = ltb-true _ _ (limited-group b fine k v h e).0 in
    or_free (is_free (line_in b k v h)) _ e
    (every-line-at (λ x. is_free x || every_line (λ y. eqb y.inside 0) (listing b x.inside)) (listing b v) (go (ltb v (length b.levels)) refl) (line_number b k v h) l)
  where
    go : (c : Bool) → ltb v (length b.levels) ≡ c → flat_lines b (get_or b.levels v []) ≡ true
    go true w = levels-flat b b.levels even v (ltb-true _ _ w)
    go false w =
        let z : listing b v ≡ [] = beyond b.levels v (ltb-false _ _ w) in
        let l : line_number b k v h < length (listing b v) = ltb-true _ _ (limited-group b fine k v h e).0 in
        absurd (omega (arith, l, ap length z))

-- ---- an element before its inside is there

module _ (b : Book) (k v : ℕ) (m : List ℕ) (h : Element) where
  blind-stand : (s : ℕ) → Case b k v m h s → standing b k v m (blind h) ≡ cond (eqb s void) kept s
  unfolding standing is_short
  blind-stand s (is_unexpected a) = rw a
  blind-stand s (is_repeated a c d) = rw (a, c, d)
  blind-stand s (is-short a c d) = rw (a, c, d)
  blind-stand s (is-kept a c d o) = rw (a, c, d, none_exceed (line_in b k v h).limits)
  blind-stand s (is_void a c d o) = rw (a, c, d, none_exceed (line_in b k v h).limits)

  -- it stands as it will, or is taken for kept if it will be void
  pub stands-blind : standing b k v m (blind h) ≡ cond (eqb (standing b k v m h) void) kept (standing b k v m h)
  stands-blind = blind-stand (standing b k v m h) (standing_case b k v m h)

  -- and it leaves the marks that it will leave
  pub marks-blind : marked b k v m (blind h) ≡ marked b k v m h
  unfolding marked mark_after
  marks-blind = rw stands-blind (ap (λ (x : ℕ). cond (is_listed b k v h) (set m (line_number b k v h) x) m) (go (standing b k v m h) (eqb (standing b k v m h) void) refl))
    where
      mark : ℕ → ℕ
      mark s = cond (eqb s kept || eqb s void || eqb (get_or m (line_number b k v h) 0) 2) 2 1

      go : (s : ℕ) (c : Bool) → eqb s void ≡ c → mark (cond c kept s) ≡ mark s
      go s false e = refl
      go s true e = ap mark (sym (eqb-true s void e))

  module _ (e : eqb (standing b k v m h) void ≡ false) where
    pub same-blind : standing b k v m (blind h) ≡ standing b k v m h
    same-blind = stands-blind ∙ rw e

    pub entered-blind : entered b k v m (blind h) ≡ entered b k v m h
    unfolding entered
    entered-blind = rw same-blind

    pub item-blind : (p at : ℕ) → item_of b k v m p at (blind h) ≡ item_of b k v m p at h
    unfolding item_of
    item-blind p at = rw (same-blind, entered-blind, e)

-- ---- the walk

module _ (b : Book) (fine : sound b ≡ true) (even : flat b ≡ true) (k : ℕ) where
  -- a void group is entered blind, its inside is a whole run, and nothing is entered of it as it is
  pub void-enters : (v : ℕ) (m : List ℕ) (h : Element) → standing b k v m h ≡ void
      → (g : ℕ) × (entered b k v m (blind h) ≡ suc g) × Flat b (suc g) × (entered b k v m h ≡ 0)
  unfolding entered
  void-enters v m h e = go (line_in b k v h).inside refl
    where
      w : is_free (line_in b k v h) ≡ false
      w = void-limited b fine k v m h e

      s : standing b k v m (blind h) ≡ kept
      s = stands-blind b k v m h ∙ rw e

      go : (g : ℕ) → (line_in b k v h).inside ≡ g → (g : ℕ) × (entered b k v m (blind h) ≡ suc g) × Flat b (suc g) × (entered b k v m h ≡ 0)
      go zero z = let y : not (eqb 0 0) ≡ true = rw z at (limited-inside b fine k v h w) in let x : ◌≡◌ {A = ℕ} 0 1 = cc in absurd (omega arith)
      go (suc g) z = (g, entered-inside b k v m (blind h) s ∙ z, rw z at (limited-flat b fine even k v h w), rw e)

  module _ (v : ℕ) (m : List ℕ) {xs : List ℕ} (h : Element) (a : At xs h) where
    abbrev part : List ℕ
    part = take h.len (drop element_header xs)

    pub void-filled : standing b k v m h ≡ void → Filled part (frames_of part)
    void-filled e = over-filled (line_in b k v h).limits part (rw (at-within a) at (void-over b fine k v m h e))

    -- by the rows of an inside that was walked: it is over a limit, or it is not
    pub late-count : {w : ℕ} {m' : List ℕ} {p n at : ℕ} {is : List Item} → Met b k w m' p n at part is → p ≤ n
        → is_over b k v h ≡ exceeds (line_in b k v h).limits (directs p is)
    late-count d l = ap (exceeds (line_in b k v h).limits) (at-within a ∙ frames-of (met-directs d l))

    -- an inside that is cut voids nothing
    pub late-cut : {w : ℕ} {m' : List ℕ} {n at q : ℕ} → Flat b w → CutAt b k w m' n at part q → is_over b k v h ≡ false
    late-cut f c = go (is_over b k v h) refl
      where
        go : (z : Bool) → is_over b k v h ≡ z → is_over b k v h ≡ false
        go false e = e
        go true e = absurd (flat-cut b k _ f c (frames_of part) (over-filled (line_in b k v h).limits part (rw (at-within a) at e)))

  module _ (S : Type 0) (one : S → Item → S) (shut : S → ℕ → List ℕ → ℕ → S) (number : S → ℕ)
      (n-one : (s : S) (i : Item) → number (one s i) ≡ number s + 1)
      (n-shut : (s : S) (v : ℕ) (m : List ℕ) (o : ℕ) → number (shut s v m o) ≡ number s) where
    not_back : {T : Type 0} (t : T) (o : Out T) → taken_back false t o ≡ o
    not_back t (cut q s) = refl
    not_back t (whole s) = refl

    module _ (v : ℕ) (m : List ℕ) (p o at : ℕ) (xs : List ℕ) (s : S) (h : Element) (a : At xs h) where
      -- the rest of the level
      abbrev on : S → Out S
      on = walk b k S one shut number v (marked b k v m h) p o (at + element_header + h.len) (drop (element_header + h.len) xs)

      -- the inside, the group being taken for kept
      abbrev blindly : Out S
      blindly =
          inside b k S one shut number (entered b k v m (blind h)) at (take h.len (drop element_header xs)) (one s (item_of b k v m p at (blind h)))

      late_case : (c : Bool) → eqb (standing b k v m h) void ≡ c
          → walk b k S one shut number v m p o at xs s ≡ after (taken_back c (one s (item_of b k v m p at h)) blindly) on
      late_case false e =
          walk_more b k S one shut number v m p o at xs s (some-octets a) (rw a.is a.whole)
          ∙ rw (a.is, entered-blind b k v m h e, item-blind b k v m h e p at)
          (ap (λ (r : Out S). after r on) (sym (not_back (one s (item_of b k v m p at h))
          (inside b k S one shut number (entered b k v m h) at (take h.len (drop element_header xs)) (one s (item_of b k v m p at h))))))
      late_case true e =
          let z = eqb-true _ _ e in
          let w = void-enters v m h z in
          let s₁ = one s (item_of b k v m p at (blind h)) in
          let f = flat-met b k (suc w.0) w.2 (void-filled v m h a z) fresh (number s₁) (number s₁) (at + element_header) in
          let i : blindly ≡ whole (made b k S one shut number f.1 at s₁)
          = rw w.1 (in_some b k S one shut number w.0 at (take h.len (drop element_header xs)) s₁ ∙ met-walk b k S one shut number n-one n-shut f.1 at s₁ refl) in
          walk-alone b k S one shut number n-one n-shut v m p o at xs s h a w.3
          ∙ ap (λ (r : Out S). after (taken_back true (one s (item_of b k v m p at h)) r) on) (sym i)

      pub walk-late : walk b k S one shut number v m p o at xs s
          ≡ after (taken_back (eqb (standing b k v m h) void) (one s (item_of b k v m p at h)) blindly) on
      walk-late = late_case (eqb (standing b k v m h) void) refl
