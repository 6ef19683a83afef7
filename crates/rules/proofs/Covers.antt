-- What is covered does not bear on the rules. Assumes nothing.
--     least-covered   the least length of a type that is covered whole does not hang on the first octet
--     stand-covered   two heads that agree but for a first value octet that is covered have one standing
--     group_open      nothing of a kept group is covered for its own sake       group-least   and it is never short
use mathlib.Core.Path.{◌≡◌, refl, sym, ap, ◌∙◌}
use mathlib.Core.Logic.{◌⊎◌, inl, inr}
use mathlib.Core.Bool.{Bool, true, false, cond, not, ◌&&◌, ◌||◌}
use mathlib.Core.List.{List, [], ◌∷◌}
use Prim.Native.Nat.{ℕ, suc, ◌+◌, ◌≤◌, ◌<◌}
use native.Mathlib.Omega.{arith}
use borrow.Author.Tests.{eqb-true, ltb-true, ltb-false, le-ltb, ne_eqb}
use lib.Dec.{eqb}
use lib.ListN.{length, get_or, get_or-eq_default}
use Rattle.rules.specs.Types.{Parted, parteds, added, least_among, least_of, parted, is_parted, least_by_type, groups, is_group, whole_types, covers_whole, rest_types, covers_rest}
use Rattle.rules.specs.Listings.{Book, Line, Limit, empty_line, listing}
use Rattle.rules.specs.Standing.{kept, short, void, line_number, line_in, is_listed, stood_earlier, is_short, is_over, standing, entered, marked, item_of}
use Rattle.rules.specs.Covered.{is_aside}
use Rattle.rules.specs.Sound.{sound, no_limits, is_free}
use Rattle.rules.specs.Frames.{Frame, Element, exceeds}
use Rattle.rules.proofs.Lines.{and_left, and_right, among-all, seek-lists, lists-is, sound-line, line-sound}
use Rattle.rules.proofs.Standings.{Case, is_unexpected, is_repeated, is-short, is-kept, is_void, standing_case, entered-kept, entered-inside}

-- ---- types

not-true : (a : Bool) → not a ≡ true → a ≡ false
not-true true e = sym e
not-true false e = refl

-- a type without parts goes by its number
by_number : ℕ → Bool
by_number t = not (is_parted t)

among_none : (ps : List Parted) (t f : ℕ) → parted ps t ≡ false → least_among ps t f ≡ least_by_type t
among_none [] t f e = refl
among_none (p ∷ ps) t f e = go (eqb t p.typ) e (among_none ps t f)
  where
    go : (c : Bool) → c || parted ps t ≡ false → (parted ps t ≡ false → least_among ps t f ≡ least_by_type t)
        → cond c (p.base + added p.parts f) (least_among ps t f) ≡ least_by_type t
    go true z rest = let y : ◌≡◌ {A = ℕ} 0 1 = cc in absurd (omega arith)
    go false z rest = rest z

pub least_unparted : (t f : ℕ) → is_parted t ≡ false → least_of t f ≡ least_by_type t
unfolding least_of is_parted
least_unparted t f e = among_none parteds t f e

least-by-number : (t f : ℕ) → by_number t ≡ true → least_of t f ≡ least_by_type t
unfolding by_number
least-by-number t f e = least_unparted t f (not-true (is_parted t) e)

whole-by-number : (t : ℕ) → covers_whole t ≡ true → by_number t ≡ true
unfolding covers_whole whole_types by_number is_parted parteds
whole-by-number t e = among-all by_number t whole_types e refl

pub least-covered : (t f f' : ℕ) → covers_whole t ≡ true → least_of t f ≡ least_of t f'
least-covered t f f' e = least-by-number t f (whole-by-number t e) ∙ sym (least-by-number t f' (whole-by-number t e))

group-facts : ℕ → Bool
group-facts t = by_number t && eqb (least_by_type t) 0 && not (covers_whole t) && not (covers_rest t)

groups-pass : (t : ℕ) → is_group t ≡ true → group-facts t ≡ true
unfolding is_group groups group-facts by_number is_parted parteds least_by_type covers_whole whole_types covers_rest rest_types
groups-pass t e = among-all group-facts t groups e refl

module _ (t : ℕ) (g : is_group t ≡ true) where
  three : by_number t && eqb (least_by_type t) 0 && not (covers_whole t) ≡ true
  unfolding group-facts
  three = and_left (by_number t && eqb (least_by_type t) 0 && not (covers_whole t)) (not (covers_rest t)) (groups-pass t g)

  two : by_number t && eqb (least_by_type t) 0 ≡ true
  two = and_left (by_number t && eqb (least_by_type t) 0) (not (covers_whole t)) three

  pub group-least : (f : ℕ) → least_of t f ≡ 0
  group-least f =
      least-by-number t f (and_left (by_number t) (eqb (least_by_type t) 0) two) ∙ eqb-true _ _ (and_right (by_number t) (eqb (least_by_type t) 0) two)

  pub group-not-whole : covers_whole t ≡ false
  group-not-whole = not-true (covers_whole t) (and_right (by_number t && eqb (least_by_type t) 0) (not (covers_whole t)) three)

  pub group-not-rest : covers_rest t ≡ false
  unfolding group-facts
  group-not-rest =
      not-true (covers_rest t) (and_right (by_number t && eqb (least_by_type t) 0 && not (covers_whole t)) (not (covers_rest t)) (groups-pass t g))

-- ---- heads

-- two elements that differ in the first value octet and in what stands inside at most
pub record Like (h h' : Element) : Type 0 where
  pub whole : h'.whole ≡ h.whole
  pub typ : h'.typ ≡ h.typ
  pub inst : h'.inst ≡ h.inst
  pub len : h'.len ≡ h.len

-- the first value octet is covered, by the standing or by the type
abbrev pub first_covered : ℕ → ℕ → Bool
first_covered t s = is_aside s || covers_whole t

-- ---- limits

pub free-exceeds : (ls : List Limit) (fs : List Frame) → no_limits ls ≡ true → exceeds ls fs ≡ false
unfolding exceeds
free-exceeds [] fs e = refl
free-exceeds (l ∷ ls) fs e = let z : ◌≡◌ {A = ℕ} 0 1 = cc in absurd (omega arith)

pub free-over : (b : Book) (k v : ℕ) (h : Element) → is_free (line_in b k v h) ≡ true → is_over b k v h ≡ false
free-over b k v h e = free-exceeds (line_in b k v h).limits h.within e

pub no_line : (ls : List Line) (n : ℕ) → length ls ≤ n → get_or ls n empty_line ≡ empty_line
no_line ls n l = get_or-eq_default ls empty_line l

or_second : (a c : Bool) → a ≡ false → a || c ≡ true → c ≡ true
or_second true c e o = let z : ◌≡◌ {A = ℕ} 0 1 = cc in absurd (omega arith)
or_second false c e o = o

pub group-long : (h : Element) → is_group h.typ ≡ true → is_short h ≡ false
unfolding is_short
group-long h g = rw (group-least h.typ g h.first) (le-ltb h.len 0 (omega arith))

-- only a listed group has limits
pub limited-group : (b : Book) → sound b ≡ true → (k v : ℕ) (h : Element) → is_free (line_in b k v h) ≡ false
    → (is_listed b k v h ≡ true) × (is_group h.typ ≡ true)
limited-group b fine k v h e = go (is_listed b k v h) refl
  where
    go : (c : Bool) → is_listed b k v h ≡ c → (is_listed b k v h ≡ true) × (is_group h.typ ≡ true)
    go false w =
        let n : line_in b k v h ≡ empty_line = no_line (listing b v) (line_number b k v h) (ltb-false _ _ w) in
        let y : is_free empty_line ≡ false = rw n at e in
        let z : ◌≡◌ {A = ℕ} 0 1 = cc in absurd (omega arith)
    go true w =
        let l = ltb-true _ _ w in
        let s = sound-line (length b.levels) (line_in b k v h) (line-sound b fine v (line_number b k v h) l) in
        let t : (line_in b k v h).typ ≡ h.typ = (lists-is k h.typ h.inst (line_in b k v h) (seek-lists (listing b v) k h.typ h.inst l)).typ in
        (w, ap is_group (sym t) ∙ or_second (is_free (line_in b k v h)) (is_group (line_in b k v h).typ) e s.limits)

module _ (b : Book) (fine : sound b ≡ true) (k v : ℕ) (m : List ℕ) (h : Element) where
  over-limited : is_over b k v h ≡ true → is_free (line_in b k v h) ≡ false
  over-limited o = go (is_free (line_in b k v h)) refl
    where
      go : (c : Bool) → is_free (line_in b k v h) ≡ c → is_free (line_in b k v h) ≡ false
      go false w = w
      go true w = let y : true ≡ false = sym o ∙ free-over b k v h w in let z : ◌≡◌ {A = ℕ} 0 1 = cc in absurd (omega arith)

  -- a type that is covered whole has no limits
  whole-free : covers_whole h.typ ≡ true → is_free (line_in b k v h) ≡ true
  whole-free c = go (is_free (line_in b k v h)) refl
    where
      go : (x : Bool) → is_free (line_in b k v h) ≡ x → is_free (line_in b k v h) ≡ true
      go true w = w
      go false w =
          let y : true ≡ false = sym c ∙ group-not-whole h.typ (limited-group b fine k v h w).1 in
          let z : ◌≡◌ {A = ℕ} 0 1 = cc in absurd (omega arith)

  over_case : (s : ℕ) → Case b k v m h s → s ≡ void → is_over b k v h ≡ true
  over_case s (is_unexpected a) z = absurd (omega arith)
  over_case s (is_repeated a c d) z = absurd (omega arith)
  over_case s (is-short a c d) z = absurd (omega arith)
  over_case s (is-kept a c d f) z = absurd (omega arith)
  over_case s (is_void a c d f) z = f

  -- a void element is over a limit, and so is a group; nothing of it is covered for its own sake
  pub void-over : standing b k v m h ≡ void → is_over b k v h ≡ true
  void-over e = over_case (standing b k v m h) (standing_case b k v m h) e

  pub void-limited : standing b k v m h ≡ void → is_free (line_in b k v h) ≡ false
  void-limited e = over-limited (void-over e)

  pub void-group : standing b k v m h ≡ void → is_group h.typ ≡ true
  void-group e = (limited-group b fine k v h (void-limited e)).1

  pub void_open : standing b k v m h ≡ void → (first_covered h.typ (standing b k v m h) ≡ false) × (covers_rest h.typ ≡ false)
  void_open e = (rw (e, group-not-whole h.typ (void-group e)), group-not-rest h.typ (void-group e))

module _ (b : Book) (fine : sound b ≡ true) (k v : ℕ) (m : List ℕ) (h h' : Element) (l : Like h h') where
  same-listed : is_listed b k v h' ≡ is_listed b k v h
  same-listed = rw (l.typ, l.inst)

  pub same_line : line_in b k v h' ≡ line_in b k v h
  same_line = rw (l.typ, l.inst)

  same-stood : stood_earlier b k v m h' ≡ stood_earlier b k v m h
  same-stood = rw (l.typ, l.inst)

  same-short : covers_whole h.typ ≡ true → is_short h' ≡ is_short h
  unfolding is_short
  same-short c = rw (l.typ, l.len, least-covered h.typ h'.first h.first c)

  pub free-there : is_free (line_in b k v h) ≡ true → is_over b k v h' ≡ is_over b k v h
  free-there e = free-over b k v h' (rw same_line e) ∙ sym (free-over b k v h e)

  again : (x y : Bool) → is_short h' ≡ x → is_over b k v h' ≡ y → is_listed b k v h ≡ true → not (line_in b k v h).many && stood_earlier b k v m h ≡ false
      → standing b k v m h' ≡ cond x short (cond y void kept)
  unfolding standing
  again x y e o a c = rw (same-listed, a, same_line, same-stood, c, e) (go x y (rw same_line at o))
    where
      go : (x y : Bool) → exceeds (line_in b k v h).limits h'.within ≡ y
          → cond x short (cond (exceeds (line_in b k v h).limits h'.within) void kept) ≡ cond x short (cond y void kept)
      go x y z = rw z

  by_case : (s : ℕ) → Case b k v m h s → first_covered h.typ s ≡ true → standing b k v m h' ≡ s
  unfolding standing
  by_case s (is_unexpected a) c = rw (same-listed, a)
  by_case s (is_repeated a y d) c = rw (same-listed, a, same_line, y, same-stood, d)
  by_case s (is-short a r d) c = again true _ (same-short c ∙ d) refl a r
  by_case s (is-kept a r d f) c = again false false (same-short c ∙ d) (free-there (whole-free b fine k v m h c) ∙ f) a r
  by_case s (is_void a r d f) c =
      let w : is_free (line_in b k v h) ≡ false = over-limited b fine k v m h f in
      let y : true ≡ false = sym (whole-free b fine k v m h c) ∙ w in
      let z : ◌≡◌ {A = ℕ} 0 1 = cc in absurd (omega arith)

  pub stand-covered : first_covered h.typ (standing b k v m h) ≡ true → standing b k v m h' ≡ standing b k v m h
  stand-covered c = by_case (standing b k v m h) (standing_case b k v m h) c

  -- and where it is not covered, elements with the same first octet, both over a limit or neither
  pub stand_open : h'.first ≡ h.first → is_over b k v h' ≡ is_over b k v h → standing b k v m h' ≡ standing b k v m h
  unfolding standing is_short
  stand_open f o = rw (o, f, l.typ, l.inst, l.len)

  -- what is made of an element depends on its type, instance, length and standing alone, and what stands inside a void one
  module _ (s : standing b k v m h' ≡ standing b k v m h) where
    pub same-entered : entered b k v m h' ≡ entered b k v m h
    unfolding entered
    same-entered = rw (s, l.typ, l.inst)

    pub same_item : (standing b k v m h ≡ void → h'.within ≡ h.within) → (p at : ℕ) → item_of b k v m p at h' ≡ item_of b k v m p at h
    unfolding item_of
    same_item w p at = rw (s, same-entered, l.typ, l.inst, l.len, go (eqb (standing b k v m h) void) refl)
      where
        go : (c : Bool) → eqb (standing b k v m h) void ≡ c
            → cond (eqb (standing b k v m h) void) h'.within [] ≡ cond (eqb (standing b k v m h) void) h.within []
        go true e = rw (e, w (eqb-true _ _ e))
        go false e = rw e

    pub same-marks : marked b k v m h' ≡ marked b k v m h
    unfolding marked
    same-marks = rw (s, l.typ, l.inst)

-- ---- a kept group

some-not-none : (n : ℕ) → 0 < n → not (eqb n 0) ≡ true
some-not-none n l = rw (ne_eqb n 0 (λ z. omega arith))

module _ (b : Book) (fine : sound b ≡ true) (k v : ℕ) (m : List ℕ) (h : Element) (g : ℕ) (e : entered b k v m h ≡ suc g) where
  listed-inside : (line_in b k v h).inside ≡ suc g
  listed-inside = sym (entered-inside b k v m h (entered-kept b k v m h (omega arith))) ∙ e

  listed_kept : (s : ℕ) → Case b k v m h s → s ≡ kept → is_listed b k v h ≡ true
  listed_kept s (is_unexpected a) z = absurd (omega arith)
  listed_kept s (is_repeated a c d) z = a
  listed_kept s (is-short a c d) z = a
  listed_kept s (is-kept a c d f) z = a
  listed_kept s (is_void a c d f) z = absurd (omega arith)

  pub group-listed : line_number b k v h < length (listing b v)
  group-listed = ltb-true _ _ (listed_kept (standing b k v m h) (standing_case b k v m h) (entered-kept b k v m h (omega arith)))

  pub group_type : is_group h.typ ≡ true
  group_type =
      let s = sound-line (length b.levels) (line_in b k v h) (line-sound b fine v (line_number b k v h) group-listed) in
      let t : (line_in b k v h).typ ≡ h.typ = (lists-is k h.typ h.inst (line_in b k v h) (seek-lists (listing b v) k h.typ h.inst group-listed)).typ in
      ap is_group (sym t) ∙ s.group ∙ some-not-none (line_in b k v h).inside (omega (arith, listed-inside))

  pub group-level : suc g < length b.levels
  group-level =
      let s = sound-line (length b.levels) (line_in b k v h) (line-sound b fine v (line_number b k v h) group-listed) in
      omega (arith, s.inside, listed-inside)

  pub group_open : (first_covered h.typ (standing b k v m h) ≡ false) × (covers_rest h.typ ≡ false)
  group_open = (rw (entered-kept b k v m h (omega arith), group-not-whole h.typ group_type), group-not-rest h.typ group_type)

  -- and nothing inside it is hidden
  pub kept-hidden : (p at : ℕ) → (item_of b k v m p at h).hidden ≡ []
  unfolding item_of
  kept-hidden p at = rw (entered-kept b k v m h (omega arith))

-- only what is void hides anything
pub void-hides : (b : Book) (k v : ℕ) (m : List ℕ) (p at : ℕ) (h : Element) → standing b k v m h ≡ void → (item_of b k v m p at h).hidden ≡ h.within
unfolding item_of
void-hides b k v m p at h e = rw e

pub hidden_case : (b : Book) (k v : ℕ) (m : List ℕ) (p at : ℕ) (h : Element)
    → (standing b k v m h ≡ void) ⊎ ((item_of b k v m p at h).hidden ≡ [])
unfolding item_of
hidden_case b k v m p at h = go (eqb (standing b k v m h) void) refl
  where
    go : (c : Bool) → eqb (standing b k v m h) void ≡ c → (standing b k v m h ≡ void) ⊎ (cond (eqb (standing b k v m h) void) h.within [] ≡ [])
    go true e = inl (eqb-true _ _ e)
    go false e = inr (rw e)

pub limited-inside : (b : Book) → sound b ≡ true → (k v : ℕ) (h : Element) → is_free (line_in b k v h) ≡ false → not (eqb (line_in b k v h).inside 0) ≡ true
limited-inside b fine k v h e =
    let g = limited-group b fine k v h e in
    let l = ltb-true _ _ g.0 in
    let s = sound-line (length b.levels) (line_in b k v h) (line-sound b fine v (line_number b k v h) l) in
    let t : (line_in b k v h).typ ≡ h.typ = (lists-is k h.typ h.inst (line_in b k v h) (seek-lists (listing b v) k h.typ h.inst l)).typ in
    sym s.group ∙ ap is_group t ∙ g.1

-- a limited element that is not set aside and not entered is void
pub limited-void : (b : Book) → sound b ≡ true → (k v : ℕ) (m : List ℕ) (h : Element) → is_free (line_in b k v h) ≡ false
    → is_aside (standing b k v m h) ≡ false → entered b k v m h ≡ 0 → standing b k v m h ≡ void
limited-void b fine k v m h e a z = go (standing b k v m h) (standing_case b k v m h) refl
  where
    g : is_group h.typ ≡ true
    g = (limited-group b fine k v h e).1

    go : (s : ℕ) → Case b k v m h s → standing b k v m h ≡ s → standing b k v m h ≡ void
    go s (is_unexpected c) w = let y : true ≡ false = rw w at a in let q : ◌≡◌ {A = ℕ} 0 1 = cc in absurd (omega arith)
    go s (is_repeated c d f) w = let y : true ≡ false = rw w at a in let q : ◌≡◌ {A = ℕ} 0 1 = cc in absurd (omega arith)
    go s (is-short c d f) w =
        let y : is_short h ≡ false = group-whole-length in
        let x : true ≡ false = sym f ∙ y in let q : ◌≡◌ {A = ℕ} 0 1 = cc in absurd (omega arith)
      where
        group-whole-length : is_short h ≡ false
        group-whole-length = group-long h g
    go s (is-kept c d f o) w =
        let y : (line_in b k v h).inside ≡ 0 = sym (entered-inside b k v m h w) ∙ z in
        let x : not (eqb 0 0) ≡ true = rw y at (limited-inside b fine k v h e) in let q : ◌≡◌ {A = ℕ} 0 1 = cc in absurd (omega arith)
    go s (is_void c d f o) w = w
