-- Covered octets lie in values, never in a header: an element that is not entered covers its own value at most, a kept group covers nothing for
-- its own sake and a void one the values of the elements directly inside it, so the headers inside them stay open. Assumes nothing.
--     before, beyond      in a run nothing is covered before the end of the first header, nor past the run's end
--     met-filled          a run is filled by its own elements, and what its rows cover lies in their values
--     sits, rows_sit      each row lies in its run, its header is open and so are those inside a void one, and if it is no group, no other row covers its value
--     open_refused, covered-rows                  what is covered of a message that checks 1 to 9 refuse, and of one that they pass
--     header_open, past_open, row-header_open     no octet is covered of the message's header, past its end, or of the header of an element taken
--     void-header_open, void-value-covered        inside a void row the octets of headers are not covered, and those of values are
use mathlib.Core.Path.{◌≡◌, refl, sym, ap, ◌∙◌}
use mathlib.Core.Logic.{◌⊎◌, inl, inr}
use mathlib.Core.Bool.{Bool, true, false, ◌&&◌, ◌||◌, and-false, or_assoc, or-false}
use mathlib.Core.List.{List, [], ◌∷◌, ◌++◌}
use Prim.Native.Nat.{ℕ, ◌+◌, ◌-◌, ◌≤◌, ◌<◌}
use native.Mathlib.Omega.{arith}
use native.Mathlib.Decide.{dec_lt}
use borrow.Author.Tests.{lt-leb, le-ltb, eq-eqb}
use lib.Dec.{eqb, leb}
use lib.ListN.{length, take, drop, length-drop}
use Rattle.rules.specs.Framing.{element_header, header_length}
use Rattle.rules.specs.Types.{covers_rest, is_group}
use Rattle.rules.specs.Listings.{Book}
use Rattle.rules.specs.Frames.{Frame, Element, hides}
use Rattle.rules.specs.Standing.{Item, fresh, kept, short, void, line_in, standing, item_of, value_place, value_end}
use Rattle.rules.specs.Taking.{whole, taken, body_level, items_in}
use Rattle.rules.specs.Met.{At, Met, ends, alone, group}
use Rattle.rules.specs.Verdicts.{first, refuses, framing_checks, items}
use Rattle.rules.specs.Covered.{is_value_octet, own_covered, covered_by, covered_in, covered}
use Rattle.rules.specs.Sound.{sound}
use Rattle.rules.proofs.Heads.{at-within, fits, rest-length, value-length}
use Rattle.rules.proofs.Standings.{entered-kept}
use Rattle.rules.proofs.Frames.{Filled, none, filled-span, over-filled, frame_in, filled_more, span, hides-first, hides-value, hides-past}
use Rattle.rules.specs.Table.{nth}
use Rattle.rules.proofs.Rows.{Every, every_append, every_map, every-at, body-met}
use Rattle.rules.proofs.Header.{Passed, framed}
use Rattle.rules.specs.Values.{row_place}
use Rattle.rules.proofs.Covers.{first_covered, group_open, group_type, kept-hidden, void_open, void-over, void-group, void-hides, hidden_case}
use Rattle.tables.specs.Words.{rows, row_start}
use Rattle.tables.specs.IsTable.{IsTable}
use Rattle.tables.proofs.Rowed.{count_of, row_of}
use Rattle.verdicts.proofs.Completeness.{complete}

-- ---- one row

pub own-before : (i : Item) (j : ℕ) → j < value_place i → own_covered i j ≡ false
unfolding own_covered
own-before i j l = rw (lt-leb (value_place i) j l)

pub own-past : (i : Item) (j : ℕ) → value_end i ≤ j → own_covered i j ≡ false
unfolding own_covered
own-past i j l = rw (le-ltb j (value_end i) l, and-false (leb (value_place i) j))

-- a row that covers neither its first value octet nor the others covers nothing for its own sake
pub own-none : (i : Item) (j : ℕ) → first_covered i.typ i.stand ≡ false → covers_rest i.typ && (eqb i.stand kept || eqb i.stand short) ≡ false → own_covered i j ≡ false
unfolding own_covered
own-none i j f r = rw (f, r, and-false (is_value_octet i j))

pub own_first : (i : Item) → first_covered i.typ i.stand ≡ false → own_covered i (value_place i) ≡ false
unfolding own_covered
own_first i f = simp (f, eq-eqb (value_place i) (value_place i) refl, and-false)

pub by_before : (i : Item) (j : ℕ) → j < value_place i → covered_by i j ≡ false
unfolding covered_by
by_before i j l = rw (own-before i j l, lt-leb (value_place i) j l)

pub by-past : (i : Item) (j : ℕ) → value_end i ≤ j → covered_by i j ≡ false
unfolding covered_by
by-past i j l = rw (own-past i j l, le-ltb j (value_end i) l, and-false (leb (value_place i) j))

-- where octet j is not hidden inside it, a row covers what it does for its own sake
pub by-own : (i : Item) (j : ℕ) → hides i.hidden (j - value_place i) ≡ false → covered_by i j ≡ own_covered i j
unfolding covered_by
by-own i j e = rw (e, and-false (is_value_octet i j), or-false (own_covered i j))

pub by_open : (i : Item) (j : ℕ) → first_covered i.typ i.stand ≡ false → covers_rest i.typ ≡ false → hides i.hidden (j - value_place i) ≡ false → covered_by i j ≡ false
by_open i j f r e = by-own i j e ∙ own-none i j f (rw r)

-- the first value octet stands in a header, if anything is hidden
pub by_first : (i : Item) → first_covered i.typ i.stand ≡ false → covered_by i (value_place i) ≡ false
by_first i f =
    let z : value_place i - value_place i ≡ 0 = omega arith in
    by-own i (value_place i) (rw z (hides-first i.hidden)) ∙ own_first i f

-- a row that hides nothing
pub none_hidden : (i : Item) → i.hidden ≡ [] → (j : ℕ) → hides i.hidden j ≡ false
unfolding hides
none_hidden i e j = rw e

-- ---- a list of rows

pub in_append : (is js : List Item) (j : ℕ) → covered_in (is ++ js) j ≡ covered_in is j || covered_in js j
unfolding covered_in
in_append [] js j = refl
in_append (i ∷ is) js j = rw (in_append is js j) (sym (or_assoc (covered_by i j) (covered_in is j) (covered_in js j)))

pub in_cons : (i : Item) (is : List Item) (j : ℕ) → covered_by i j ≡ false → covered_in is j ≡ false → covered_in (i ∷ is) j ≡ false
unfolding covered_in
in_cons i is j a c = rw (a, c)

pub in_skip : (i : Item) (is : List Item) (j : ℕ) → covered_by i j ≡ false → covered_in (i ∷ is) j ≡ covered_in is j
unfolding covered_in
in_skip i is j a = rw a

pub in_front : (is js : List Item) (j : ℕ) → covered_in js j ≡ false → covered_in (is ++ js) j ≡ covered_in is j
in_front is js j c = rw (in_append is js j, c, or-false (covered_in is j))

pub in_back : (is js : List Item) (j : ℕ) → covered_in is j ≡ false → covered_in (is ++ js) j ≡ covered_in js j
in_back is js j a = rw (in_append is js j, a)

pub in_both : (is js : List Item) (j : ℕ) → covered_in is j ≡ false → covered_in js j ≡ false → covered_in (is ++ js) j ≡ false
in_both is js j a c = rw (in_append is js j, a, c)

-- ---- a run

pub before : {b : Book} {k v : ℕ} {m : List ℕ} {p n at : ℕ} {xs : List ℕ} {es : List Item} → Met b k v m p n at xs es
    → (j : ℕ) → j < at + element_header → covered_in es j ≡ false
unfolding covered_in item_of
before ends j l = refl
before {b} {k} (alone {v = v} {m = m} {p = p} {at = at} {es = es} h a e t) j l =
    let i = item_of b k v m p at h in in_cons i es j (by_before i j l) (before t j (omega arith))
before {b} {k} (group {v = v} {m = m} {p = p} {at = at} {is = is} {es = es} h g a e d t) j l =
    let i = item_of b k v m p at h in
    in_cons i (is ++ es) j (by_before i j l) (in_both is es j (before d j (omega arith)) (before t j (omega arith)))

pub beyond : {b : Book} {k v : ℕ} {m : List ℕ} {p n at : ℕ} {xs : List ℕ} {es : List Item} → Met b k v m p n at xs es
    → (j : ℕ) → at + length xs ≤ j → covered_in es j ≡ false
unfolding covered_in item_of
beyond ends j l = refl
beyond {b} {k} (alone {v = v} {m = m} {p = p} {at = at} {xs = xs} {es = es} h a e t) j l =
    let i = item_of b k v m p at h in
    let f = fits a in
    in_cons i es j (by-past i j (omega (arith, f))) (beyond t j (omega (arith, rest-length xs h.len f)))
beyond {b} {k} (group {v = v} {m = m} {p = p} {at = at} {xs = xs} {is = is} {es = es} h g a e d t) j l =
    let i = item_of b k v m p at h in
    let f = fits a in
    in_cons i (is ++ es) j (by-past i j (omega (arith, f)))
    (in_both is es j (beyond d j (omega (arith, f, value-length xs h.len f))) (beyond t j (omega (arith, rest-length xs h.len f))))

-- what an element and the rows behind its header cover, where no value octet of the run's own elements stands
module _ (i : Item) (rs : List Item) (f : Frame) (fs : List Frame) (len : f.len ≡ i.len)
    (early : (j : ℕ) → j < value_place i → covered_in rs j ≡ false)
    (late : (c : ℕ) → hides fs c ≡ false → covered_in rs (value_end i + c) ≡ false) where
  step_open : (c : ℕ) → hides (f ∷ fs) c ≡ false → covered_in (i ∷ rs) (i.place + c) ≡ false
  step_open c u = go (dec_lt c element_header) (dec_lt c (element_header + i.len))
    where
      go : Dec (c < element_header) → Dec (c < element_header + i.len) → covered_in (i ∷ rs) (i.place + c) ≡ false
      go (yes l) d = in_cons i rs (i.place + c) (by_before i (i.place + c) (omega arith)) (early (i.place + c) (omega arith))
      go (no l) (yes d) =
          let y : true ≡ false = sym (hides-value f fs c (omega arith) (omega (arith, len))) ∙ u in let z : ◌≡◌ {A = ℕ} 0 1 = cc in absurd (omega arith)
      go (no l) (no d) =
          let e : value_end i + (c - (element_header + f.len)) ≡ i.place + c = omega (arith, len) in
          in_cons i rs (i.place + c) (by-past i (i.place + c) (omega arith))
          (rw e at (late (c - (element_header + f.len)) (sym (hides-past f fs c (omega (arith, len))) ∙ u)))

-- a whole run is filled by the elements directly in it, and what its rows cover lies in their values
pub met-filled : {b : Book} {k v : ℕ} {m : List ℕ} {p n at : ℕ} {xs : List ℕ} {es : List Item} → Met b k v m p n at xs es
    → (fs : List Frame) × Filled xs fs × ((c : ℕ) → hides fs c ≡ false → covered_in es (at + c) ≡ false)
unfolding covered_in item_of
met-filled ends = ([], none, λ c u. refl)
met-filled {b} {k} (alone {v = v} {m = m} {p = p} {at = at} {es = es} h a e t) =
    let r = met-filled t in
    let i = item_of b k v m p at h in
    (frame_in h ∷ r.0, filled_more a r.1, step_open i es (frame_in h) r.0 refl (λ j l. before t j (omega arith)) r.2)
met-filled {b} {k} (group {v = v} {m = m} {p = p} {at = at} {xs = xs} {is = is} {es = es} h g a e d t) =
    let r = met-filled t in
    let i = item_of b k v m p at h in
    let q = value-length xs h.len (fits a) in (
      frame_in h ∷ r.0,
      filled_more a r.1,
      step_open i (is ++ es) (frame_in h) r.0 refl
          (λ j l. in_both is es j (before d j (omega arith)) (before t j (omega arith)))
          (λ c u. in_both is es (value_end i + c) (beyond d (value_end i + c) (omega (arith, q))) (r.2 c u)),
    )

-- no octet of the row's header is covered, for the sake of any of the rows
abbrev pub HeaderOpen : List Item → Item → Type 0
HeaderOpen is i = (j : ℕ) → i.place ≤ j → j < value_place i → covered_in is j ≡ false

-- nor any octet of a header inside a void row
abbrev pub InsideOpen : List Item → Item → Type 0
InsideOpen is i = i.stand ≡ void → (j : ℕ) → value_place i ≤ j → j < value_end i → hides i.hidden (j - value_place i) ≡ false → covered_in is j ≡ false

-- the value of a row that is no group is covered for its own sake alone
abbrev pub OwnCover : List Item → Item → Type 0
OwnCover is i = is_group i.typ ≡ false → (j : ℕ) → value_place i ≤ j → j < value_end i → covered_in is j ≡ own_covered i j

-- a row among the rows `is`, all from lo on and below hi; what is hidden inside it lies in its value
pub record Sits (is : List Item) (lo hi : ℕ) (i : Item) : Type 0 where
  pub begins : lo ≤ i.place
  pub finishes : value_end i ≤ hi
  pub holds : span i.hidden ≤ i.len
  pub opens : HeaderOpen is i
  pub leaves : InsideOpen is i
  pub owns : OwnCover is i

-- more rows, which cover nothing else there
sits-more : (is js : List Item) (lo hi lo' hi' : ℕ) (es : List Item) → lo' ≤ lo → hi ≤ hi'
    → ((j : ℕ) → lo ≤ j → j < hi → covered_in js j ≡ covered_in is j) → Every (Sits is lo hi) es → Every (Sits js lo' hi') es
sits-more is js lo hi lo' hi' es a c f s =
    every_map (Sits is lo hi) (Sits js lo' hi') es
    (λ i x. record {
      begins = omega (arith, x.begins);
      finishes = omega (arith, x.finishes);
      holds = x.holds;
      opens = λ j l u. f j (omega (arith, x.begins)) (omega (arith, x.finishes)) ∙ x.opens j l u;
      leaves = λ v j l u w. f j (omega (arith, x.begins)) (omega (arith, x.finishes)) ∙ x.leaves v j l u w;
      owns = λ g j l u. f j (omega (arith, x.begins)) (omega (arith, x.finishes)) ∙ x.owns g j l u;
    }) s

own : (i : Item) (is : List Item) (j : ℕ) → hides i.hidden (j - value_place i) ≡ false → covered_in is j ≡ false → covered_in (i ∷ is) j ≡ own_covered i j
unfolding covered_in
own i is j e a = rw (a, or-false (covered_by i j)) (by-own i j e)

two_ways : (t : ℕ) → is_group t ≡ false → is_group t ≡ true → ⊥
two_ways t e f = let z : ◌≡◌ {A = ℕ} 0 1 = cc in omega arith

module _ (b : Book) (fine : sound b ≡ true) (k v : ℕ) (m : List ℕ) (p at : ℕ) (h : Element) where
  inside-held : {xs : List ℕ} → At xs h → span (item_of b k v m p at h).hidden ≤ h.len
  unfolding span
  inside-held {xs} a = go (hidden_case b k v m p at h)
    where
      go : (standing b k v m h ≡ void) ⊎ ((item_of b k v m p at h).hidden ≡ []) → span (item_of b k v m p at h).hidden ≤ h.len
      go (inl e) =
          let w = at-within a in
          let d = over-filled (line_in b k v h).limits (take h.len (drop element_header xs)) (rw w at (void-over b fine k v m h e)) in
          rw (void-hides b k v m p at h e, w) (omega (arith, filled-span d, value-length xs h.len (fits a)))
      go (inr e) = rw e (omega arith)

  plain-hides : is_group h.typ ≡ false → (j : ℕ) → hides (item_of b k v m p at h).hidden j ≡ false
  plain-hides z j = go (hidden_case b k v m p at h)
    where
      go : (standing b k v m h ≡ void) ⊎ ((item_of b k v m p at h).hidden ≡ []) → hides (item_of b k v m p at h).hidden j ≡ false
      go (inl e) = absurd (two_ways h.typ z (void-group b fine k v m h e))
      go (inr e) = none_hidden (item_of b k v m p at h) e j

pub sits : {b : Book} {k v : ℕ} {m : List ℕ} {p n at : ℕ} {xs : List ℕ} {es : List Item} → sound b ≡ true → Met b k v m p n at xs es
    → Every (Sits es at (at + length xs)) es
unfolding Every item_of
sits fine ends = tt
sits {b} {k} fine (alone {v = v} {m = m} {p = p} {at = at} {xs = xs} {es = es} h a e t) =
    let i = item_of b k v m p at h in
    let f = fits a in
    let r = rest-length xs h.len f in
    let end = at + element_header + h.len in (
      record {
        begins = omega arith;
        finishes = omega (arith, f);
        holds = inside-held b fine k v m p at h a;
        opens = λ j l u. in_cons i es j (by_before i j u) (before t j (omega arith));
        leaves = λ z j l u w. let o = void_open b fine k v m h z in in_cons i es j (by_open i j o.0 o.1 w) (before t j (omega arith));
        owns = λ z j l u. own i es j (plain-hides b fine k v m p at h z (j - value_place i)) (before t j (omega arith));
      },
      sits-more es (i ∷ es) end (end + length (drop (element_header + h.len) xs)) at (at + length xs) es (omega arith) (omega (arith, r))
          (λ j l u. in_skip i es j (by-past i j l)) (sits fine t),
    )
sits {b} {k} fine (group {v = v} {m = m} {p = p} {at = at} {xs = xs} {is = is} {es = es} h g a e d t) =
    let i = item_of b k v m p at h in
    let f = fits a in
    let q = value-length xs h.len f in
    let r = rest-length xs h.len f in
    let start = at + element_header in
    let end = start + h.len in
    let o = group_open b fine k v m h g e in (
      record {
        begins = omega arith;
        finishes = omega (arith, f);
        holds = inside-held b fine k v m p at h a;
        opens = λ j l u. in_cons i (is ++ es) j (by_before i j u) (in_both is es j (before d j (omega arith)) (before t j (omega arith)));
        leaves = λ z j l u w. absurd (omega (arith, z, entered-kept b k v m h (omega (arith, e))));
        owns = λ z j l u. absurd (two_ways h.typ z (group_type b fine k v m h g e));
      },
      every_append (Sits (i ∷ (is ++ es)) at (at + length xs)) is es
          (sits-more is (i ∷ (is ++ es)) start (start + length (take h.len (drop element_header xs))) at (at + length xs) is (omega arith) (omega (arith, q, f))
          (λ j l u. in_skip i (is ++ es) j (by_open i j o.0 o.1 (none_hidden i (kept-hidden b fine k v m h g e p at) (j - value_place i))) ∙ in_front is es j (before t j (omega (arith, q)))) (sits fine d))
          (sits-more es (i ∷ (is ++ es)) end (end + length (drop (element_header + h.len) xs)) at (at + length xs) es (omega arith) (omega (arith, r))
          (λ j l u. in_skip i (is ++ es) j (by-past i j l) ∙ in_back is es j (beyond d j (omega (arith, q)))) (sits fine t)),
    )

-- ---- a message

-- a message that passes checks 1 to 9, and its rows
pub record Framed (b : Book) (k : ℕ) (m : List ℕ) : Type 0 where
  pub passes : Passed b k m
  pub rows : List Item
  pub takes : taken b k m ≡ whole rows

module _ (b : Book) (k : ℕ) (m : List ℕ) where
  pub rows-framed : refuses (first (framing_checks b k m)) ≡ false → Framed b k m
  rows-framed e = let w = framed b k m e in record { passes = w.0; rows = w.1.0; takes = w.1.1 }

  -- nothing is covered if a check of 1 to 9 applies
  pub open_refused : refuses (first (framing_checks b k m)) ≡ true → (j : ℕ) → covered b k m j ≡ false
  unfolding covered
  open_refused e j = rw e

  -- and what the rows cover if none does
  pub covered-rows : refuses (first (framing_checks b k m)) ≡ false → (j : ℕ) → covered b k m j ≡ covered_in (items b k m) j
  unfolding covered
  covered-rows e j = rw e

  -- so what no row covers is not covered
  by_rows : (j : ℕ) → ((f : Framed b k m) → covered_in f.rows j ≡ false) → covered b k m j ≡ false
  by_rows j c = go (refuses (first (framing_checks b k m))) refl
    where
      go : (r : Bool) → refuses (first (framing_checks b k m)) ≡ r → covered b k m j ≡ false
      go true e = open_refused e j
      go false e = let f = rows-framed e in covered-rows e j ∙ rw f.takes (c f)

  pub body-framed : (f : Framed b k m) → Met b k (body_level b m) fresh 0 0 (header_length m) (drop (header_length m) m) f.rows
  body-framed f = body-met b k m f.rows f.takes

  body_end : Framed b k m → header_length m + length (drop (header_length m) m) ≡ length m
  body_end f = omega (arith, f.passes.has_header, length-drop (header_length m) m)

  pub header_open : (j : ℕ) → j < header_length m → covered b k m j ≡ false
  header_open j l = by_rows j (λ f. before (body-framed f) j (omega arith))

  pub past_open : (j : ℕ) → length m ≤ j → covered b k m j ≡ false
  past_open j l = by_rows j (λ f. beyond (body-framed f) j (omega (arith, body_end f)))

module _ (b : Book) (fine : sound b ≡ true) (k : ℕ) (m : List ℕ) where
  -- each row lies past the message's header and in the message
  pub rows_sit : (f : Framed b k m) → Every (Sits f.rows (header_length m) (length m)) f.rows
  rows_sit f = rw (body_end b k m f) at (sits fine (body-framed b k m f))

  pub row-header_open : (r : ℕ) → r < length (items b k m)
      → (j : ℕ) → (nth (items b k m) r).place ≤ j → j < value_place (nth (items b k m) r) → covered b k m j ≡ false
  row-header_open r c j l u =
      by_rows b k m j
      (λ f. (every-at (Sits f.rows (header_length m) (length m)) f.rows (rows_sit f) r (rw f.takes at c)).opens j (rw f.takes at l) (rw f.takes at u))

  pub void-header_open : (r : ℕ) → r < length (items b k m) → (nth (items b k m) r).stand ≡ void
      → (j : ℕ) → value_place (nth (items b k m) r) ≤ j → j < value_end (nth (items b k m) r) → hides (nth (items b k m) r).hidden (j - value_place (nth (items b k m) r)) ≡ false
      → covered b k m j ≡ false
  void-header_open r c z j l u w =
      by_rows b k m j
      (λ f. (every-at (Sits f.rows (header_length m) (length m)) f.rows (rows_sit f) r (rw f.takes at c)).leaves
      (rw f.takes at z) j (rw f.takes at l) (rw f.takes at u) (rw f.takes at w))

-- the same by the rows of the message's table
pub element-header_open : (b : Book) → sound b ≡ true → (k : ℕ) (m t : List ℕ) → IsTable b k m t → (r : ℕ) → r < rows t → (j : ℕ) → row_start t r ≤ j → j < row_place t r → covered b k m j ≡ false
element-header_open b fine k m t x r l j a c =
    let y = complete b fine k m t x in
    let es = y.0 in
    let z : items b k m ≡ y.0 = ap items_in y.1 in
    let h : r < length y.0 = rw (count_of t y.0 y.2) at l in
    let p : row_place t r ≡ value_place (nth y.0 r) = row_of t y.0 y.2 r 3 h (omega arith) in
    row-header_open b fine k m r (rw z h) j (rw z (omega (arith, a, p))) (rw z (omega (arith, c, p)))
