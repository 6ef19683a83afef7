-- An element that is written is read again: its head, its value and what follows it. Assumes nothing.
--     element-head     the head of what is written          put_alone, put-group   a run that begins with it
--     taken-off        a run that begins with it, taken apart
--     kept-alone, kept-group   a kept element is entered exactly where its type is a group
use mathlib.Core.Path.{◌≡◌, refl, sym, ap, ◌∙◌}
use mathlib.Core.Bool.{Bool, true, false, cond, not}
use mathlib.Core.List.{List, [], ◌∷◌, ◌++◌}
use Prim.Native.Nat.{ℕ, zero, suc, ◌+◌, ◌-◌, ◌%◌, ◌≤◌}
use native.Mathlib.Omega.{arith}
use native.Mathlib.Nat.{div-add-mod'}
use borrow.Author.Tests.{le-leb, eqb-true, eq-eqb, ne_eqb, ltb-true}
use lib.Dec.{eqb}
use lib.ListN.{length, take, drop, get_or, length-append}
use lib.Seq.{drop_at, take-append_seam}
use Rattle.rules.specs.Framing.{element_header, value_length, first_octet, head_of}
use Rattle.rules.specs.Types.{is_group}
use Rattle.rules.specs.Listings.{Book, listing}
use Rattle.rules.specs.Standing.{Item, fresh, kept, is_listed, line_in, line_number, standing, marked, entered, item_of}
use Rattle.rules.specs.Met.{At, Met, ends, alone, group}
use Rattle.rules.specs.Sound.{sound}
use Rattle.rules.specs.Frames.{Element, element as read_with, frames_of, seen}
use Rattle.rules.specs.declared.Head.{Head}
use Rattle.rules.proofs.Lines.{seek-lists, lists-is, sound-line, line-sound}
use Rattle.rules.proofs.Standings.{Case, is_unexpected, is_repeated, is-short, is-kept, is_void, standing_case, entered-inside}
use Rattle.emitted.proofs.Forests.{element}

-- what is read off an element with this value
abbrev pub head_with : ℕ → ℕ → List ℕ → Element
head_with t f ys = record { whole = true; typ = t; inst = f % 16; len = length ys; first = get_or ys 0 0; within = frames_of ys }

module _ (t f : ℕ) (ys zs : List ℕ) where
  abbrev joined : List ℕ
  joined = element t f ys ++ zs

  two : value_length (element t f ys ++ zs) ≡ length ys
  two = div-add-mod' (length ys) 256

  heads : (n n' x x' : ℕ) → n ≡ n' → x ≡ x'
      → ◌≡◌ {A = Head} (record { whole = true; typ = t; inst = f % 16; len = n; first = x }) (record { whole = true; typ = t; inst = f % 16; len = n'; first = x' })
  heads n n' x x' a c = rw (a, c)

  pub element-length : length (element t f ys ++ zs) ≡ element_header + length ys + length zs
  element-length = omega (arith, length-append ys zs)

  first-value : (us : List ℕ) (n : ℕ) → n ≡ length us → cond (eqb n 0) 0 (get_or (us ++ zs) 0 0) ≡ get_or us 0 0
  first-value [] n e = rw (eq-eqb n 0 e)
  first-value (u ∷ us) n e = rw (ne_eqb n 0 (λ z. omega arith))

  head-octets : head_of (element t f ys ++ zs) ≡ record { whole = true; typ = t; inst = f % 16; len = length ys; first = get_or ys 0 0 }
  unfolding head_of
  head-octets =
      let a : element_header ≤ length (element t f ys ++ zs) = omega (arith, element-length) in
      let c : value_length (element t f ys ++ zs) ≤ length (element t f ys ++ zs) - element_header = omega (arith, element-length, two) in
      let raw : head_of (element t f ys ++ zs)
      ≡ record { whole = true; typ = t; inst = f % 16; len = value_length (element t f ys ++ zs); first = first_octet (element t f ys ++ zs) } = simp (le-leb _ _ a, le-leb _ _ c) in
      raw ∙ heads _ _ _ _ two (first-value ys (value_length (element t f ys ++ zs)) two)

  pub element-value : take (length ys) (drop element_header (element t f ys ++ zs)) ≡ ys
  element-value = take-append_seam ys zs

  pub element-head : seen (element t f ys ++ zs) ≡ head_with t f ys
  unfolding seen
  element-head =
      ap (λ (h : Head). read_with h (frames_of (take h.len (drop element_header (element t f ys ++ zs))))) head-octets
      ∙ ap (λ (us : List ℕ). read_with (record { whole = true; typ = t; inst = f % 16; len = length ys; first = get_or ys 0 0 }) (frames_of us)) element-value

  pub element-at : At (element t f ys ++ zs) (head_with t f ys)
  element-at = record { is = element-head; whole = refl }

  pub element-rest : drop (element_header + length ys) (element t f ys ++ zs) ≡ zs
  element-rest = drop_at (element t f ys) zs (element_header + length ys) (omega arith)

  -- ---- a run that begins with it

  module _ (b : Book) (k v : ℕ) (m : List ℕ) (p n at : ℕ) where
    pub put_alone : {es : List Item} → entered b k v m (head_with t f ys) ≡ 0
        → Met b k v (marked b k v m (head_with t f ys)) p (n + 1) (at + element_header + length ys) zs es
        → Met b k v m p n at (element t f ys ++ zs) (item_of b k v m p at (head_with t f ys) ∷ es)
    put_alone {es} e d = alone {v = v} {m = m} {p = p} {n = n} {at = at} {xs = element t f ys ++ zs} {es = es} (head_with t f ys) element-at e (rw element-rest d)

    pub put-group : {is es : List Item} (g : ℕ) → entered b k v m (head_with t f ys) ≡ suc g
        → Met b k (suc g) fresh (n + 1) (n + 1) (at + element_header) ys is
        → Met b k v (marked b k v m (head_with t f ys)) p (n + 1 + length is) (at + element_header + length ys) zs es
        → Met b k v m p n at (element t f ys ++ zs) (item_of b k v m p at (head_with t f ys) ∷ (is ++ es))
    put-group {is} {es} g e d c = group {v = v} {m = m} {p = p} {n = n} {at = at} {xs = element t f ys ++ zs} {is = is} {es = es} (head_with t f ys) g element-at e (rw element-value d) (rw element-rest c)

    -- the same taken apart
    pub data Apart : List Item → Type 0 where
      one : {es : List Item} → entered b k v m (head_with t f ys) ≡ 0
          → Met b k v (marked b k v m (head_with t f ys)) p (n + 1) (at + element_header + length ys) zs es
          → Apart (item_of b k v m p at (head_with t f ys) ∷ es)
      some : {is es : List Item} (g : ℕ) → entered b k v m (head_with t f ys) ≡ suc g
          → Met b k (suc g) fresh (n + 1) (n + 1) (at + element_header) ys is
          → Met b k v (marked b k v m (head_with t f ys)) p (n + 1 + length is) (at + element_header + length ys) zs es
          → Apart (item_of b k v m p at (head_with t f ys) ∷ (is ++ es))

    apart-alone : (xs : List ℕ) {es : List Item} (h : Element) → xs ≡ element t f ys ++ zs → h ≡ head_with t f ys → entered b k v m h ≡ 0
        → Met b k v (marked b k v m h) p (n + 1) (at + element_header + h.len) (drop (element_header + h.len) xs) es
        → Apart (item_of b k v m p at h ∷ es)
    apart-alone xs h c q e d = rw q (one (rw q at e) (rw (c, q, element-rest) at d))

    apart-group : (xs : List ℕ) {is es : List Item} (h : Element) (g : ℕ) → xs ≡ element t f ys ++ zs → h ≡ head_with t f ys → entered b k v m h ≡ suc g
        → Met b k (suc g) fresh (n + 1) (n + 1) (at + element_header) (take h.len (drop element_header xs)) is
        → Met b k v (marked b k v m h) p (n + 1 + length is) (at + element_header + h.len) (drop (element_header + h.len) xs) es
        → Apart (item_of b k v m p at h ∷ (is ++ es))
    apart-group xs h g c q e d r = rw q (some g (rw q at e) (rw (c, q, element-value) at d) (rw (c, q, element-rest) at r))

    taken-by : (xs : List ℕ) {es : List Item} → xs ≡ element t f ys ++ zs → Met b k v m p n at xs es → Apart es
    taken-by xs c ends = absurd (omega (arith, ap length c, element-length))
    taken-by xs c (alone h a e d) = apart-alone xs h c (sym a.is ∙ ap seen c ∙ element-head) e d
    taken-by xs c (group h g a e d r) = apart-group xs h g c (sym a.is ∙ ap seen c ∙ element-head) e d r

    pub taken-off : {es : List Item} → Met b k v m p n at (element t f ys ++ zs) es → Apart es
    taken-off d = taken-by (element t f ys ++ zs) refl d

-- ---- what is kept is entered exactly where its type is a group

module _ (b : Book) (fine : sound b ≡ true) (k v : ℕ) (m : List ℕ) (h : Element) (s : standing b k v m h ≡ kept) where
  listed_by : (c : ℕ) → Case b k v m h c → c ≡ kept → is_listed b k v h ≡ true
  listed_by c (is_unexpected a) z = absurd (omega arith)
  listed_by c (is_repeated a x y) z = a
  listed_by c (is-short a x y) z = a
  listed_by c (is-kept a x y o) z = a
  listed_by c (is_void a x y o) z = a

  pub kept-listed : is_listed b k v h ≡ true
  kept-listed = listed_by (standing b k v m h) (standing_case b k v m h) s

  inside-group : is_group h.typ ≡ not (eqb (line_in b k v h).inside 0)
  inside-group =
      let l = ltb-true _ _ kept-listed in
      let c = sound-line (length b.levels) (line_in b k v h) (line-sound b fine v (line_number b k v h) l) in
      let t : (line_in b k v h).typ ≡ h.typ = (lists-is k h.typ h.inst (line_in b k v h) (seek-lists (listing b v) k h.typ h.inst l)).typ in
      ap is_group (sym t) ∙ c.group

  none-there : (n : ℕ) (c : Bool) → eqb n 0 ≡ c → not c ≡ false → n ≡ 0
  none-there n true e z = eqb-true n 0 e
  none-there n false e z = let y : ◌≡◌ {A = ℕ} 0 1 = cc in absurd (omega arith)

  pub kept-alone : is_group h.typ ≡ false → entered b k v m h ≡ 0
  kept-alone g =
      entered-inside b k v m h s ∙ none-there (line_in b k v h).inside (eqb (line_in b k v h).inside 0) refl (sym inside-group ∙ g)

  some-there : (n : ℕ) → not (eqb n 0) ≡ true → (g : ℕ) × (n ≡ suc g)
  some-there zero z = let y : ◌≡◌ {A = ℕ} 0 1 = cc in absurd (omega arith)
  some-there (suc g) z = (g, refl)

  pub kept-group : is_group h.typ ≡ true → (g : ℕ) × (entered b k v m h ≡ suc g)
  kept-group g = let r = some-there (line_in b k v h).inside (sym inside-group ∙ g) in (r.0, entered-inside b k v m h s ∙ r.1)
