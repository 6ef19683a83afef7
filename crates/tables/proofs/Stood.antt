-- The standing of each element is the one that the rows of its own table say: the marks tell of the rows, wherever the walk stands. Assumes nothing.
use mathlib.Core.Path.{◌≡◌, refl, sym, ap, ◌∙◌}
use mathlib.Core.Bool.{true, cond}
use mathlib.Core.List.{List, [], ◌∷◌, ◌++◌}
use Prim.Native.Nat.{ℕ, ◌≤◌, zero, suc, ◌+◌, ◌-◌, ◌<◌}
use native.Mathlib.Omega.{arith}
use native.Mathlib.Decide.{dec_lt}
use borrow.Author.Tests.{eqb-false}
use lib.Dec.{eqb}
use lib.ListN.{length, take, drop, length-append, length-drop, get_or-append}
use lib.Seq.{get_or-append-add, take-take}
use Rattle.rules.specs.Framing.{octet, element_header, value_length}
use Rattle.rules.specs.Listings.{Book}
use Rattle.rules.specs.Standing.{Item, item_of, marked}
use Rattle.rules.specs.Taking.{body_level}
use Rattle.rules.specs.Met.{At}
use Rattle.rules.specs.Sound.{sound}
use Rattle.rules.specs.Values.{row_parent, row_place, row_length}
use Rattle.rules.specs.Frames.{Element, element, frames_of, value_of}
use Rattle.rules.proofs.Heads.{whole_head, at_is, at-within, fits}
use Rattle.rules.specs.Table.{no_item, nth}
use Rattle.rules.proofs.Places.{parents, Stand, stand-tail, stand-left, stand-right, stand-head}
use Rattle.tables.specs.Levels.{level_of}
use Rattle.tables.proofs.Rowed.{Begins, row_of, inside-others}
use Rattle.tables.specs.Standings.{StandsAs}
use Rattle.tables.proofs.Marks.{same_first, Tells, tells-fresh, tells-past, tells-next, RowIs, stands}
use Rattle.rules.proofs.Walked.{Walked, ends, alone, group}
use Rattle.tables.proofs.Faithful.{Sub, sub-octet, sub-drop, sub-take}

module _ (b : Book) (fine : sound b ≡ true) (k : ℕ) (m t : List ℕ) (all : List Item) (ok : Begins t all)
    (levels : (q : ℕ) → level_of b k (body_level b m) t (suc q) ≡ (nth all q).inside) (back : (r : ℕ) → r < length all → (nth all r).parent ≤ r) where
  -- the row of an element
  element-row : (v p n at : ℕ) (xs ms : List ℕ) (h : Element) → At xs h → Sub m at xs → n < length all → nth all n ≡ item_of b k v ms p at h → RowIs m t p at n h
  unfolding item_of
  element-row v p n at xs ms h a s l e =
      let w : h ≡ element (whole_head xs) (frames_of (value_of xs)) = at_is a in
      let len : row_length t n ≡ h.len = row_of t all ok n 4 l (omega arith) ∙ ap (λ (i : Item). i.len) e in
      let len' : h.len ≡ value_length xs = ap (λ (i : Element). i.len) w in
      let place : row_place t n ≡ at + element_header = row_of t all ok n 3 l (omega arith) ∙ ap (λ (i : Item). i.place + element_header) e in record {
        parent = row_of t all ok n 0 l (omega arith) ∙ ap (λ (i : Item). i.parent) e;
        typ = row_of t all ok n 1 l (omega arith) ∙ ap (λ (i : Item). i.typ) e;
        inst = row_of t all ok n 2 l (omega arith) ∙ ap (λ (i : Item). i.inst) e;
        place = place;
        len = len;
        first = ap (λ (x : ℕ). cond (eqb x 0) 0 (octet m (row_place t n))) (len ∙ len')
            ∙ same_first (octet m (row_place t n)) (octet xs element_header) (eqb (value_length xs) 0)
            (λ c. ap (octet m) place ∙ sym (sub-octet m at xs s element_header (omega (arith, eqb-false (value_length xs) 0 c, fits a, len'))))
            ∙ sym (ap (λ (i : Element). i.first) w);
        within =
            let e : drop element_header xs ≡ take (length (drop element_header xs)) (drop (at + element_header) m) = sub-drop m at element_header (at + element_header) xs refl s in
            let f : h.len ≤ length (drop element_header xs) = omega (arith, fits a, length-drop element_header xs) in
            ap (λ (c : ℕ). frames_of (take c (drop (row_place t n) m))) len ∙ ap (λ (n : ℕ). frames_of (take h.len (drop n m))) place
            ∙ ap frames_of (sym (ap (take h.len) e ∙ take-take h.len (length (drop element_header xs)) (drop (at + element_header) m) f)) ∙ sym (at-within a);
      }

  -- the rows of a run with n rows before it
  abbrev Stood : ℕ → List Item → Type 0
  Stood n es = (j : ℕ) → j < length es → StandsAs b k m t (n + j) (nth es j).stand

  stood_cons : (n : ℕ) (i : Item) (is es : List Item) → StandsAs b k m t n i.stand → Stood (n + 1) is → Stood (n + 1 + length is) es → Stood n (i ∷ (is ++ es))
  stood_cons n i is es s f g zero l = let z : n + 0 ≡ n = omega arith in rw z s
  stood_cons n i is es s f g (suc j) l = go (dec_lt j (length is))
    where
      go : Dec (j < length is) → StandsAs b k m t (n + suc j) (nth (is ++ es) j).stand
      go (yes h) = let z : n + suc j ≡ n + 1 + j = omega arith in rw (z, get_or-append is es no_item j h) (f j h)
      go (no h) =
          let z : n + suc j ≡ n + 1 + length is + (j - length is) = omega arith in
          let y : j ≡ length is + (j - length is) = omega arith in
          let w : (nth (is ++ es) j).stand ≡ (nth es (j - length is)).stand = ap (λ (x : ℕ). (nth (is ++ es) x).stand) y ∙ ap (λ (i : Item). i.stand) (get_or-append-add is es (j - length is) no_item) in
          rw (z, w) (g (j - length is) (omega (arith, length-append is es)))

  parent_is : (r : ℕ) → r < length all → row_parent t r ≡ (nth all r).parent
  parent_is r l = row_of t all ok r 0 l (omega arith)

  pub stood : {v : ℕ} {ms : List ℕ} {p n at : ℕ} {xs : List ℕ} {es : List Item} → Walked b k v ms p n at xs es → Stand all n es → level_of b k (body_level b m) t p ≡ v → p ≤ n
      → Sub m at xs → Tells b k v t p ms n → Stood n es
  unfolding item_of
  stood ends s lev u c d = λ j l. absurd (omega arith)
  stood (alone {v = v} {m = ms} {p = p} {n = n} {at = at} {xs = xs} {es = es} h a e q) s lev u c d =
      let i = element-row v p n at xs ms h a c (omega (arith, s.room)) (stand-head s) in
      let z : n + 1 + 0 ≡ n + 1 = omega arith in
      stood_cons n (item_of b k v ms p at h) [] es (stands b k m t v p at n ms h d lev i) (λ j l. absurd (omega arith))
      (rw z (stood q (stand-tail s) lev (omega arith) (sub-drop m at (element_header + h.len) (at + element_header + h.len) xs (omega arith) c)
      (tells-next b fine k v t p ms n h i.parent i.typ i.inst d)))
  stood (group {v = v} {m = ms} {p = p} {n = n} {at = at} {xs = xs} {is = is} {es = es} h g a e w q) s lev u c d =
      let i = element-row v p n at xs ms h a c (omega (arith, s.room)) (stand-head s) in
      let f : n + 1 ≡ suc n = omega arith in
      let s₁ : Stand all (n + 1) (is ++ es) = stand-tail s in
      let inner : level_of b k (body_level b m) t (n + 1) ≡ suc g = rw f (levels n ∙ ap (λ (x : Item). x.inside) (stand-head s) ∙ e) in
      stood_cons n (item_of b k v ms p at h) is es (stands b k m t v p at n ms h d lev i)
      (stood w (stand-left is es s₁) inner (omega arith) (sub-take m (at + element_header) h.len (drop element_header xs) (omega (arith, fits a, length-drop element_header xs)) (sub-drop m at element_header (at + element_header) xs (omega arith) c))
      (tells-fresh b fine k (suc g) t (n + 1) (n + 1) (λ y l r. omega (arith, parent_is y (omega (arith, s.room)), back y (omega (arith, s.room)), r))))
      (stood q (stand-right is es s₁) lev (omega arith) (sub-drop m at (element_header + h.len) (at + element_header + h.len) xs (omega arith) c)
      (tells-past b fine k v t p (marked b k v ms h) (n + 1) (n + 1 + length is) (omega arith) (inside-others t all ok n p is u (stand-left is es s₁) (parents w (omega arith)))
      (tells-next b fine k v t p ms n h i.parent i.typ i.inst d)))
