-- What was walked of a run before it is cut at q, with its elements: the derivation CutAt with the rows kept. Its octets before q are covered, its rows
-- begin before q, and at q a level goes on with no whole element. Assumes nothing.
use mathlib.Core.Path.{◌≡◌, refl, sym, ap, ◌∙◌}
use mathlib.Core.Bool.{false}
use mathlib.Core.List.{List, [], ◌∷◌, ◌++◌, append_assoc, append-nil}
use Prim.Native.Nat.{ℕ, zero, suc, ◌+◌, ◌≤◌, ◌<◌}
use native.Mathlib.Omega.{arith}
use native.Mathlib.Decide.{dec_lt}
use lib.ListN.{length, take, drop, length-append}
use Rattle.rules.specs.Framing.{element_header}
use Rattle.rules.specs.Listings.{Book}
use Rattle.rules.specs.Standing.{Item, fresh, item_of, marked, entered}
use Rattle.rules.specs.Taking.{cut, walk, add_item, at_end}
use Rattle.rules.specs.Met.{At, Met, CutAt}
use Rattle.rules.specs.Frames.{Element, seen}
use Rattle.rules.proofs.Heads.{fits, rest-length, value-length}
use Rattle.rules.proofs.Walks.{walk-cut}
use Rattle.rules.proofs.Mets.{walk-alone, walk-group, met-walk, add_number, made-items}
use Rattle.rules.proofs.Rows.{Every, every_append, every_map}
use Rattle.rules.proofs.Places.{Stand, stand-tail, stand-left, stand-right, Ranged, ranged}
use Rattle.rules.proofs.Walked.{Walked, ends, alone, group, met-walked}
use Rattle.tables.proofs.Filling.{Covered, cover_here, cover_own, Inner, among-all, inner-later, cover_inside}

-- level, marks, parent, rows before, place of the first octet left, octets left, elements, place of the cut
pub data Part (b : Book) (k : ℕ) : ℕ → List ℕ → ℕ → ℕ → ℕ → List ℕ → List Item → ℕ → Type 0 where
  here : {v : ℕ} {m : List ℕ} {p n at : ℕ} {xs : List ℕ} → 0 < length xs → (seen xs).whole ≡ false → Part b k v m p n at xs [] at
  later : {v : ℕ} {m : List ℕ} {p n at : ℕ} {xs : List ℕ} {es : List Item} {q : ℕ} (h : Element) → At xs h → entered b k v m h ≡ 0
      → Part b k v (marked b k v m h) p (n + 1) (at + element_header + h.len) (drop (element_header + h.len) xs) es q
      → Part b k v m p n at xs (item_of b k v m p at h ∷ es) q
  within : {v : ℕ} {m : List ℕ} {p n at : ℕ} {xs : List ℕ} {is : List Item} {q : ℕ} (h : Element) (g : ℕ) → At xs h → entered b k v m h ≡ suc g
      → Part b k (suc g) fresh (n + 1) (n + 1) (at + element_header) (take h.len (drop element_header xs)) is q
      → Part b k v m p n at xs (item_of b k v m p at h ∷ (is ++ [])) q
  behind : {v : ℕ} {m : List ℕ} {p n at : ℕ} {xs : List ℕ} {is es : List Item} {q : ℕ} (h : Element) (g : ℕ) → At xs h → entered b k v m h ≡ suc g
      → Met b k (suc g) fresh (n + 1) (n + 1) (at + element_header) (take h.len (drop element_header xs)) is
      → Part b k v (marked b k v m h) p (n + 1 + length is) (at + element_header + h.len) (drop (element_header + h.len) xs) es q
      → Part b k v m p n at xs (item_of b k v m p at h ∷ (is ++ es)) q

pub part_of : {b : Book} {k v : ℕ} {m : List ℕ} {n at : ℕ} {xs : List ℕ} {q : ℕ} → CutAt b k v m n at xs q → (p : ℕ) → (es : List Item) × Part b k v m p n at xs es q
part_of (CutAt.here pos w) p = ([], here pos w)
part_of {b} {k} (CutAt.later {v = v} {m = m} {at = at} h a e t) p = let r = part_of t p in (item_of b k v m p at h ∷ r.0, later h a e r.1)
part_of {b} {k} (CutAt.within {v = v} {m = m} {n = n} {at = at} h g a e t) p = let r = part_of t (n + 1) in (item_of b k v m p at h ∷ (r.0 ++ []), within h g a e r.1)
part_of {b} {k} (CutAt.behind {v = v} {m = m} {at = at} {is = is} h g a e d t) p = let r = part_of t p in (item_of b k v m p at h ∷ (is ++ r.0), behind h g a e d r.1)

pub part-walked : {b : Book} {k v : ℕ} {m : List ℕ} {p n at : ℕ} {xs : List ℕ} {es : List Item} {q : ℕ} → Part b k v m p n at xs es q → Walked b k v m p n at xs es
part-walked (here pos w) = ends
part-walked (later h a e t) = alone h a e (part-walked t)
part-walked (within h g a e t) = group h g a e (part-walked t) ends
part-walked (behind h g a e d t) = group h g a e (met-walked d) (part-walked t)

-- how many octets the level has left where it is cut
unfoldable pub left_of : {b : Book} {k v : ℕ} {m : List ℕ} {p n at : ℕ} {xs : List ℕ} {es : List Item} {q : ℕ} → Part b k v m p n at xs es q → ℕ
left_of (here {xs = xs} pos w) = length xs
left_of (later h a e t) = left_of t
left_of (within h g a e t) = left_of t
left_of (behind h g a e d t) = left_of t

-- its elements are those that the walk has gathered where it is cut
pub part-walk : {b : Book} {k v : ℕ} {m : List ℕ} {p n at : ℕ} {xs : List ℕ} {es : List Item} {q : ℕ} → Part b k v m p n at xs es q → (o : ℕ) (s : List Item) → length s ≡ n
    → walk b k (List Item) add_item at_end length v m p o at xs s ≡ cut q (s ++ es)
part-walk {b} {k} (here {v = v} {m = m} {p = p} {at = at} {xs = xs} pos w) o s c =
    walk-cut b k (List Item) add_item at_end length v m p o at xs s pos w ∙ ap (cut at) (sym (append-nil s))
part-walk {b} {k} {q = q} (later {v = v} {m = m} {p = p} {at = at} {xs = xs} {es = es} h a e t) o s c =
    let i = item_of b k v m p at h in
    walk-alone b k (List Item) add_item at_end length add_number (λ s w m o. refl) v m p o at xs s h a e
    ∙ part-walk t o (add_item s i) (omega (arith, add_number s i)) ∙ ap (cut q) (append_assoc s (i ∷ []) es)
part-walk {b} {k} {q = q} (within {v = v} {m = m} {p = p} {at = at} {xs = xs} {is = is} h g a e t) o s c =
    let i = item_of b k v m p at h in
    walk-group b k (List Item) add_item at_end length add_number (λ s w m o. refl) v m p o at xs s h a g e
    ∙ rw (c, part-walk t at (add_item s i) (omega (arith, add_number s i)), append_assoc s (i ∷ []) is, append-nil is)
part-walk {b} {k} {q = q} (behind {v = v} {m = m} {p = p} {at = at} {xs = xs} {is = is} {es = es} h g a e d t) o s c =
    let i = item_of b k v m p at h in
    let w = met-walk b k (List Item) add_item at_end length add_number (λ s w m o. refl) d at (add_item s i) (omega (arith, add_number s i)) in
    walk-group b k (List Item) add_item at_end length add_number (λ s w m o. refl) v m p o at xs s h a g e
    ∙ rw (c, w, made-items d at (add_item s i), append_assoc s (i ∷ []) is)
    (part-walk t o (s ++ (i ∷ is)) (omega (arith, length-append s (i ∷ is))) ∙ ap (cut q) (append_assoc s (i ∷ is) es))

-- ---- where q stands

pub part_range : {b : Book} {k v : ℕ} {m : List ℕ} {p n at : ℕ} {xs : List ℕ} {es : List Item} {q : ℕ} → Part b k v m p n at xs es q → (at ≤ q) × (q < at + length xs)
part_range (here pos w) = (omega arith, omega arith)
part_range (later {xs = xs} h a e t) = let r = part_range t in (omega (arith, r.0), omega (arith, r.1, rest-length xs h.len (fits a)))
part_range (within {xs = xs} h g a e t) = let r = part_range t in (omega (arith, r.0), omega (arith, r.1, value-length xs h.len (fits a), fits a))
part_range (behind {xs = xs} h g a e d t) = let r = part_range t in (omega (arith, r.0), omega (arith, r.1, rest-length xs h.len (fits a)))

-- ---- rows begin before q

pub part-before : {b : Book} {k v : ℕ} {m : List ℕ} {p n at : ℕ} {xs : List ℕ} {es : List Item} {q : ℕ} → Part b k v m p n at xs es q → Every (λ i. i.place < q) es
unfolding Every item_of
part-before (here pos w) = tt
part-before (later h a e t) = (omega (arith, (part_range t).0), part-before t)
part-before {q = q} (within {is = is} h g a e t) = (omega (arith, (part_range t).0), every_append (λ i. i.place < q) is [] (part-before t) tt)
part-before {q = q} (behind {n = n} {at = at} {xs = xs} {is = is} {es = es} h g a e d t) = (
  omega (arith, (part_range t).0),
  every_append (λ i. i.place < q) is es
      (every_map (Ranged (n + 1) (n + 1) (at + element_header) (at + element_header + length (take h.len (drop element_header xs))) (n + 1 + length is)) (λ i. i.place < q) is
      (λ i r. omega (arith, r.finishes, (part_range t).0, value-length xs h.len (fits a))) (ranged d (omega arith)))
      (part-before t),
)

-- ---- octets before q are covered

pub cover_to : {b : Book} {k v : ℕ} {m : List ℕ} {p n at : ℕ} {xs : List ℕ} {es : List Item} {q : ℕ} → Part b k v m p n at xs es q
    → (j : ℕ) → at ≤ j → j < at + length xs → j < q → Covered p j es
unfolding item_of
cover_to (here pos w) j a c l = absurd (omega arith)
cover_to {b} {k} (later {v = v} {m = m} {p = p} {at = at} {xs = xs} {es = es} h w e t) j a c l =
    cover_here p j (item_of b k v m p at h) [] es refl a (λ f. cover_to t j f (omega (arith, rest-length xs h.len (fits w))) l) (dec_lt j (at + element_header + h.len))
cover_to {b} {k} (within {v = v} {m = m} {p = p} {at = at} {xs = xs} {is = is} h g w e t) j a c l =
    cover_here p j (item_of b k v m p at h) is [] refl a (λ f. absurd (omega (arith, (part_range t).1, value-length xs h.len (fits w), f, l))) (dec_lt j (at + element_header + h.len))
cover_to {b} {k} (behind {v = v} {m = m} {p = p} {at = at} {xs = xs} {is = is} {es = es} h g w e d t) j a c l =
    cover_here p j (item_of b k v m p at h) is es refl a (λ f. cover_to t j f (omega (arith, rest-length xs h.len (fits w))) l) (dec_lt j (at + element_header + h.len))

pub cover_inside-to : {b : Book} {k v : ℕ} {m : List ℕ} {p n at : ℕ} {xs : List ℕ} {es : List Item} {q : ℕ} → Part b k v m p n at xs es q → (all : List Item) → Stand all n es
    → (y : ℕ) → y < length es → (j : ℕ) → j < q → Inner all n es y j
unfolding item_of
cover_inside-to (here pos w) all s y l j f = absurd (omega arith)
cover_inside-to (later h w e t) all s zero l j f = λ o a c. absurd (omega (arith, o, e))
cover_inside-to {b} {k} (later {v = v} {m = m} {p = p} {n = n} {at = at} {es = es} h w e t) all s (suc y) l j f =
    inner-later all n (item_of b k v m p at h) [] es y j (omega arith) (λ u c. absurd (omega arith))
    (λ u c. let z : n + 1 + 0 ≡ n + 1 = omega arith in rw z (cover_inside-to t all (stand-tail s) u c j f)) (dec_lt y 0)
cover_inside-to {b} {k} (within {v = v} {m = m} {p = p} {n = n} {at = at} {xs = xs} {is = is} h g w e t) all s zero l j f =
    λ o a c. let z : n + 1 ≡ suc (n + 0) = omega arith in
    rw z at (among-all all (n + 1) is (n + 1) j (stand-left is [] (stand-tail s)) (cover_to t j a (omega (arith, c, value-length xs h.len (fits w))) f))
cover_inside-to {b} {k} (within {v = v} {m = m} {p = p} {n = n} {at = at} {is = is} h g w e t) all s (suc y) l j f =
    inner-later all n (item_of b k v m p at h) is [] y j (omega arith) (λ u c. cover_inside-to t all (stand-left is [] (stand-tail s)) u c j f) (λ u c. absurd (omega arith))
    (dec_lt y (length is))
cover_inside-to {b} {k} (behind {v = v} {m = m} {p = p} {n = n} {at = at} {xs = xs} {is = is} {es = es} h g w e d t) all s zero l j f =
    λ o a c. let z : n + 1 ≡ suc (n + 0) = omega arith in
    rw z at (among-all all (n + 1) is (n + 1) j (stand-left is es (stand-tail s)) (cover_own d j a (omega (arith, c, value-length xs h.len (fits w)))))
cover_inside-to {b} {k} (behind {v = v} {m = m} {p = p} {n = n} {at = at} {is = is} {es = es} h g w e d t) all s (suc y) l j f =
    inner-later all n (item_of b k v m p at h) is es y j (omega arith) (λ u c. cover_inside d all (stand-left is es (stand-tail s)) u c j)
    (λ u c. cover_inside-to t all (stand-right is es (stand-tail s)) u c j f) (dec_lt y (length is))
