-- The walk and the derivations say the same, whatever is made of the elements. Assumes nothing.
--     met-walk  a whole run is whole in every walk             cut-walk  a cut run is cut at that place in every walk
--     reads     each run is whole or cut                       whole-met, met-whole, cut-met, met-cut   the same of the elements themselves
use mathlib.Core.Path.{◌≡◌, refl, sym, ap, ◌∙◌}
use mathlib.Core.Logic.{◌⊎◌, inl, inr}
use mathlib.Core.Bool.{Bool, true, false}
use mathlib.Core.List.{List, [], ◌∷◌, ◌++◌, append_assoc, append-nil}
use Prim.Native.Nat.{ℕ, zero, suc, ◌+◌, ◌≤◌, ◌<◌}
use native.Mathlib.Omega.{arith}
use native.Mathlib.Nat.{add-zero}
use lib.ListN.{length, take, drop, length-append}
use Rattle.rules.specs.Framing.{element_header}
use Rattle.rules.specs.Listings.{Book}
use Rattle.rules.specs.Standing.{Item, fresh, item_of, marked, entered}
use Rattle.rules.specs.Taking.{cut, whole, after, walk, add_item, at_end, items_of}
use Rattle.rules.specs.Met.{At, Met, ends, alone, group, CutAt, here, later, within, behind}
use Rattle.rules.specs.Frames.{Element, seen}
use Rattle.rules.proofs.Heads.{fits}
use Rattle.rules.proofs.Walks.{inside_shorter, rest_shorter, walk_nil, walk-cut, walk_more, in_none, in_some}

pub some-octets : {xs : List ℕ} {h : Element} → At xs h → 0 < length xs
some-octets {xs} {h} a = omega (arith, fits a)

module _ (b : Book) (k : ℕ) (S : Type 0) (one : S → Item → S) (shut : S → ℕ → List ℕ → ℕ → S) (number : S → ℕ) where
  -- what is made of a whole run; o is the place of its level
  unfoldable pub made : {v : ℕ} {m : List ℕ} {p n at : ℕ} {xs : List ℕ} {es : List Item} → Met b k v m p n at xs es → ℕ → S → S
  made (ends {v = v} {m = m}) o s = shut s v m o
  made (alone {v = v} {m = m} {p = p} {at = at} h a e t) o s = made t o (one s (item_of b k v m p at h))
  made (group {v = v} {m = m} {p = p} {at = at} h g a e d t) o s = made t o (made d at (one s (item_of b k v m p at h)))

module _ (b : Book) (k : ℕ) (S : Type 0) (one : S → Item → S) (shut : S → ℕ → List ℕ → ℕ → S) (number : S → ℕ)
    (n-one : (s : S) (i : Item) → number (one s i) ≡ number s + 1)
    (n-shut : (s : S) (v : ℕ) (m : List ℕ) (o : ℕ) → number (shut s v m o) ≡ number s) where
  pub made-number : {v : ℕ} {m : List ℕ} {p n at : ℕ} {xs : List ℕ} {es : List Item} (d : Met b k v m p n at xs es) (o : ℕ) (s : S)
      → number (made b k S one shut number d o s) ≡ number s + length es
  unfolding made
  made-number (ends {v = v} {m = m}) o s = n-shut s v m o ∙ sym (add-zero (number s))
  made-number (alone {v = v} {m = m} {p = p} {at = at} h a e t) o s =
      let i = item_of b k v m p at h in omega (arith, made-number t o (one s i), n-one s i)
  made-number (group {v = v} {m = m} {p = p} {at = at} {is = is} {es = es} h g a e d t) o s =
      let i = item_of b k v m p at h in
      omega (arith, made-number t o (made b k S one shut number d at (one s i)), made-number d at (one s i), n-one s i, length-append is es)

  module _ (v : ℕ) (m : List ℕ) (p o at : ℕ) (xs : List ℕ) (s : S) (h : Element) (a : At xs h) where
    -- one element that is not entered
    pub walk-alone : entered b k v m h ≡ 0
        → walk b k S one shut number v m p o at xs s
        ≡ walk b k S one shut number v (marked b k v m h) p o (at + element_header + h.len) (drop (element_header + h.len) xs) (one s (item_of b k v m p at h))
    walk-alone e =
        walk_more b k S one shut number v m p o at xs s (some-octets a) (rw a.is a.whole)
        ∙ rw (a.is, e, in_none b k S one shut number at (take h.len (drop element_header xs)) (one s (item_of b k v m p at h)))

    -- one that is
    pub walk-group : (g : ℕ) → entered b k v m h ≡ suc g
        → walk b k S one shut number v m p o at xs s
        ≡ after
        (walk b k S one shut number (suc g) fresh (number s + 1) at (at + element_header) (take h.len (drop element_header xs)) (one s (item_of b k v m p at h)))
        (walk b k S one shut number v (marked b k v m h) p o (at + element_header + h.len) (drop (element_header + h.len) xs))
    walk-group g e =
        walk_more b k S one shut number v m p o at xs s (some-octets a) (rw a.is a.whole)
        ∙ rw (a.is, e, in_some b k S one shut number g at (take h.len (drop element_header xs)) (one s (item_of b k v m p at h)), n-one s (item_of b k v m p at h))

  pub met-walk : {v : ℕ} {m : List ℕ} {p n at : ℕ} {xs : List ℕ} {es : List Item} (d : Met b k v m p n at xs es) (o : ℕ) (s : S) → number s ≡ n
      → walk b k S one shut number v m p o at xs s ≡ whole (made b k S one shut number d o s)
  unfolding made
  met-walk (ends {v = v} {m = m} {p = p} {at = at}) o s c = walk_nil b k S one shut number v m p o at [] s refl
  met-walk (alone {v = v} {m = m} {p = p} {at = at} {xs = xs} h a e t) o s c =
      let i = item_of b k v m p at h in
      walk-alone v m p o at xs s h a e ∙ met-walk t o (one s i) (omega (arith, n-one s i))
  met-walk (group {v = v} {m = m} {p = p} {at = at} {xs = xs} {is = is} h g a e d t) o s c =
      let i = item_of b k v m p at h in
      let s₁ = one s i in
      let s₂ = made b k S one shut number d at s₁ in
      walk-group v m p o at xs s h a g e
      ∙ rw (c, met-walk d at s₁ (omega (arith, n-one s i)))
      (met-walk t o s₂ (omega (arith, made-number d at s₁, n-one s i)))

  pub cut-walk : {v : ℕ} {m : List ℕ} {n at : ℕ} {xs : List ℕ} {q : ℕ} → CutAt b k v m n at xs q → (p o : ℕ) (s : S) → number s ≡ n
      → (s' : S) × (walk b k S one shut number v m p o at xs s ≡ cut q s')
  cut-walk (here {v = v} {m = m} {at = at} {xs = xs} pos w) p o s c = (s, walk-cut b k S one shut number v m p o at xs s pos w)
  cut-walk (later {v = v} {m = m} {at = at} {xs = xs} h a e t) p o s c =
      let i = item_of b k v m p at h in
      let r = cut-walk t p o (one s i) (omega (arith, n-one s i)) in
      (r.0, walk-alone v m p o at xs s h a e ∙ r.1)
  cut-walk (within {v = v} {m = m} {n = n} {at = at} {xs = xs} h g a e t) p o s c =
      let i = item_of b k v m p at h in
      let r = cut-walk t (number s + 1) at (one s i) (omega (arith, n-one s i)) in
      (r.0, walk-group v m p o at xs s h a g e ∙ rw r.1)
  cut-walk (behind {v = v} {m = m} {at = at} {xs = xs} {is = is} h g a e d t) p o s c =
      let i = item_of b k v m p at h in
      let s₁ = one s i in
      let s₂ = made b k S one shut number d at s₁ in
      let w : walk b k S one shut number (suc g) fresh (number s + 1) at (at + element_header) (take h.len (drop element_header xs)) (one s (item_of b k v m p at h))
      ≡ whole (made b k S one shut number d at (one s (item_of b k v m p at h))) = rw c (met-walk d at s₁ (omega (arith, n-one s i))) in
      let r = cut-walk t p o s₂ (omega (arith, made-number d at s₁, n-one s i)) in
      (r.0, walk-group v m p o at xs s h a g e ∙ rw w r.1)

-- ---- each run is whole or cut

module _ (b : Book) (k : ℕ) where
  abbrev pub Reads : ℕ → List ℕ → ℕ → ℕ → ℕ → List ℕ → Type 0
  Reads v m p n at xs = ((es : List Item) × Met b k v m p n at xs es) ⊎ ((q : ℕ) × CutAt b k v m n at xs q)

  reads-alone : (v : ℕ) (m : List ℕ) (p n at : ℕ) (xs : List ℕ) (h : Element) → At xs h → entered b k v m h ≡ 0
      → Reads v (marked b k v m h) p (n + 1) (at + element_header + h.len) (drop (element_header + h.len) xs) → Reads v m p n at xs
  reads-alone v m p n at xs h a e (inl (es, t)) = inl (item_of b k v m p at h ∷ es, alone h a e t)
  reads-alone v m p n at xs h a e (inr (q, t)) = inr (q, later h a e t)

  reads-group : (v : ℕ) (m : List ℕ) (p n at : ℕ) (xs : List ℕ) (h : Element) (g : ℕ) → At xs h → entered b k v m h ≡ suc g
      → Reads (suc g) fresh (n + 1) (n + 1) (at + element_header) (take h.len (drop element_header xs))
      → ((c : ℕ) → Reads v (marked b k v m h) p c (at + element_header + h.len) (drop (element_header + h.len) xs)) → Reads v m p n at xs
  reads-group v m p n at xs h g a e (inr (q, t)) r = inr (q, within h g a e t)
  reads-group v m p n at xs h g a e (inl (is, d)) r = go (r (n + 1 + length is))
    where
      go : Reads v (marked b k v m h) p (n + 1 + length is) (at + element_header + h.len) (drop (element_header + h.len) xs) → Reads v m p n at xs
      go (inl (es, t)) = inl (item_of b k v m p at h ∷ (is ++ es), group h g a e d t)
      go (inr (q, t)) = inr (q, behind h g a e d t)

  abbrev Below : ℕ → Type 0
  Below f = (v : ℕ) (m : List ℕ) (p n at : ℕ) (xs : List ℕ) → length xs ≤ f → Reads v m p n at xs

  turn_in : (f : ℕ) → Below f → (v : ℕ) (m : List ℕ) (p n at : ℕ) (xs : List ℕ) → length xs ≤ suc f → At xs (seen xs)
      → (g : ℕ) → entered b k v m (seen xs) ≡ g → Reads v m p n at xs
  turn_in f rec v m p n at xs l a zero e =
      let h = seen xs in
      reads-alone v m p n at xs h a e
      (rec v (marked b k v m h) p (n + 1) (at + element_header + h.len) (drop (element_header + h.len) xs) (omega (arith, rest_shorter h.len xs (some-octets a))))
  turn_in f rec v m p n at xs l a (suc g) e =
      let h = seen xs in
      reads-group v m p n at xs h g a e
      (rec (suc g) fresh (n + 1) (n + 1) (at + element_header) (take h.len (drop element_header xs)) (omega (arith, inside_shorter h.len xs (some-octets a))))
      (λ c. rec v (marked b k v m h) p c (at + element_header + h.len) (drop (element_header + h.len) xs) (omega (arith, rest_shorter h.len xs (some-octets a))))

  turn : (f : ℕ) → Below f → (v : ℕ) (m : List ℕ) (p n at : ℕ) (xs : List ℕ) → length xs ≤ suc f → 0 < length xs
      → (w : Bool) → (seen xs).whole ≡ w → Reads v m p n at xs
  turn f rec v m p n at xs l pos false w = inr (at, here pos w)
  turn f rec v m p n at xs l pos true w = turn_in f rec v m p n at xs l (record { is = refl; whole = w }) (entered b k v m (seen xs)) refl

  reads-by : (f : ℕ) → Below f
  reads-by zero v m p n at [] l = inl ([], ends)
  reads-by (suc f) v m p n at [] l = inl ([], ends)
  reads-by zero v m p n at (x ∷ xs) l = absurd (omega arith)
  reads-by (suc f) v m p n at (x ∷ xs) l =
      turn f (λ v' m' p' n' at' ys c. reads-by f v' m' p' n' at' ys c) v m p n at (x ∷ xs) l (omega arith) (seen (x ∷ xs)).whole refl

  pub reads : (v : ℕ) (m : List ℕ) (p n at : ℕ) (xs : List ℕ) → Reads v m p n at xs
  reads v m p n at xs = reads-by (length xs) v m p n at xs (omega arith)

-- ---- the elements themselves

pub add_number : (is : List Item) (i : Item) → length (add_item is i) ≡ length is + 1
add_number is i = length-append is (i ∷ [])

pub made-items : {b : Book} {k v : ℕ} {m : List ℕ} {p n at : ℕ} {xs : List ℕ} {es : List Item} (d : Met b k v m p n at xs es) (o : ℕ) (s : List Item)
    → made b k (List Item) add_item at_end length d o s ≡ s ++ es
unfolding made
made-items ends o s = sym (append-nil s)
made-items {b} {k} (alone {v = v} {m = m} {p = p} {at = at} {es = es} h a e t) o s =
    let i = item_of b k v m p at h in made-items t o (add_item s i) ∙ append_assoc s (i ∷ []) es
made-items {b} {k} (group {v = v} {m = m} {p = p} {at = at} {is = is} {es = es} h g a e d t) o s =
    let i = item_of b k v m p at h in
    made-items t o (made b k (List Item) add_item at_end length d at (add_item s i))
    ∙ rw (made-items d at (add_item s i), append_assoc s (i ∷ []) is, append_assoc s (i ∷ is) es)

module _ (b : Book) (k v at : ℕ) (xs : List ℕ) where
  pub met-whole : {es : List Item} → Met b k v fresh 0 0 at xs es → items_of b k v at xs ≡ whole es
  unfolding items_of
  met-whole {es} d = met-walk b k (List Item) add_item at_end length add_number (λ s w m o. refl) d 0 [] refl ∙ ap whole (made-items d 0 [])

  pub met-cut : {q : ℕ} → CutAt b k v fresh 0 at xs q → (is : List Item) × (items_of b k v at xs ≡ cut q is)
  unfolding items_of
  met-cut d = cut-walk b k (List Item) add_item at_end length add_number (λ s w m o. refl) d 0 0 [] refl

  pub whole-met : (es : List Item) → items_of b k v at xs ≡ whole es → Met b k v fresh 0 0 at xs es
  whole-met es e = go (reads b k v fresh 0 0 at xs)
    where
      go : Reads b k v fresh 0 0 at xs → Met b k v fresh 0 0 at xs es
      go (inl (fs, d)) = let c : whole es ≡ whole fs = sym e ∙ met-whole d in let c' : fs ≡ es = cc in rw c' at d
      go (inr (q, d)) = let r = met-cut d in let c : whole es ≡ cut q r.0 = sym e ∙ r.1 in let z : ◌≡◌ {A = ℕ} 0 1 = cc in absurd (omega arith)

  pub cut-met : (q : ℕ) (is : List Item) → items_of b k v at xs ≡ cut q is → CutAt b k v fresh 0 at xs q
  cut-met q is e = go (reads b k v fresh 0 0 at xs)
    where
      go : Reads b k v fresh 0 0 at xs → CutAt b k v fresh 0 at xs q
      go (inl (fs, d)) = let c : cut q is ≡ whole fs = sym e ∙ met-whole d in let z : ◌≡◌ {A = ℕ} 0 1 = cc in absurd (omega arith)
      go (inr (q', d)) = let r = met-cut d in let c : cut q is ≡ cut q' r.0 = sym e ∙ r.1 in let c' : q' ≡ q = cc in rw c' at d
