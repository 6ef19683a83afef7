-- A row ends no later than its parent, and begins where its elder sibling has ended. Assumes nothing.
use mathlib.Core.Path.{◌≡◌, ap}
use mathlib.Core.List.{List, ◌++◌}
use Prim.Native.Nat.{ℕ, zero, suc, ◌+◌, ◌≤◌, ◌<◌}
use native.Mathlib.Omega.{arith}
use lib.ListN.{length, take, drop}
use Rattle.rules.specs.Framing.{element_header}
use Rattle.rules.specs.Listings.{Book}
use Rattle.rules.specs.Standing.{Item, item_of, value_place, value_end}
use Rattle.rules.proofs.Heads.{fits, rest-length, value-length}
use Rattle.rules.specs.Table.{nth}
use Rattle.rules.proofs.Rows.{Every, every_append, every_map}
use Rattle.rules.proofs.Places.{Pairwise, pairwise_append, Stand, stand-tail, stand-left, stand-right, stand-head, Ranged, all-ranged, In, Aft}
use Rattle.rules.proofs.Walked.{Walked, ends, alone, group}
use Rattle.tables.specs.Places.{Within, Lies, Apart}

-- ---- rows within parents

within-less : (all : List Item) (base top p lo hi lo' hi' : ℕ) → Within all base top p lo hi → lo ≤ lo' → hi' ≤ hi → Within all base top p lo' hi'
unfolding Within
within-less all base top zero lo hi lo' hi' h a c = (omega (arith, h.0), omega (arith, h.1))
within-less all base top (suc q) lo hi lo' hi' h a c = (h.0, omega (arith, h.1), omega (arith, h.2))

within-row : (all : List Item) (base top n : ℕ) (i : Item) → n < length all → nth all n ≡ i → Within all base top (n + 1) (value_place i) (value_end i)
unfolding Within
within-row all base top n i l e =
    let s : n + 1 ≡ suc n = omega arith in
    rw s (l, omega (arith, ap (λ (x : Item). x.place) e), omega (arith, ap (λ (x : Item). x.place) e, ap (λ (x : Item). x.len) e))

pub lies : {b : Book} {k v : ℕ} {m : List ℕ} {p n at : ℕ} {xs : List ℕ} {es : List Item} → Walked b k v m p n at xs es → (all : List Item) (base top : ℕ)
    → Stand all n es → Within all base top p at (at + length xs) → Every (Lies all base top) es
unfolding Every item_of
lies ends all base top s h = tt
lies {b} {k} (alone {v = v} {m = m} {p = p} {n = n} {at = at} {xs = xs} {es = es} d a e t) all base top s h =
    let f = fits a in let r = rest-length xs d.len f in (
      within-less all base top p at (at + length xs) at (at + element_header + d.len) h (omega arith) (omega (arith, f)),
      lies t all base top (stand-tail s)
          (within-less all base top p at (at + length xs) (at + element_header + d.len) (at + element_header + d.len + length (drop (element_header + d.len) xs)) h (omega arith) (omega (arith, r))),
    )
lies {b} {k} (group {v = v} {m = m} {p = p} {n = n} {at = at} {xs = xs} {is = is} {es = es} d g a e i t) all base top s h =
    let f = fits a in let r = rest-length xs d.len f in let q = value-length xs d.len f in
    let s₁ : Stand all (n + 1) (is ++ es) = stand-tail s in (
      within-less all base top p at (at + length xs) at (at + element_header + d.len) h (omega arith) (omega (arith, f)),
      every_append (Lies all base top) is es
          (lies i all base top (stand-left is es s₁) (rw q (within-row all base top n (item_of b k v m p at d) (omega (arith, s.room)) (stand-head s))))
          (lies t all base top (stand-right is es s₁)
          (within-less all base top p at (at + length xs) (at + element_header + d.len) (at + element_header + d.len + length (drop (element_header + d.len) xs)) h (omega arith) (omega (arith, r)))),
    )

-- ---- siblings

module _ {b : Book} {k v : ℕ} {m : List ℕ} {p n : ℕ} {is es : List Item} {g : ℕ} {m' : List ℕ} {at₁ at₂ : ℕ} {ys zs : List ℕ}
    (i : Walked b k (suc g) m (n + 1) (n + 1) at₁ ys is) (t : Walked b k v m' p (n + 1 + length is) at₂ zs es) (le : p ≤ n) (past : at₁ + length ys ≤ at₂) where
  pub inside-apart : Every (λ x. Every (Apart x) es) is
  inside-apart =
      every_map (In i t le past) (λ x. Every (Apart x) es) is
      (λ x r. every_map (Aft i t le past) (Apart x) es (λ y s z. absurd (omega (arith, r.least, r.most, z, s.own (λ u. omega (arith, r.least, u, z))))) (all-ranged t (omega arith)))
      (all-ranged i (omega arith))

pub apart : {b : Book} {k v : ℕ} {m : List ℕ} {p n at : ℕ} {xs : List ℕ} {es : List Item} → Walked b k v m p n at xs es → p ≤ n → Pairwise Apart es
unfolding Pairwise item_of
apart ends l = tt
apart {b} {k} (alone {v = v} {m = m} {p = p} {n = n} {at = at} {xs = xs} {es = es} d a e t) l = (
  every_map (Ranged p (n + 1) (at + element_header + d.len) (at + element_header + d.len + length (drop (element_header + d.len) xs)) (n + 1 + length es))
      (Apart (item_of b k v m p at d)) es (λ j r c. r.begins) (all-ranged t (omega arith)),
  apart t (omega arith),
)
apart {b} {k} (group {v = v} {m = m} {p = p} {n = n} {at = at} {xs = xs} {is = is} {es = es} d g a e i t) l =
    let q = value-length xs d.len (fits a) in (
      every_append (Apart (item_of b k v m p at d)) is es
          (every_map (Ranged (n + 1) (n + 1) (at + element_header) (at + element_header + length (take d.len (drop element_header xs))) (n + 1 + length is))
          (Apart (item_of b k v m p at d)) is (λ j r c. absurd (omega (arith, r.least, c))) (all-ranged i (omega arith)))
          (every_map (Ranged p (n + 1 + length is) (at + element_header + d.len) (at + element_header + d.len + length (drop (element_header + d.len) xs)) (n + 1 + length is + length es))
          (Apart (item_of b k v m p at d)) es (λ j r c. r.begins) (all-ranged t (omega arith))),
      pairwise_append Apart is es (apart i (omega arith)) (apart t (omega arith)) (inside-apart i t l (omega (arith, q))),
    )
