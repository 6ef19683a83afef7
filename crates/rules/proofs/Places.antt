-- Where the rows of a run stand: after the run's beginning and before its end, in the order of their places, and with parents of their own run. Assumes nothing.
--     all-ranged   the parents of a run's rows are the run's own parent or rows of the run before them; `ranged` of a whole run
--     parents      they are not before the run's own
--     rising       rows stand in the order of their places
use mathlib.Core.Path.{◌≡◌, refl, ◌∙◌}
use mathlib.Core.List.{List, [], ◌∷◌, ◌++◌}
use Prim.Native.Nat.{ℕ, zero, suc, ◌+◌, ◌≤◌, ◌<◌}
use native.Mathlib.Omega.{arith}
use native.Mathlib.Nat.{add-zero}
use lib.ListN.{length, take, drop, length-append, get_or-append}
use lib.Seq.{get_or-append-add}
use Rattle.rules.specs.Framing.{element_header}
use Rattle.rules.specs.Listings.{Book}
use Rattle.rules.specs.Standing.{Item, item_of, value_place, value_end}
use Rattle.rules.specs.Met.{Met}
use Rattle.rules.proofs.Heads.{fits, rest-length, value-length}
use Rattle.rules.specs.Table.{no_item, nth}
use Rattle.rules.proofs.Rows.{Every, every_append, every_map, every-at}
use Rattle.rules.proofs.Walked.{Walked, ends, alone, group, met-walked}

-- ---- each row and each later one

unfoldable pub Pairwise : (Item → Item → Type 0) → List Item → Type 0
Pairwise R [] = Unit {0}
Pairwise R (i ∷ is) = Every (R i) is × Pairwise R is

pub pairwise_append : (R : Item → Item → Type 0) (is js : List Item) → Pairwise R is → Pairwise R js → Every (λ i. Every (R i) js) is → Pairwise R (is ++ js)
unfolding Pairwise Every
pairwise_append R [] js a c e = c
pairwise_append R (i ∷ is) js a c e = (every_append (R i) is js a.0 e.0, pairwise_append R is js a.1 c e.1)

pub pairwise_at : (R : Item → Item → Type 0) (is : List Item) → Pairwise R is → (x y : ℕ) → x < y → y < length is → R (nth is x) (nth is y)
unfolding Pairwise
pairwise_at R [] a x y l c = absurd (omega arith)
pairwise_at R (i ∷ is) a x zero l c = absurd (omega arith)
pairwise_at R (i ∷ is) a zero (suc y) l c = every-at (R i) is a.0 y (omega arith)
pairwise_at R (i ∷ is) a (suc x) (suc y) l c = pairwise_at R is a.1 x y (omega arith) (omega arith)

-- ---- a run among all rows

-- the rows es stand in all, from number n on
pub record Stand (all : List Item) (n : ℕ) (es : List Item) : Type 0 where
  pub room : n + length es ≤ length all
  pub same : (j : ℕ) → j < length es → nth all (n + j) ≡ nth es j

pub stand-tail : {all : List Item} {n : ℕ} {i : Item} {es : List Item} → Stand all n (i ∷ es) → Stand all (n + 1) es
stand-tail {all} {n} {i} {es} s =
    record { room = omega (arith, s.room); same = λ j l. let e : n + 1 + j ≡ n + suc j = omega arith in rw e (s.same (suc j) (omega arith)) }

pub stand-left : {all : List Item} {n : ℕ} (is es : List Item) → Stand all n (is ++ es) → Stand all n is
stand-left is es s =
    record { room = omega (arith, s.room, length-append is es); same = λ j l. s.same j (omega (arith, length-append is es)) ∙ get_or-append is es no_item j l }

pub stand-right : {all : List Item} {n : ℕ} (is es : List Item) → Stand all n (is ++ es) → Stand all (n + length is) es
stand-right {all} {n} is es s = record {
  room = omega (arith, s.room, length-append is es);
  same = λ j l. let e : n + length is + j ≡ n + (length is + j) = omega arith in
      rw e (s.same (length is + j) (omega (arith, length-append is es)) ∙ get_or-append-add is es j no_item);
}

pub stand-head : {all : List Item} {n : ℕ} {i : Item} {es : List Item} → Stand all n (i ∷ es) → nth all n ≡ i
stand-head {all} {n} {i} {es} s = let e : n + 0 ≡ n = add-zero n in rw e at (s.same 0 (omega arith))

-- ---- where parents and places range

-- a row of a run with parent p, after n rows: it begins at or after `at` and ends by `end`, and its parent is p or a row of the run
pub record Ranged (p n at end top : ℕ) (j : Item) : Type 0 where
  pub begins : at ≤ j.place
  pub finishes : value_end j ≤ end
  pub least : p ≤ j.parent
  pub most : j.parent ≤ top
  pub own : (j.parent ≡ p → ⊥) → n < j.parent

ranged-more : (p n at end top n' at' end' top' : ℕ) (es : List Item) → n' ≤ n → at' ≤ at → end ≤ end' → top ≤ top'
    → Every (Ranged p n at end top) es → Every (Ranged p n' at' end' top') es
ranged-more p n at end top n' at' end' top' es a c d e h =
    every_map (Ranged p n at end top) (Ranged p n' at' end' top') es
    (λ j r. record { begins = omega (arith, r.begins); finishes = omega (arith, r.finishes); least = r.least; most = omega (arith, r.most); own = λ z. omega (arith, r.own z) }) h

-- the inside of row n + 1
ranged-inside : (n at end top p at' end' top' : ℕ) (es : List Item) → p ≤ n → at' ≤ at → end ≤ end' → top ≤ top'
    → Every (Ranged (n + 1) (n + 1) at end top) es → Every (Ranged p n at' end' top') es
ranged-inside n at end top p at' end' top' es a c d e h =
    every_map (Ranged (n + 1) (n + 1) at end top) (Ranged p n at' end' top') es
    (λ j r. record { begins = omega (arith, r.begins); finishes = omega (arith, r.finishes); least = omega (arith, r.least); most = omega (arith, r.most); own = λ z. omega (arith, r.least) }) h

pub all-ranged : {b : Book} {k v : ℕ} {m : List ℕ} {p n at : ℕ} {xs : List ℕ} {es : List Item} → Walked b k v m p n at xs es → p ≤ n
    → Every (Ranged p n at (at + length xs) (n + length es)) es
unfolding Every item_of
all-ranged ends l = tt
all-ranged (alone {p = p} {n = n} {at = at} {xs = xs} {es = es} d a e t) l =
    let f = fits a in let r = rest-length xs d.len f in (
      record { begins = omega arith; finishes = omega (arith, f); least = omega arith; most = omega arith; own = λ z. absurd (z refl) },
      ranged-more p (n + 1) (at + element_header + d.len) (at + element_header + d.len + length (drop (element_header + d.len) xs)) (n + 1 + length es) n at (at + length xs) (n + suc (length es)) es
          (omega arith) (omega arith) (omega (arith, r)) (omega arith) (all-ranged t (omega arith)),
    )
all-ranged (group {p = p} {n = n} {at = at} {xs = xs} {is = is} {es = es} d g a e i t) l =
    let f = fits a in let r = rest-length xs d.len f in let q = value-length xs d.len f in
    let z = length-append is es in
    let top = n + suc (length (is ++ es)) in (
      record { begins = omega arith; finishes = omega (arith, f); least = omega arith; most = omega arith; own = λ z. absurd (z refl) },
      every_append (Ranged p n at (at + length xs) top) is es
          (ranged-inside n (at + element_header) (at + element_header + length (take d.len (drop element_header xs))) (n + 1 + length is) p at (at + length xs) top is
          l (omega arith) (omega (arith, q, f)) (omega (arith, z)) (all-ranged i (omega arith)))
          (ranged-more p (n + 1 + length is) (at + element_header + d.len) (at + element_header + d.len + length (drop (element_header + d.len) xs)) (n + 1 + length is + length es) n at (at + length xs) top es
          (omega arith) (omega arith) (omega (arith, r)) (omega (arith, z)) (all-ranged t (omega arith))),
    )

pub ranged : {b : Book} {k v : ℕ} {m : List ℕ} {p n at : ℕ} {xs : List ℕ} {es : List Item} → Met b k v m p n at xs es → p ≤ n
    → Every (Ranged p n at (at + length xs) (n + length es)) es
ranged d l = all-ranged (met-walked d) l

pub parents : {b : Book} {k v : ℕ} {m : List ℕ} {p n at : ℕ} {xs : List ℕ} {es : List Item} → Walked b k v m p n at xs es → p ≤ n → Every (λ i. p ≤ i.parent) es
parents {p = p} {n = n} {at = at} {xs = xs} {es = es} d l =
    every_map (Ranged p n at (at + length xs) (n + length es)) (λ i. p ≤ i.parent) es (λ i r. r.least) (all-ranged d l)

-- ---- octet order

-- a later row begins after the header of an earlier one
abbrev pub Before : Item → Item → Type 0
Before i j = value_place i ≤ j.place

-- the inside of a group, and what follows the group
module _ {b : Book} {k v : ℕ} {m : List ℕ} {p n : ℕ} {is es : List Item} {g : ℕ} {m' : List ℕ} {at₁ at₂ : ℕ} {ys zs : List ℕ}
    (i : Walked b k (suc g) m (n + 1) (n + 1) at₁ ys is) (t : Walked b k v m' p (n + 1 + length is) at₂ zs es) (le : p ≤ n) (past : at₁ + length ys ≤ at₂) where
  abbrev pub In : Item → Type 0
  In = Ranged (n + 1) (n + 1) at₁ (at₁ + length ys) (n + 1 + length is)

  abbrev pub Aft : Item → Type 0
  Aft = Ranged p (n + 1 + length is) at₂ (at₂ + length zs) (n + 1 + length is + length es)

  pub inside-before : Every (λ x. Every (Before x) es) is
  inside-before =
      every_map In (λ x. Every (Before x) es) is
      (λ x r. every_map Aft (Before x) es (λ y s. omega (arith, r.finishes, s.begins)) (all-ranged t (omega arith)))
      (all-ranged i (omega arith))

pub rising : {b : Book} {k v : ℕ} {m : List ℕ} {p n at : ℕ} {xs : List ℕ} {es : List Item} → Walked b k v m p n at xs es → p ≤ n → Pairwise Before es
unfolding Pairwise item_of
rising ends l = tt
rising {b} {k} (alone {v = v} {m = m} {p = p} {n = n} {at = at} {xs = xs} {es = es} d a e t) l = (
  every_map (Ranged p (n + 1) (at + element_header + d.len) (at + element_header + d.len + length (drop (element_header + d.len) xs)) (n + 1 + length es))
      (Before (item_of b k v m p at d)) es (λ j r. omega (arith, r.begins)) (all-ranged t (omega arith)),
  rising t (omega arith),
)
rising {b} {k} (group {v = v} {m = m} {p = p} {n = n} {at = at} {xs = xs} {is = is} {es = es} d g a e i t) l =
    let q = value-length xs d.len (fits a) in (
      every_append (Before (item_of b k v m p at d)) is es
          (every_map (Ranged (n + 1) (n + 1) (at + element_header) (at + element_header + length (take d.len (drop element_header xs))) (n + 1 + length is))
          (Before (item_of b k v m p at d)) is (λ j r. omega (arith, r.begins)) (all-ranged i (omega arith)))
          (every_map (Ranged p (n + 1 + length is) (at + element_header + d.len) (at + element_header + d.len + length (drop (element_header + d.len) xs)) (n + 1 + length is + length es))
          (Before (item_of b k v m p at d)) es (λ j r. omega (arith, r.begins)) (all-ranged t (omega arith))),
      pairwise_append Before is es (rising i (omega arith)) (rising t (omega arith)) (inside-before i t l (omega (arith, q))),
    )
