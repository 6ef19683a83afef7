-- The level of each row is the inside of its parent, and its line is the one of its pair there. Assumes nothing.
--     placed    what is said of an element by its line          backward   a row's parent stands before it
use mathlib.Core.Path.{◌≡◌, ap, ◌∙◌}
use mathlib.Core.Bool.{cond}
use mathlib.Core.List.{List, [], ◌∷◌, ◌++◌}
use Prim.Native.Nat.{ℕ, zero, suc, ◌+◌, ◌≤◌, ◌<◌}
use native.Mathlib.Omega.{arith}
use lib.Dec.{eqb}
use lib.ListN.{length}
use Rattle.rules.specs.Listings.{Book}
use Rattle.rules.specs.Standing.{Item, kept, item_of, entered}
use Rattle.rules.specs.Table.{nth}
use Rattle.rules.proofs.Rows.{Every, every_append}
use Rattle.rules.proofs.Places.{Stand, stand-head, stand-tail, stand-left, stand-right}
use Rattle.rules.proofs.Walked.{Walked, ends, alone, group}
use Rattle.tables.specs.Levels.{line_at}

-- the level of the rows with parent p, by the elements
abbrev pub level_in : List Item → ℕ → ℕ → ℕ
level_in all v zero = v
level_in all v (suc q) = (nth all q).inside

pub record Placed (b : Book) (k v : ℕ) (all : List Item) (i : Item) : Type 0 where
  pub must : i.must ≡ (line_at b k (level_in all v i.parent) i.typ i.inst).must
  pub inside : i.inside ≡ cond (eqb i.stand kept) (line_at b k (level_in all v i.parent) i.typ i.inst).inside 0
  pub level : 0 < level_in all v i.parent

-- w is the level of the run
pub placed : {b : Book} {k w : ℕ} {m : List ℕ} {p n at : ℕ} {xs : List ℕ} {es : List Item} → Walked b k w m p n at xs es → (all : List Item) (v : ℕ)
    → Stand all n es → level_in all v p ≡ w → 0 < w → Every (Placed b k v all) es
unfolding Every item_of entered
placed ends all v s e z = tt
placed {b} {k} (alone {v = w} {m = m} {p = p} {at = at} d a c t) all v s e z =
    (record { must = rw e; inside = rw e; level = rw e z }, placed t all v (stand-tail s) e z)
placed {b} {k} (group {v = w} {m = m} {p = p} {n = n} {at = at} {is = is} {es = es} d g a c i t) all v s e z =
    let f : n + 1 ≡ suc n = omega arith in
    let inner : level_in all v (n + 1) ≡ suc g = rw f (ap (λ (x : Item). x.inside) (stand-head s) ∙ c) in (
      record { must = rw e; inside = rw e; level = rw e z },
      every_append (Placed b k v all) is es (placed i all v (stand-left is es (stand-tail s)) inner (omega arith)) (placed t all v (stand-right is es (stand-tail s)) e z),
    )

-- ---- a row's parent stands before it

unfoldable pub Backward : ℕ → List Item → Type 0
Backward n [] = Unit {0}
Backward n (i ∷ is) = (i.parent ≤ n) × Backward (n + 1) is

backward_append : (n : ℕ) (is es : List Item) → Backward n is → Backward (n + length is) es → Backward n (is ++ es)
unfolding Backward
backward_append n [] es a c = let e : n + 0 ≡ n = omega arith in rw e at c
backward_append n (i ∷ is) es a c = let e : n + suc (length is) ≡ n + 1 + length is = omega arith in (a.0, backward_append (n + 1) is es a.1 (rw e at c))

pub backward : {b : Book} {k w : ℕ} {m : List ℕ} {p n at : ℕ} {xs : List ℕ} {es : List Item} → Walked b k w m p n at xs es → p ≤ n → Backward n es
unfolding Backward item_of
backward ends l = tt
backward (alone d a c t) l = (l, backward t (omega arith))
backward (group {n = n} {is = is} {es = es} d g a c i t) l =
    (l, backward_append (n + 1) is es (backward i (omega arith)) (backward t (omega arith)))

pub backward-at : (n : ℕ) (es : List Item) → Backward n es → (j : ℕ) → j < length es → (nth es j).parent ≤ n + j
unfolding Backward
backward-at n [] a j l = absurd (omega arith)
backward-at n (i ∷ es) a zero l = omega (arith, a.0)
backward-at n (i ∷ es) a (suc j) l = omega (arith, backward-at (n + 1) es a.1 j (omega arith))
