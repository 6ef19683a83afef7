-- The kept rows of a level stand in the level's own run, since a row's parent is its run's parent or a row of its run. Assumes nothing.
--     local_tail     past the first row of a run                       own-level      with the parent of a group: none is in the group
--     in_group       with a group or a row in it as the parent         local_inside, local_after   in a group, and behind it
use mathlib.Core.Path.{◌≡◌, refl, ◌∙◌}
use mathlib.Core.List.{List, [], ◌∷◌, ◌++◌, append-nil}
use Prim.Native.Nat.{ℕ, suc, ◌+◌, ◌≤◌, ◌<◌}
use native.Mathlib.Omega.{arith}
use borrow.Author.Tests.{ne_eqb}
use lib.ListN.{length, length-append}
use Rattle.rules.specs.Listings.{Book}
use Rattle.rules.specs.Standing.{Item}
use Rattle.rules.specs.Verdicts.{has_kept}
use Rattle.rules.specs.Met.{Met}
use Rattle.rules.proofs.Rows.{Every, every_map}
use Rattle.rules.proofs.Places.{ranged}

-- ---- rows with another parent do not count

abbrev Elsewhere : ℕ → Item → Type 0
Elsewhere p i = i.parent ≡ p → ⊥

kept-past : (p t j : ℕ) (is es : List Item) → Every (Elsewhere p) is → has_kept p t j (is ++ es) ≡ has_kept p t j es
unfolding has_kept Every
kept-past p t j [] es a = refl
kept-past p t j (i ∷ is) es a = rw (ne_eqb i.parent p a.0) (kept-past p t j is es a.1)

kept-before : (p t j : ℕ) (is es : List Item) → Every (Elsewhere p) es → has_kept p t j (is ++ es) ≡ has_kept p t j is
unfolding has_kept
kept-before p t j [] es a = rw append-nil at (kept-past p t j es [] a)
kept-before p t j (i ∷ is) es a = rw (kept-before p t j is es a)

-- ---- a run among all rows

-- the kept rows whose parent is a row of the run are of the run; n rows stand before it
pub record Local (all : List Item) (n : ℕ) (es : List Item) : Type 0 where
  pub same : (q t j : ℕ) → n < q → q ≤ n + length es → has_kept q t j all ≡ has_kept q t j es

past_head : {all : List Item} {n : ℕ} {i : Item} {es : List Item} → Local all n (i ∷ es) → i.parent ≤ n
    → (q t j : ℕ) → n < q → q ≤ n + suc (length es) → has_kept q t j all ≡ has_kept q t j es
unfolding Every
past_head {i = i} {es} loc le q t j a c = loc.same q t j a c ∙ kept-past q t j (i ∷ []) es (λ z. omega arith, tt)

pub local_tail : {all : List Item} {n : ℕ} {i : Item} {es : List Item} → Local all n (i ∷ es) → i.parent ≤ n → Local all (n + 1) es
local_tail loc le = record { same = λ q t j a c. past_head loc le q t j (omega arith) (omega arith) }

-- the inside of a group, and what follows the group
module _ {b : Book} {k v g p n at₁ at₂ : ℕ} {m m' ys zs : List ℕ} {is es : List Item}
    (d : Met b k g m (n + 1) (n + 1) at₁ ys is) (f : Met b k v m' p (n + 1 + length is) at₂ zs es) (le : p ≤ n) where
  pub own-level : (t j : ℕ) → has_kept p t j (is ++ es) ≡ has_kept p t j es
  own-level t j = kept-past p t j is es (every_map _ (Elsewhere p) is (λ i r z. omega (arith, r.least)) (ranged d (omega arith)))

  module _ {all : List Item} {i : Item} (loc : Local all n (i ∷ (is ++ es))) (mine : i.parent ≤ n) where
    pub in_group : (q t j : ℕ) → n < q → q ≤ n + 1 + length is → has_kept q t j all ≡ has_kept q t j is
    in_group q t j a c =
        past_head loc mine q t j a (omega (arith, length-append is es))
        ∙ kept-before q t j is es (every_map _ (Elsewhere q) es (λ i r z. omega (arith, r.own (λ u. omega arith))) (ranged f (omega arith)))

    pub local_inside : Local all (n + 1) is
    local_inside = record { same = λ q t j a c. in_group q t j (omega arith) c }

    pub local_after : Local all (n + 1 + length is) es
    local_after = record {
      same = λ q t j a c. past_head loc mine q t j (omega arith) (omega (arith, length-append is es))
          ∙ kept-past q t j is es (every_map _ (Elsewhere q) is (λ i r z. omega (arith, r.most)) (ranged d (omega arith)));
    }
