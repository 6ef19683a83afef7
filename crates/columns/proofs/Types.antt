-- What the table of facts says of a type that may be any number: one from 256 on is no group and is not covered, as 0 is not. Assumes nothing.
use mathlib.Core.Path.{◌≡◌, refl, ◌∙◌}
use mathlib.Core.Bool.{Bool, true, false, cond, ◌&&◌}
use mathlib.Core.List.{List, [], ◌∷◌}
use Prim.Native.Nat.{ℕ, ◌≤◌, ◌<◌}
use native.Mathlib.Omega.{arith}
use borrow.Author.Tests.{ne_eqb, lt-ltb, le-ltb, ltb-true, ltb-false}
use lib.Dec.{ltb}
use Rattle.std.specs.Prelude.{Result, Ok, Err, OkIff}
use Rattle.std.specs.Result.{result_unwrap_or}
use Rattle.rules.specs.Types.{among, groups, is_group, whole_types, covers_whole, rest_types, covers_rest}
use Rattle.rules.specs.Covered.{open_octets}
use Rattle.rules.proofs.Lines.{and_left, and_right}
use Rattle.facts.specs.Facts.{facts, group_in, open_in}
use Rattle.facts.proofs.Facts.{group-is, open_is, open_most}
use Rattle.columns.specs.Values.{type_octet, seen_octets}

-- ---- numbers under 256 alone are named

all_below : ℕ → List ℕ → Bool
all_below n [] = true
all_below n (x ∷ xs) = ltb x n && all_below n xs

none-among : (t : ℕ) (xs : List ℕ) → all_below 256 xs ≡ true → 256 ≤ t → among t xs ≡ false
unfolding all_below
none-among t [] e l = refl
none-among t (x ∷ xs) e l =
    let low = ltb-true x 256 (and_left (ltb x 256) (all_below 256 xs) e) in
    rw (ne_eqb t x (λ s. omega arith)) (none-among t xs (and_right (ltb x 256) (all_below 256 xs) e) l)

module _ (t : ℕ) (l : 256 ≤ t) where
  no_group : is_group t ≡ false
  unfolding is_group groups all_below
  no_group = none-among t groups refl l

  not-whole : covers_whole t ≡ false
  unfolding covers_whole whole_types all_below
  not-whole = none-among t whole_types refl l

  not-rest : covers_rest t ≡ false
  unfolding covers_rest rest_types all_below
  not-rest = none-among t rest_types refl l

same-group : (t : ℕ) → is_group (type_octet t) ≡ is_group t
unfolding type_octet is_group groups
same-group t = go (ltb t 256) refl
  where
    go : (c : Bool) → ltb t 256 ≡ c → is_group (cond c t 0) ≡ is_group t
    go true e = refl
    go false e = rw (no_group t (ltb-false t 256 e))

same_open : (t s n : ℕ) → open_octets (type_octet t) s n ≡ open_octets t s n
unfolding type_octet open_octets covers_whole covers_rest whole_types rest_types
same_open t s n = go (ltb t 256) refl
  where
    go : (c : Bool) → ltb t 256 ≡ c → open_octets (cond c t 0) s n ≡ open_octets t s n
    go true e = refl
    go false e = let l = ltb-false t 256 e in rw (not-whole t l, not-rest t l)

low : (t : ℕ) → type_octet t < 256
unfolding type_octet
low t = go (ltb t 256) refl
  where
    go : (c : Bool) → ltb t 256 ≡ c → cond c t 0 < 256
    go true e = ltb-true t 256 e
    go false e = omega arith

-- ---- what the code reads off the table

pub group-by : {xs : List ℕ} {o : ℕ} {r : Bool} (t : ℕ) → xs ≡ facts → o ≡ type_octet t → r ≡ group_in xs o → r ≡ is_group t
group-by t e f g = g ∙ rw (e, f) (group-is (type_octet t) (low t) ∙ same-group t)

pub open_by : {xs : List ℕ} {o r : ℕ} (t s n : ℕ) → xs ≡ facts → o ≡ type_octet t → r ≡ open_in xs o s n → r ≡ open_octets t s n
open_by t s n e f g = g ∙ rw (e, f) (open_is (type_octet t) s n (low t) ∙ same_open t s n)

pub seen_most : (right : Bool) (t s n : ℕ) → seen_octets right t s n ≤ n
unfolding seen_octets
seen_most true t s n = omega arith
seen_most false t s n = open_most t s n

-- ---- the octet of a type

pub type_by : {E : Type 0} (r : Result ℕ E) (t : ℕ) → OkIff r (t < 256) t → result_unwrap_or r 0 ≡ type_octet t
unfolding type_octet
type_by (Ok x) t (l, e) = rw (lt-ltb t 256 l, e)
type_by (Err x) t l = rw (le-ltb t 256 (omega arith))

-- no test fails and passes
pub not-both : {c : Bool} → c ≡ false → c ≡ true → ⊥
not-both e f = let y : ◌≡◌ {A = ℕ} 0 1 = cc in absurd (omega arith)
