-- No octet of a level is skipped: what stands at the head of what is left covers the octets up to where the rest begins. Assumes nothing.
--     cover_own     each octet of a run stands in a row of it with the run's own parent
--     cover_inside  each octet of the value of an entered row stands in a row whose parent it is
use mathlib.Core.Path.{◌≡◌, refl}
use mathlib.Core.List.{List, [], ◌∷◌, ◌++◌}
use Prim.Native.Nat.{ℕ, zero, suc, ◌+◌, ◌-◌, ◌≤◌, ◌<◌}
use native.Mathlib.Omega.{arith}
use native.Mathlib.Decide.{dec_lt}
use lib.ListN.{length, length-append, get_or-append}
use lib.Seq.{get_or-append-add}
use Rattle.rules.specs.Framing.{element_header}
use Rattle.rules.specs.Listings.{Book}
use Rattle.rules.specs.Standing.{Item, item_of, value_place, value_end}
use Rattle.rules.specs.Met.{Met, ends, alone, group}
use Rattle.rules.proofs.Heads.{fits, rest-length, value-length}
use Rattle.rules.specs.Table.{no_item, nth}
use Rattle.rules.proofs.Places.{Stand, stand-tail, stand-left, stand-right}

-- an element with the parent p, over octet j
pub record Over (p j : ℕ) (i : Item) : Type 0 where
  pub parent : i.parent ≡ p
  pub begins : i.place ≤ j
  pub ends_after : j < value_end i

abbrev pub Covered : ℕ → ℕ → List Item → Type 0
Covered p j es = (r : ℕ) × (r < length es) × Over p j (nth es r)

-- the first element, or what follows it and the rows of its inside
pub cover_here : (p j : ℕ) (i : Item) (is es : List Item) → i.parent ≡ p → i.place ≤ j → (value_end i ≤ j → Covered p j es) → Dec (j < value_end i) → Covered p j (i ∷ (is ++ es))
cover_here p j i is es e a rest (yes l) = (0, omega arith, record { parent = e; begins = a; ends_after = l })
cover_here p j i is es e a rest (no l) =
    let r = rest (omega arith) in
    (suc (length is + r.0), omega (arith, r.1, length-append is es), rw (get_or-append-add is es r.0 no_item) r.2)

pub cover_own : {b : Book} {k v : ℕ} {m : List ℕ} {p n at : ℕ} {xs : List ℕ} {es : List Item} → Met b k v m p n at xs es
    → (j : ℕ) → at ≤ j → j < at + length xs → Covered p j es
unfolding item_of
cover_own ends j a c = absurd (omega arith)
cover_own {b} {k} (alone {v = v} {m = m} {p = p} {at = at} {xs = xs} {es = es} h w e t) j a c =
    cover_here p j (item_of b k v m p at h) [] es refl a (λ l. cover_own t j l (omega (arith, rest-length xs h.len (fits w)))) (dec_lt j (at + element_header + h.len))
cover_own {b} {k} (group {v = v} {m = m} {p = p} {at = at} {xs = xs} {is = is} {es = es} h g w e d t) j a c =
    cover_here p j (item_of b k v m p at h) is es refl a (λ l. cover_own t j l (omega (arith, rest-length xs h.len (fits w)))) (dec_lt j (at + element_header + h.len))

-- ---- inside an entered row

-- row q of a run with n rows before it has its value covered by rows whose parent it is, among all rows
abbrev pub Inner : List Item → ℕ → List Item → ℕ → ℕ → Type 0
Inner all n es q j = 0 < (nth es q).inside → value_place (nth es q) ≤ j → j < value_end (nth es q) → Covered (suc (n + q)) j all

pub among-all : (all : List Item) (n : ℕ) (is : List Item) (p j : ℕ) → Stand all n is → Covered p j is → Covered p j all
among-all all n is p j s c = (n + c.0, omega (arith, c.1, s.room), rw (s.same c.0 c.1) c.2)

inner-behind : (all : List Item) (n : ℕ) (i : Item) (is es : List Item) (q j : ℕ) → Inner all (n + 1 + length is) es q j → Inner all n (i ∷ (is ++ es)) (suc (length is + q)) j
inner-behind all n i is es q j f =
    let z : suc (n + 1 + length is + q) ≡ suc (n + suc (length is + q)) = omega arith in
    rw (get_or-append-add is es q no_item, ← z) f

inner-inside : (all : List Item) (n : ℕ) (i : Item) (is es : List Item) (q j : ℕ) → q < length is → Inner all (n + 1) is q j → Inner all n (i ∷ (is ++ es)) (suc q) j
inner-inside all n i is es q j l f =
    let z : suc (n + 1 + q) ≡ suc (n + suc q) = omega arith in
    rw (get_or-append is es no_item q l, ← z) f

pub inner-later : (all : List Item) (n : ℕ) (i : Item) (is es : List Item) (q j : ℕ) → q < length (is ++ es)
    → ((y : ℕ) → y < length is → Inner all (n + 1) is y j) → ((y : ℕ) → y < length es → Inner all (n + 1 + length is) es y j) → Dec (q < length is) → Inner all n (i ∷ (is ++ es)) (suc q) j
inner-later all n i is es q j c f g (yes l) = inner-inside all n i is es q j l (f q l)
inner-later all n i is es q j c f g (no l) =
    let z : length is + (q - length is) ≡ q = omega arith in
    rw z at (inner-behind all n i is es (q - length is) j (g (q - length is) (omega (arith, length-append is es))))

pub cover_inside : {b : Book} {k v : ℕ} {m : List ℕ} {p n at : ℕ} {xs : List ℕ} {es : List Item} → Met b k v m p n at xs es → (all : List Item) → Stand all n es
    → (q : ℕ) → q < length es → (j : ℕ) → Inner all n es q j
unfolding item_of
cover_inside ends all s q l j = absurd (omega arith)
cover_inside (alone {n = n} {es = es} h w e t) all s zero l j = λ o a c. absurd (omega (arith, o, e))
cover_inside {b} {k} (alone {v = v} {m = m} {p = p} {n = n} {at = at} {es = es} h w e t) all s (suc q) l j =
    inner-later all n (item_of b k v m p at h) [] es q j (omega arith) (λ y c. absurd (omega arith))
    (λ y c. let z : n + 1 + 0 ≡ n + 1 = omega arith in rw z (cover_inside t all (stand-tail s) y c j)) (dec_lt q 0)
cover_inside {b} {k} (group {v = v} {m = m} {p = p} {n = n} {at = at} {xs = xs} {is = is} {es = es} h g w e d t) all s zero l j =
    λ o a c. let z : n + 1 ≡ suc (n + 0) = omega arith in
    rw z at (among-all all (n + 1) is (n + 1) j (stand-left is es (stand-tail s)) (cover_own d j a (omega (arith, c, value-length xs h.len (fits w)))))
cover_inside {b} {k} (group {v = v} {m = m} {p = p} {n = n} {at = at} {is = is} {es = es} h g w e d t) all s (suc q) l j =
    inner-later all n (item_of b k v m p at h) is es q j (omega arith) (λ y c. cover_inside d all (stand-left is es (stand-tail s)) y c j)
    (λ y c. cover_inside t all (stand-right is es (stand-tail s)) y c j) (dec_lt q (length is))
