-- A message of octets has a cleaned copy of octets: what is written of a length is below 256, since no length passes 4,096. Assumes nothing.
--     emitted-octets   what rows of octets emit             cleaned-octets   the cleaned copy
use mathlib.Core.Path.{◌≡◌, refl}
use mathlib.Core.Bool.{Bool, true, false, cond}
use mathlib.Core.List.{List, [], ◌∷◌, ◌++◌}
use Prim.Native.Nat.{ℕ, zero, suc, ◌+◌, ◌-◌, ◌/◌, ◌%◌, ◌≤◌, ◌<◌}
use native.Mathlib.Omega.{arith}
use lib.Dec.{ltb}
use lib.ListN.{length, take, drop, length-drop}
use Rattle.rules.specs.Framing.{octet, header_length}
use Rattle.rules.specs.Types.{is_group}
use Rattle.rules.specs.Listings.{Book}
use Rattle.rules.specs.Standing.{Item, value_place}
use Rattle.rules.specs.Verdicts.{refuses, items}
use Rattle.rules.specs.Emitting.{Piece, stays, size_of, sizes, within, head_octets, length_of, emitted, amply}
use Rattle.rules.specs.Cleaned.{received, pieces, cleaned}
use Rattle.rules.specs.Sound.{sound}
use Rattle.rules.proofs.Rows.{Octets, octets-drop, octets-take, Every, Fits, all_fit, body-met}
use Rattle.emitted.proofs.Written.{written-octets}
use Rattle.emitted.proofs.Wholes.{amply-accepted}
use Rattle.emitted.proofs.Cleaning.{sizes-fit, clean_shorter}

octets_append : (xs ys : List ℕ) → Octets xs → Octets ys → Octets (xs ++ ys)
octets_append [] ys o p j = p j
octets_append (x ∷ xs) ys o p zero = o 0
octets_append (x ∷ xs) ys o p (suc j) = octets_append xs ys (λ i. o (suc i)) p j

four-octets : (a c d e : ℕ) (xs : List ℕ) → a < 256 → c < 256 → d < 256 → e < 256 → Octets xs → Octets (a ∷ c ∷ d ∷ e ∷ xs)
four-octets a c d e xs p q r s o zero = p
four-octets a c d e xs p q r s o (suc zero) = q
four-octets a c d e xs p q r s o (suc (suc zero)) = r
four-octets a c d e xs p q r s o (suc (suc (suc zero))) = s
four-octets a c d e xs p q r s o (suc (suc (suc (suc j)))) = o j

-- ---- rows

record InOctets (x : Piece) : Type 0 where
  typ : x.typ < 256
  fourth : x.fourth < 256
  value : Octets x.value

AllIn : List Piece → Type 0
AllIn [] = Unit {0}
AllIn (x ∷ xs) = InOctets x × AllIn xs

within-most : (r : ℕ) (xs : List Piece) → within r xs ≤ sizes xs
unfolding within sizes
within-most r [] = (omega arith)
within-most r (x ∷ xs) = go (ltb x.parent r) (within-most r xs)
  where
    go : (c : Bool) → within r xs ≤ sizes xs → cond c 0 (size_of x + within r xs) ≤ size_of x + sizes xs
    go true h = (omega arith)
    go false h = omega arith

emitted-octets : (n : ℕ) (xs : List Piece) → AllIn xs → sizes xs < 65536 → Octets (emitted n xs)
unfolding emitted sizes size_of AllIn
emitted-octets n [] a l = λ j. omega arith
emitted-octets n (x ∷ xs) a l = go (stays x) refl (emitted-octets (n + 1) xs a.1 (omega arith))
  where
    low : (c : Bool) → length x.value < 65536 → cond c (within (n + 1) xs) (length x.value) < 65536
    low true h = omega (arith, within-most (n + 1) xs)
    low false h = h

    go : (c : Bool) → stays x ≡ c → Octets (emitted (n + 1) xs)
        → Octets (cond c (head_octets x.typ (length_of (n + 1) x xs) x.fourth ++ (x.value ++ emitted (n + 1) xs)) (emitted (n + 1) xs))
    go true e rest =
        let own : length x.value < 65536 = omega (arith, rw e at l) in
        let len = length_of (n + 1) x xs in
        let most : length_of (n + 1) x xs < 65536 = low (is_group x.typ) own in
        four-octets x.typ (len / 256) (len % 256) x.fourth (x.value ++ emitted (n + 1) xs) a.0.typ (omega arith) (omega arith) a.0.fourth
        (octets_append x.value (emitted (n + 1) xs) a.0.value rest)
    go false e rest = rest

-- ---- the cleaned copy

value-octets : (c : Bool) (xs : List ℕ) → Octets xs → Octets (cond c [] xs)
value-octets true xs o = λ j. omega arith
value-octets false xs o = o

rows_in : (m : List ℕ) → Octets m → (n top : ℕ) (is : List Item) → Every (Fits n top) is → AllIn (pieces m is)
unfolding pieces received Every AllIn
rows_in m o n top [] f = tt
rows_in m o n top (i ∷ is) f = (
  record { typ = f.0.typ; fourth = o (i.place + 3); value = value-octets (is_group i.typ) (take i.len (drop (value_place i) m)) (octets-take i.len (drop (value_place i) m) (octets-drop (value_place i) m o)) },
  rows_in m o n top is f.1,
)

module _ (b : Book) (fine : sound b ≡ true) (k : ℕ) (m : List ℕ) (o : Octets m) (ok : refuses (amply b k m) ≡ false) where
  abbrev front : List ℕ
  front = take (header_length m - 4) (drop 4 m)

  rows_out : Octets (emitted 0 (pieces m (items b k m)))
  rows_out =
      let r = amply-accepted b k m ok in
      let met = body-met b k m r.0 r.1.taken_whole in
      let size : sizes (pieces m r.0) < 65536 = omega (arith, sizes-fit b fine k m met, length-drop (header_length m) m, r.1.passed.most) in
      rw r.1.taken_whole
      (emitted-octets 0 (pieces m r.0) (rows_in m o _ _ r.0 (all_fit met (octets-drop (header_length m) m o) (omega arith))) size)

  short : 4 + length front + length (emitted 0 (pieces m (items b k m))) ≤ 4096
  unfolding cleaned
  short =
      omega (
        arith,
        clean_shorter b fine k m ok,
        (amply-accepted b k m ok).1.passed.most,
        written-octets (octet m 0) (octet m 1) front (emitted 0 (pieces m (items b k m))),
      )

  pub cleaned-octets : Octets (cleaned b k m)
  unfolding cleaned
  cleaned-octets =
      four-octets (octet m 0) (octet m 1) _ _ (front ++ emitted 0 (pieces m (items b k m))) (o 0) (o 1) (omega (arith, short)) (omega arith)
      (octets_append front (emitted 0 (pieces m (items b k m))) (octets-take (header_length m - 4) (drop 4 m) (octets-drop 4 m o)) rows_out)
