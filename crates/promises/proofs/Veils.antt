-- The rows of a masked message, to be written, are the message's own with their values veiled: what is not open of a value made zero. A row that is no group
-- is covered for its own sake alone. Assumes nothing.
--     veil, veiled      one row, and rows
--     rows-veiled       the law
use mathlib.Core.Path.{◌≡◌, refl, sym, ◌∙◌}
use mathlib.Core.Bool.{Bool, true, false, cond}
use mathlib.Core.List.{List, [], ◌∷◌}
use Prim.Native.Nat.{ℕ, ◌+◌, ◌-◌, ◌≤◌, ◌<◌}
use native.Mathlib.Omega.{arith}
use native.Mathlib.Decide.{dec_lt}
use lib.ListN.{length, take, drop, get_or, length-drop}
use lib.Seq.{ext_get_or, get_or-take, get_or-drop, length-take-le}
use Rattle.rules.specs.Framing.{octet, header_length}
use Rattle.rules.specs.Types.{is_group}
use Rattle.rules.specs.Listings.{Book}
use Rattle.rules.specs.Standing.{Item, value_place}
use Rattle.rules.specs.Verdicts.{first, refuses, framing_checks, items}
use Rattle.rules.specs.Covered.{covered_in, open_octets, zeroed, masked}
use Rattle.rules.specs.Emitting.{Piece, stays, remaining}
use Rattle.rules.specs.Cleaned.{received, pieces}
use Rattle.rules.specs.Sound.{sound}
use Rattle.rules.proofs.Rows.{Every}
use Rattle.promises.proofs.Covering.{Sits, Framed, rows-framed, covered-rows, rows_sit}
use Rattle.promises.proofs.Clearing.{zeroed-before, zeroed_in, zeroed-length, opening, opening-most, covered-after, open_before, masked-at, masked-length}

-- a value of a type and standing, with what is not open made zero
unfoldable pub veil_value : ℕ → ℕ → List ℕ → List ℕ
veil_value t s v = zeroed v (open_octets t s (length v)) (length v - open_octets t s (length v))

abbrev pub veil : Piece → Piece
veil x = record { parent = x.parent; typ = x.typ; fourth = x.fourth; stand = x.stand; value = veil_value x.typ x.stand x.value }

unfoldable pub veiled : List Piece → List Piece
veiled [] = []
veiled (x ∷ xs) = veil x ∷ veiled xs

-- rows that remain are veiled as they were
pub remaining-veiled : (anew : ℕ → ℕ) (xs : List Piece) → remaining anew (veiled xs) ≡ veiled (remaining anew xs)
unfolding remaining veiled
remaining-veiled anew [] = refl
remaining-veiled anew (x ∷ xs) = go (stays x) (remaining-veiled anew xs)
  where
    go : (c : Bool) → remaining anew (veiled xs) ≡ veiled (remaining anew xs)
        → cond c (record { parent = anew x.parent; typ = x.typ; fourth = x.fourth; stand = x.stand; value = veil_value x.typ x.stand x.value } ∷ remaining anew (veiled xs)) (remaining anew (veiled xs))
        ≡ veiled (cond c (record { parent = anew x.parent; typ = x.typ; fourth = x.fourth; stand = x.stand; value = x.value } ∷ remaining anew xs) (remaining anew xs))
    go true e = rw e
    go false e = e

none-veiled : (t s : ℕ) → [] ≡ veil_value t s []
unfolding veil_value zeroed
none-veiled t s = let z : open_octets t s 0 ≡ 0 = omega (arith, opening-most t s 0 (open_octets t s 0) (opening t s 0)) in rw z

module _ (b : Book) (fine : sound b ≡ true) (k : ℕ) (m : List ℕ) (pass : refuses (first (framing_checks b k m)) ≡ false) where
  f : Framed b k m
  f = rows-framed b k m pass

  abbrev rows : List Item
  rows = f.rows

  -- what an octet is in the masked message, by the rows
  octet-is : (j : ℕ) → get_or (masked b k m) j 0 ≡ cond (covered_in f.rows j) 0 (get_or m j 0)
  octet-is j = masked-at b fine k m pass j ∙ rw (covered-rows b k m pass j, f.takes)

  module _ (i : Item) (sits : Sits f.rows (header_length m) (length m) i) where
    abbrev value : List ℕ
    value = take i.len (drop (value_place i) m)

    abbrev shown : ℕ
    shown = open_octets i.typ i.stand i.len

    value-size : length (take i.len (drop (value_place i) m)) ≡ i.len
    value-size = length-take-le i.len (drop (value_place i) m) (omega (arith, sits.finishes, length-drop (value_place i) m))

    masked-size : length (take i.len (drop (value_place i) (masked b k m))) ≡ i.len
    masked-size =
        length-take-le i.len (drop (value_place i) (masked b k m))
        (omega (arith, sits.finishes, masked-length b fine k m pass, length-drop (value_place i) (masked b k m)))

    within : shown ≤ i.len
    within = opening-most i.typ i.stand i.len shown (opening i.typ i.stand i.len)

    fits : shown + (i.len - shown) ≤ length value
    fits = omega (arith, within, value-size)

    at : (xs : List ℕ) (c : ℕ) → c < i.len → get_or (take i.len (drop (value_place i) xs)) c 0 ≡ get_or xs (value_place i + c) 0
    at xs c l = get_or-take i.len (drop (value_place i) xs) c 0 l ∙ get_or-drop (value_place i) xs c 0

    value-veiled : is_group i.typ ≡ false → take i.len (drop (value_place i) (masked b k m)) ≡ veil_value i.typ i.stand value
    unfolding veil_value
    value-veiled g =
        rw value-size
        (ext_get_or 0 (take i.len (drop (value_place i) (masked b k m))) (zeroed value shown (i.len - shown))
        (masked-size ∙ sym value-size ∙ sym (zeroed-length value shown (i.len - shown) fits)) (λ c l. each c (omega (arith, l, masked-size)) (dec_lt c shown)))
      where
        each : (c : ℕ) → c < i.len → Dec (c < shown) → get_or (take i.len (drop (value_place i) (masked b k m))) c 0 ≡ get_or (zeroed value shown (i.len - shown)) c 0
        each c l (yes u) =
            at (masked b k m) c l ∙ octet-is (value_place i + c)
            ∙ rw (sits.owns g (value_place i + c) (omega arith) (omega arith), open_before i (value_place i + c) shown (opening i.typ i.stand i.len) (omega arith))
            (sym (zeroed-before value shown (i.len - shown) c fits u ∙ at m c l))
        each c l (no u) =
            at (masked b k m) c l ∙ octet-is (value_place i + c)
            ∙ rw (sits.owns g (value_place i + c) (omega arith) (omega arith), covered-after i (value_place i + c) shown (opening i.typ i.stand i.len) (omega arith) (omega arith))
            (sym (zeroed_in value shown (i.len - shown) c fits (omega arith) (omega (arith, within))))

    row-veiled : received (masked b k m) i ≡ veil (received m i)
    unfolding received
    row-veiled = rw fourth (go (is_group i.typ) refl)
      where
        fourth : octet (masked b k m) (i.place + 3) ≡ octet m (i.place + 3)
        fourth = octet-is (i.place + 3) ∙ rw (sits.opens (i.place + 3) (omega arith) (omega arith))

        go : (c : Bool) → is_group i.typ ≡ c
            → ◌≡◌ {A = Piece}
            (record { parent = i.parent; typ = i.typ; fourth = octet m (i.place + 3); stand = i.stand; value = cond c [] (take i.len (drop (value_place i) (masked b k m))) })
            (record { parent = i.parent; typ = i.typ; fourth = octet m (i.place + 3); stand = i.stand; value = veil_value i.typ i.stand (cond c [] value) })
        go true g = rw (← none-veiled i.typ i.stand)
        go false g = rw (value-veiled g)

  each-veiled : (is : List Item) → Every (Sits f.rows (header_length m) (length m)) is → pieces (masked b k m) is ≡ veiled (pieces m is)
  unfolding pieces veiled Every
  each-veiled [] e = refl
  each-veiled (i ∷ is) e = rw (row-veiled i e.0, each-veiled is e.1)

  pub rows-veiled : pieces (masked b k m) (items b k m) ≡ veiled (pieces m (items b k m))
  rows-veiled = rw f.takes (each-veiled f.rows (rows_sit b fine k m f))
