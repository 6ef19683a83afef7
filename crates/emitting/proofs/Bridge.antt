-- Rows by their numbers are rows as pieces: where each row agrees with its piece, the numbers have the sizes of the pieces, and emit what the pieces emit. Assumes nothing.
--     Agreeing    row by row
--     sizes_are   the sizes         parts_are   the octets         parts-size   and how many they are
--     inside-most                   a group's inside is no longer than all rows
use mathlib.Core.Path.{◌≡◌, refl, sym, ap, ◌∙◌}
use mathlib.Core.Bool.{Bool, true, false, cond}
use mathlib.Core.List.{List, [], ◌∷◌, ◌++◌}
use Prim.Native.Nat.{ℕ, zero, suc, ◌+◌, ◌-◌, ◌≤◌, ◌<◌}
use native.Mathlib.Omega.{arith}
use native.Mathlib.Nat.{add-zero}
use lib.Dec.{eqb, ltb}
use lib.ListN.{length, length-append}
use Rattle.rules.specs.Framing.{element_header}
use Rattle.rules.specs.Types.{is_group}
use Rattle.rules.specs.Standing.{kept}
use Rattle.rules.specs.Emitting.{Piece, stays, size_of, sizes, within, head_octets, length_of, emitted}
use Rattle.emitting.proofs.Puts.{sizes-next}
use Rattle.emitting.specs.Emits.{number, size_at_row, sizes_in, within_rows, inside_in, length_in, last_in, value_in, parts_in}

-- what pieces emit has their sizes
pub emitted-size : (n : ℕ) (ps : List Piece) → length (emitted n ps) ≡ sizes ps
unfolding emitted sizes size_of
emitted-size n [] = refl
emitted-size n (x ∷ ps) = go (stays x) (emitted-size (n + 1) ps)
  where
    go : (c : Bool) → length (emitted (n + 1) ps) ≡ sizes ps
        → length (cond c (head_octets x.typ (length_of (n + 1) x ps) x.fourth ++ (x.value ++ emitted (n + 1) ps)) (emitted (n + 1) ps)) ≡ cond c (element_header + length x.value) 0 + sizes ps
    go true e = omega (arith, e, length-append x.value (emitted (n + 1) ps))
    go false e = omega (arith, e)

module _ (rows source : List ℕ) (own : Bool) where
  -- row n is the piece x
  pub record Agrees (n : ℕ) (x : Piece) : Type 0 where
    pub parent : number rows n 0 ≡ x.parent
    pub typ : number rows n 1 ≡ x.typ
    pub last : last_in rows n source own ≡ x.fourth
    pub stand : number rows n 5 ≡ x.stand
    pub value : value_in rows n source ≡ x.value
    pub len : is_group (number rows n 1) ≡ false → number rows n 4 ≡ length (value_in rows n source)

  -- the rows from n on are these pieces
  unfoldable pub Agreeing : ℕ → List Piece → Type 0
  Agreeing n [] = Unit {0}
  Agreeing n (x ∷ xs) = Agrees n x × Agreeing (n + 1) xs

  size-by : (s g : Bool) (len : ℕ) (ys : List ℕ) → (g ≡ true → ys ≡ []) → (g ≡ false → len ≡ length ys) → cond s (cond g 4 (4 + len)) 0 ≡ cond s (4 + length ys) 0
  size-by true true len ys f h = rw (f refl)
  size-by true false len ys f h = rw (h refl)
  size-by false g len ys f h = refl

  no_value : (n : ℕ) → is_group (number rows n 1) ≡ true → value_in rows n source ≡ []
  no_value n g = rw g

  size_is : (n : ℕ) (x : Piece) → Agrees n x → size_at_row rows n ≡ size_of x
  unfolding size_of
  size_is n x a =
      size-by (eqb (number rows n 5) kept) (is_group (number rows n 1)) (number rows n 4) (value_in rows n source) (no_value n) a.len ∙ rw (a.stand, a.value)

  sizes-from : (n : ℕ) (xs : List Piece) → Agreeing n xs → sizes_in rows n (length xs) ≡ sizes xs
  unfolding sizes_in sizes Agreeing
  sizes-from n [] a = refl
  sizes-from n (x ∷ xs) a = omega (arith, size_is n x a.0, sizes-from (n + 1) xs a.1)

  within-from : (r n : ℕ) (xs : List Piece) → Agreeing n xs → within_rows rows r n (length xs) ≡ within r xs
  unfolding within_rows within Agreeing
  within-from r n [] a = refl
  within-from r n (x ∷ xs) a = rw (a.0.parent, size_is n x a.0, within-from r (n + 1) xs a.1)

  part_by : (s g : Bool) (t f w len : ℕ) (ys rest : List ℕ) → (g ≡ false → len ≡ length ys)
      → cond s (head_octets t (cond g w len) f ++ ys) [] ++ rest ≡ cond s (head_octets t (cond g w (length ys)) f ++ (ys ++ rest)) rest
  part_by true true t f w len ys rest q = refl
  part_by true false t f w len ys rest q = rw (q refl)
  part_by false g t f w len ys rest q = refl

  parts_from : (count n : ℕ) (xs : List Piece) → n + length xs ≡ count → Agreeing n xs → parts_in rows count source own n (length xs) ≡ emitted n xs
  unfolding parts_in emitted Agreeing
  parts_from count n [] l a = refl
  parts_from count n (x ∷ xs) l a =
      let c : count - (n + 1) ≡ length xs = omega arith in
      let i : inside_in rows n count ≡ within (n + 1) xs = rw c (within-from (n + 1) (n + 1) xs a.1) in
      part_by (eqb (number rows n 5) kept) (is_group (number rows n 1)) (number rows n 1) (last_in rows n source own) (inside_in rows n count) (number rows n 4) (value_in rows n source) _ a.0.len
      ∙ rw (i, parts_from count (n + 1) xs (omega arith) a.1, a.0.value, a.0.typ, a.0.last, a.0.stand)

  module _ (xs : List Piece) (a : Agreeing 0 xs) where
    pub sizes_are : sizes_in rows 0 (length xs) ≡ sizes xs
    sizes_are = sizes-from 0 xs a

    pub parts_are : parts_in rows (length xs) source own 0 (length xs) ≡ emitted 0 xs
    parts_are = parts_from (length xs) 0 xs (omega arith) a

    pub parts-size : length (parts_in rows (length xs) source own 0 (length xs)) ≡ sizes_in rows 0 (length xs)
    parts-size = ap length parts_are ∙ emitted-size 0 xs ∙ sym sizes_are

-- ---- a group's inside

within-most : (rows : List ℕ) (r k j : ℕ) → within_rows rows r j k ≤ sizes_in rows j k
unfolding within_rows sizes_in
within-most rows r zero j = (omega arith)
within-most rows r (suc k) j = go (ltb (number rows j 0) r) (within-most rows r k (j + 1))
  where
    go : (c : Bool) → within_rows rows r (j + 1) k ≤ sizes_in rows (j + 1) k → cond c 0 (size_at_row rows j + within_rows rows r (j + 1) k) ≤ size_at_row rows j + sizes_in rows (j + 1) k
    go true h = (omega arith)
    go false h = omega arith

tail-most : (rows : List ℕ) (d k i : ℕ) → sizes_in rows (i + d) k ≤ sizes_in rows i (d + k)
unfolding sizes_in
tail-most rows zero k i = let e : i + 0 ≡ i = add-zero i in let f : 0 + k ≡ k = omega arith in rw (e, f) (omega arith)
tail-most rows (suc d) k i =
    let e : i + suc d ≡ i + 1 + d = omega arith in
    let f : suc d + k ≡ suc (d + k) = omega arith in
    rw (e, f) (omega (arith, tail-most rows d k (i + 1)))

pub inside-most : (rows : List ℕ) (n count : ℕ) → n < count → inside_in rows n count ≤ sizes_in rows 0 count
inside-most rows n count l =
    let e : n + 1 + (count - (n + 1)) ≡ count = omega arith in
    let z : 0 + (n + 1) ≡ n + 1 = omega arith in
    omega (arith, within-most rows (n + 1) (count - (n + 1)) (n + 1), rw (z, e) at (tail-most rows (n + 1) (count - (n + 1)) 0))

row-most : (rows : List ℕ) (n count : ℕ) → n < count → size_at_row rows n ≤ sizes_in rows 0 count
unfolding sizes_in
row-most rows n count l =
    let e : n + (count - n) ≡ count = omega arith in
    let f : 0 + n ≡ n = omega arith in
    omega (arith, sizes-next rows n count l, rw (e, f) at (tail-most rows n (count - n) 0))

-- where all rows take few octets, the length of each that is written has two
pub length-low : (rows : List ℕ) (n count : ℕ) → n < count → sizes_in rows 0 count < 65536 → number rows n 5 ≡ kept → length_in rows n count < 65536
length-low rows n count l s k = go (is_group (number rows n 1)) (inside-most rows n count l) (rw k at (row-most rows n count l))
  where
    go : (c : Bool) → inside_in rows n count ≤ sizes_in rows 0 count → cond c 4 (4 + number rows n 4) ≤ sizes_in rows 0 count → cond c (inside_in rows n count) (number rows n 4) < 65536
    go true a h = omega arith
    go false a h = omega arith
