-- How many rows there are, and that their numbers fit. Assumes nothing.
--     rows-length, kept-most   six numbers a row; no more rows are kept than there are
--     quarter    a run of n octets, as far as it was walked, has at most n / 4 rows
--     few-rows   a message of at most 4,096 octets has at most 1,022
--     fit_16     every number of every row fits in 16 bits
use mathlib.Core.Path.{◌≡◌, refl, ap, ◌∙◌}
use mathlib.Core.Bool.{Bool, true, false, cond}
use mathlib.Core.List.{List, [], ◌∷◌, ◌++◌}
use Prim.Native.Nat.{ℕ, zero, suc, ◌+◌, ◌-◌, ◌*◌, ◌%◌, ◌≤◌, ◌<◌}
use native.Mathlib.Omega.{arith}
use lib.Dec.{eqb}
use lib.ListN.{length, take, drop, get_or, length-append, length-drop, get_or-append}
use lib.Seq.{get_or-drop, get_or-append-add}
use Rattle.rules.specs.Sizes.{largest_message, most_rows, row_numbers}
use Rattle.rules.specs.Framing.{element_header, octet, header_length, flag_t}
use Rattle.rules.specs.Listings.{Book}
use Rattle.rules.specs.Standing.{Item, fresh, kept, void, item_of, value_place, value_end}
use Rattle.rules.specs.Taking.{whole, taken, body_level}
use Rattle.rules.specs.Table.{row, rows_of, kept_rows, nth}
use Rattle.rules.specs.Met.{At, Met, ends, alone, group}
use Rattle.rules.specs.Frames.{Element}
use Rattle.rules.specs.declared.Head.{Head}
use Rattle.rules.proofs.Heads.{head-is, at_seen, at-whole, at_len, fits, rest-length, value-length}
use Rattle.rules.proofs.Mets.{whole-met}
use Rattle.rules.proofs.Walked.{Walked, met-walked}
use Rattle.rules.proofs.Standings.{stand-most}

pub rows-length : (is : List Item) → length (rows_of is) ≡ row_numbers * length is
unfolding rows_of
rows-length [] = refl
rows-length (i ∷ is) = omega (arith, rows-length is)

pub kept-most : (is : List Item) → kept_rows is ≤ length is
unfolding kept_rows
kept-most [] = omega arith
kept-most (i ∷ is) = go (eqb i.stand kept) (kept-most is)
  where
    go : (c : Bool) → kept_rows is ≤ length is → cond c (suc (kept_rows is)) (kept_rows is) ≤ suc (length is)
    go true h = omega arith
    go false h = omega arith

pub quarter : {b : Book} {k v : ℕ} {m : List ℕ} {p n at : ℕ} {xs : List ℕ} {es : List Item} → Walked b k v m p n at xs es → 4 * length es ≤ length xs
quarter Walked.ends = omega arith
quarter (Walked.alone {xs = xs} h a e t) = omega (arith, fits a, rest-length xs h.len (fits a), quarter t)
quarter (Walked.group {xs = xs} {is = is} {es = es} h g a e d t) =
    omega (arith, fits a, rest-length xs h.len (fits a), value-length xs h.len (fits a), quarter d, quarter t, length-append is es)

pub header-least : (m : List ℕ) → 8 ≤ header_length m
unfolding header_length
header-least m = go (flag_t m)
  where
    go : (t : Bool) → 8 ≤ cond t 12 8
    go true = omega arith
    go false = omega arith

module _ (b : Book) (k : ℕ) (m : List ℕ) (es : List Item) (e : taken b k m ≡ whole es) where
  pub body-met : Met b k (body_level b m) fresh 0 0 (header_length m) (drop (header_length m) m) es
  unfolding taken
  body-met = whole-met b k (body_level b m) (header_length m) (drop (header_length m) m) es e

  pub rows-quarter : 4 * length es ≤ length m - 8
  rows-quarter = omega (arith, quarter (met-walked body-met), length-drop (header_length m) m, header-least m)

  pub few-rows : length m ≤ largest_message → length es ≤ most_rows
  few-rows l = omega (arith, rows-quarter)

-- ---- every row

unfoldable pub Every : (Item → Type 0) → List Item → Type 0
Every P [] = Unit {0}
Every P (i ∷ is) = P i × Every P is

pub every_append : (P : Item → Type 0) (is js : List Item) → Every P is → Every P js → Every P (is ++ js)
unfolding Every
every_append P [] js a c = c
every_append P (i ∷ is) js a c = (a.0, every_append P is js a.1 c)

pub every_map : (P Q : Item → Type 0) (is : List Item) → ((i : Item) → P i → Q i) → Every P is → Every Q is
unfolding Every
every_map P Q [] f a = tt
every_map P Q (i ∷ is) f a = (f i a.0, every_map P Q is f a.1)

pub every-at : (P : Item → Type 0) (is : List Item) → Every P is → (j : ℕ) → j < length is → P (nth is j)
unfolding Every
every-at P [] a j l = absurd (omega arith)
every-at P (i ∷ is) a zero l = a.0
every-at P (i ∷ is) a (suc j) l = every-at P is a.1 j (omega arith)

-- number c of row r
pub in_rows : (is : List Item) (r c : ℕ) → r < length is → c < row_numbers → get_or (rows_of is) (row_numbers * r + c) 0 ≡ get_or (row (nth is r)) c 0
unfolding rows_of
in_rows [] r c l h = absurd (omega arith)
in_rows (i ∷ is) zero c l h = let e : row_numbers * 0 + c ≡ c = omega arith in rw e (get_or-append (row i) (rows_of is) 0 c h)
in_rows (i ∷ is) (suc r) c l h =
    let e : row_numbers * suc r + c ≡ length (row i) + (row_numbers * r + c) = omega arith in
    rw e (get_or-append-add (row i) (rows_of is) (row_numbers * r + c) 0 ∙ in_rows is r c (omega arith) h)

-- ---- the numbers of a row

-- the octets of a list are octets
abbrev pub Octets : List ℕ → Type 0
Octets xs = (j : ℕ) → octet xs j < 256

pub octets-drop : (c : ℕ) (xs : List ℕ) → Octets xs → Octets (drop c xs)
octets-drop c xs o j = rw (get_or-drop c xs j 0) (o (c + j))

pub octets-take : (c : ℕ) (xs : List ℕ) → Octets xs → Octets (take c xs)
octets-take zero xs o j = omega arith
octets-take (suc c) [] o j = omega arith
octets-take (suc c) (x ∷ xs) o zero = o zero
octets-take (suc c) (x ∷ xs) o (suc j) = octets-take c xs (λ i. o (suc i)) j

pub head-octets : {xs : List ℕ} {h : Element} → Octets xs → At xs h → (h.typ < 256) × (h.inst < 16) × (h.len < 65536)
head-octets {xs} {h} o a =
    let e = head-is xs (at-whole a) in
    let t : h.typ ≡ octet xs 0 = ap (λ (x : Element). x.typ) (at_seen a) ∙ ap (λ (x : Head). x.typ) e in
    let i : h.inst ≡ octet xs 3 % 16 = ap (λ (x : Element). x.inst) (at_seen a) ∙ ap (λ (x : Head). x.inst) e in
    let l : h.len ≡ octet xs 1 * 256 + octet xs 2 = at_len a in
    (omega (arith, o 0), omega arith, omega (arith, o 1, o 2))

-- a row of a run that ends at `top`, among at most n rows
pub record Fits (n top : ℕ) (i : Item) : Type 0 where
  pub parent : i.parent ≤ n
  pub typ : i.typ < 256
  pub inst : i.inst < 16
  pub ends : value_end i ≤ top
  pub stand : i.stand ≤ void

fits_more : (n top n' top' : ℕ) (is : List Item) → n ≤ n' → top ≤ top' → Every (Fits n top) is → Every (Fits n' top') is
fits_more n top n' top' is a c f =
    every_map (Fits n top) (Fits n' top') is
    (λ i x. record { parent = omega (arith, x.parent); typ = x.typ; inst = x.inst; ends = omega (arith, x.ends); stand = x.stand }) f

pub all_fit : {b : Book} {k v : ℕ} {m : List ℕ} {p n at : ℕ} {xs : List ℕ} {es : List Item} → Met b k v m p n at xs es → Octets xs → p ≤ n
    → Every (Fits (n + length es) (at + length xs)) es
unfolding Every item_of
all_fit ends o l = tt
all_fit {b} {k} (alone {v = v} {m = m} {p = p} {n = n} {at = at} {xs = xs} {es = es} h a e t) o l =
    let q = head-octets o a in
    let r = rest-length xs h.len (fits a) in (
      record { parent = omega arith; typ = q.0; inst = q.1; ends = omega (arith, fits a); stand = stand-most b k v m h },
      fits_more (n + 1 + length es) (at + element_header + h.len + length (drop (element_header + h.len) xs)) (n + suc (length es)) (at + length xs) es
          (omega arith) (omega (arith, r)) (all_fit t (octets-drop (element_header + h.len) xs o) (omega arith)),
    )
all_fit {b} {k} (group {v = v} {m = m} {p = p} {n = n} {at = at} {xs = xs} {is = is} {es = es} h g a e d t) o l =
    let q = head-octets o a in
    let r = rest-length xs h.len (fits a) in
    let w = value-length xs h.len (fits a) in
    let z = length-append is es in (
      record { parent = omega arith; typ = q.0; inst = q.1; ends = omega (arith, fits a); stand = stand-most b k v m h },
      every_append (Fits (n + suc (length (is ++ es))) (at + length xs)) is es
          (fits_more (n + 1 + length is) (at + element_header + length (take h.len (drop element_header xs))) (n + suc (length (is ++ es))) (at + length xs) is
          (omega arith) (omega (arith, w, fits a)) (all_fit d (octets-take h.len (drop element_header xs) (octets-drop element_header xs o)) (omega arith)))
          (fits_more (n + 1 + length is + length es) (at + element_header + h.len + length (drop (element_header + h.len) xs)) (n + suc (length (is ++ es))) (at + length xs) es
          (omega arith) (omega (arith, r)) (all_fit t (octets-drop (element_header + h.len) xs o) (omega arith))),
    )

-- the six numbers
pub record In16 (i : Item) : Type 0 where
  pub parent : i.parent < 65536
  pub typ : i.typ < 65536
  pub inst : i.inst < 65536
  pub place : value_place i < 65536
  pub len : i.len < 65536
  pub stand : i.stand < 65536

pub fit_16 : (b : Book) (k : ℕ) (m : List ℕ) (es : List Item) → taken b k m ≡ whole es → length m ≤ largest_message → header_length m ≤ length m → Octets m → Every In16 es
fit_16 b k m es e l h o =
    let d = body-met b k m es e in
    let c = rows-quarter b k m es e in
    every_map (Fits (0 + length es) (header_length m + length (drop (header_length m) m))) In16 es
    (λ i x. record {
      parent = omega (arith, x.parent);
      typ = omega (arith, x.typ);
      inst = omega (arith, x.inst);
      place = omega (arith, x.ends, length-drop (header_length m) m);
      len = omega (arith, x.ends, length-drop (header_length m) m);
      stand = omega (arith, x.stand);
    })
    (all_fit d (octets-drop (header_length m) m o) (omega arith))
