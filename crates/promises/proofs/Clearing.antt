-- Clearing values makes the covered octets zero and no other: what is cleared of a value is just what its row covers. Assumes nothing.
--     clear_at, clear-length      the rows of a list cleared one after another, octet by octet
--     masked-at, masked-length    a message that passes checks 1 to 9, masked
use mathlib.Core.Path.{◌≡◌, refl, ◌∙◌}
use mathlib.Core.Bool.{Bool, true, false, cond, ◌&&◌, ◌||◌, and-false}
use mathlib.Core.List.{List, [], ◌∷◌, ◌++◌}
use Prim.Native.Nat.{ℕ, ◌+◌, ◌-◌, ◌≤◌, ◌<◌}
use native.Mathlib.Omega.{arith}
use native.Mathlib.Decide.{dec_le, dec_lt, ℕ_discrete}
use borrow.Author.Tests.{le-leb, lt-leb, lt-ltb, ltb-true, ltb-false, ne_eqb}
use lib.Dec.{eqb, ltb, leb}
use lib.ListN.{length, take, drop, get_or, replicate, length-append, length-take, length-drop, length-replicate, get_or-replicate, get_or-append}
use lib.Seq.{get_or-take, get_or-drop, get_or-append-add, length-take-le}
use Rattle.rules.specs.Framing.{element_header, header_length}
use Rattle.rules.specs.Frames.{Frame, hides}
use Rattle.rules.specs.Types.{covers_rest}
use Rattle.rules.specs.Listings.{Book}
use Rattle.rules.specs.Standing.{Item, kept, short, value_place, value_end}
use Rattle.rules.specs.Verdicts.{first, refuses, framing_checks, items}
use Rattle.rules.specs.Covered.{own_covered, covers_inside, covered_by, covered_in, covered, open_octets, zeroed, own_cleared, inside_cleared, cleared, clear_all, masked}
use Rattle.rules.specs.Sound.{sound}
use Rattle.rules.proofs.Rows.{Every, every_map}
use Rattle.rules.proofs.Frames.{span, hides-head, hides-value, hides-past, hides-beyond}
use Rattle.rules.proofs.Covers.{first_covered}
use Rattle.promises.proofs.Covering.{own-before, own-past, own-none, own_first, Sits, rows-framed, covered-rows, rows_sit}

-- ---- octets made zero

module _ (xs : List ℕ) (a n j : ℕ) (fits : a + n ≤ length xs) where
  front : length (take a xs) ≡ a
  front = length-take-le a xs (omega arith)

  pub zeroed-before : j < a → get_or (zeroed xs a n) j 0 ≡ get_or xs j 0
  unfolding zeroed
  zeroed-before l = get_or-append (take a xs) (replicate n 0 ++ drop (a + n) xs) 0 j (rw front l) ∙ get_or-take a xs j 0 l

  zeroed-from : (c : ℕ) → get_or (zeroed xs a n) (a + c) 0 ≡ get_or (replicate n 0 ++ drop (a + n) xs) c 0
  unfolding zeroed
  zeroed-from c = rw front at (get_or-append-add (take a xs) (replicate n 0 ++ drop (a + n) xs) c 0)

  zeroed-zero : (c : ℕ) → c < n → get_or (zeroed xs a n) (a + c) 0 ≡ 0
  zeroed-zero c l =
      zeroed-from c ∙ get_or-append (replicate n 0) (drop (a + n) xs) 0 c (rw (length-replicate {A = ℕ} n 0) l) ∙ get_or-replicate n c 0 0 l

  pub zeroed_in : a ≤ j → j < a + n → get_or (zeroed xs a n) j 0 ≡ 0
  zeroed_in l u =
      let e : a + (j - a) ≡ j = omega arith in rw e at (zeroed-zero (j - a) (omega arith))

  zeroed-after : (c : ℕ) → get_or (zeroed xs a n) (a + (n + c)) 0 ≡ get_or xs (a + n + c) 0
  zeroed-after c =
      zeroed-from (n + c) ∙ (rw (length-replicate {A = ℕ} n 0) at (get_or-append-add (replicate n 0) (drop (a + n) xs) c 0)) ∙ get_or-drop (a + n) xs c 0

  zeroed-past : a + n ≤ j → get_or (zeroed xs a n) j 0 ≡ get_or xs j 0
  zeroed-past l =
      let e : a + (n + (j - (a + n))) ≡ j = omega arith in
      let f : a + n + (j - (a + n)) ≡ j = omega arith in
      rw (e, f) at (zeroed-after (j - (a + n)))

pub zeroed-length : (xs : List ℕ) (a n : ℕ) → a + n ≤ length xs → length (zeroed xs a n) ≡ length xs
unfolding zeroed
zeroed-length xs a n l = simp (length-append, length-take, length-replicate, length-drop) (omega arith)

-- ---- how many octets of a value are open

-- of a value of n octets: none, the first, or all
pub data Opening (t s n : ℕ) : ℕ → Type 0 where
  none : first_covered t s ≡ true → Opening t s n 0
  one : first_covered t s ≡ false → covers_rest t && (eqb s kept || eqb s short) ≡ true → 0 < n → Opening t s n 1
  all : first_covered t s ≡ false → covers_rest t && (eqb s kept || eqb s short) ≡ false → Opening t s n n
  empty : n ≡ 0 → Opening t s n n

pub opening : (t s n : ℕ) → Opening t s n (open_octets t s n)
unfolding open_octets
opening t s n = go (first_covered t s) (covers_rest t && (eqb s kept || eqb s short)) (ltb 0 n) refl refl refl
  where
    go : (f r l : Bool) → first_covered t s ≡ f → covers_rest t && (eqb s kept || eqb s short) ≡ r → ltb 0 n ≡ l → Opening t s n (cond f 0 (cond (r && l) 1 n))
    go true r l ef er el = none ef
    go false false l ef er el = all ef er
    go false true true ef er el = one ef er (ltb-true 0 n el)
    go false true false ef er el = empty (omega (arith, ltb-false 0 n el))

pub opening-most : (t s n o : ℕ) → Opening t s n o → o ≤ n
opening-most t s n o (none f) = omega arith
opening-most t s n o (one f r l) = omega arith
opening-most t s n o (all f r) = omega arith
opening-most t s n o (empty z) = omega arith

module _ (i : Item) (j : ℕ) where
  -- from the open octets on a value is covered
  pub covered-after : (o : ℕ) → Opening i.typ i.stand i.len o → value_place i + o ≤ j → j < value_end i → own_covered i j ≡ true
  unfolding own_covered
  covered-after o (none f) l u = rw (le-leb (value_place i) j (omega arith), lt-ltb j (value_end i) u, f)
  covered-after o (one f r c) l u = rw (le-leb (value_place i) j (omega arith), lt-ltb j (value_end i) u, f, r, ne_eqb j (value_place i) (λ z. omega arith))
  covered-after o (all f r) l u = absurd (omega arith)
  covered-after o (empty z) l u = absurd (omega arith)

  -- and not before
  pub open_before : (o : ℕ) → Opening i.typ i.stand i.len o → j < value_place i + o → own_covered i j ≡ false
  open_before o (none f) l = own-before i j (omega arith)
  open_before o (one f r c) l = go (ℕ_discrete j (value_place i))
    where
      go : Dec (j ≡ value_place i) → own_covered i j ≡ false
      go (yes e) = rw e (own_first i f)
      go (no e) = own-before i j (omega arith)
  open_before o (all f r) l = own-none i j f r
  open_before o (empty z) l = own-before i j (omega arith)

-- ---- the values of elements one after another

inside-length : (fs : List Frame) (xs : List ℕ) (a : ℕ) → a + span fs ≤ length xs → length (inside_cleared xs a fs) ≡ length xs
unfolding inside_cleared span
inside-length [] xs a l = refl
inside-length (f ∷ fs) xs a l =
    let z = zeroed-length xs (a + element_header) f.len (omega arith) in
    inside-length fs (zeroed xs (a + element_header) f.len) (a + element_header + f.len) (omega (arith, z)) ∙ z

inside-at : (fs : List Frame) (xs : List ℕ) (a : ℕ) → a + span fs ≤ length xs
    → (j : ℕ) → get_or (inside_cleared xs a fs) j 0 ≡ cond (leb a j && hides fs (j - a)) 0 (get_or xs j 0)
unfolding inside_cleared span
inside-at [] xs a l j = nothing
  where
    none : hides [] (j - a) ≡ false
    none = hides-beyond [] (j - a) (omega arith)

    nothing : get_or xs j 0 ≡ cond (leb a j && hides [] (j - a)) 0 (get_or xs j 0)
    nothing = rw (none, and-false (leb a j))
inside-at (f ∷ fs) xs a l j =
    inside-at fs ys end (omega (arith, zeroed-length xs (a + element_header) f.len (omega arith))) j ∙ go (dec_lt j (a + element_header)) (dec_lt j end)
  where
    ys : List ℕ
    ys = zeroed xs (a + element_header) f.len

    end : ℕ
    end = a + element_header + f.len

    go : Dec (j < a + element_header) → Dec (j < end) → cond (leb end j && hides fs (j - end)) 0 (get_or ys j 0) ≡ cond (leb a j && hides (f ∷ fs) (j - a)) 0 (get_or xs j 0)
    go (yes u) d =
        rw (lt-leb end j (omega arith), hides-head f fs (j - a) (omega arith), and-false (leb a j)) (zeroed-before xs (a + element_header) f.len j (omega arith) u)
    go (no u) (yes d) =
        rw (lt-leb end j d, le-leb a j (omega arith), hides-value f fs (j - a) (omega arith) (omega arith))
        (zeroed_in xs (a + element_header) f.len j (omega arith) (omega arith) d)
    go (no u) (no d) =
        let e : j - a - (element_header + f.len) ≡ j - end = omega arith in
        rw (le-leb end j (omega arith), le-leb a j (omega arith), hides-past f fs (j - a) (omega arith), e, zeroed-past xs (a + element_header) f.len j (omega arith) (omega arith))

twice : (a c : Bool) (x : ℕ) → cond c 0 (cond a 0 x) ≡ cond (a || c) 0 x
twice true true x = refl
twice true false x = refl
twice false c x = refl

-- ---- one row

-- a row that lies in n octets, and what is hidden inside it in its value
pub record Clearable (n : ℕ) (i : Item) : Type 0 where
  pub finishes : value_end i ≤ n
  pub holds : span i.hidden ≤ i.len

module _ (xs : List ℕ) (i : Item) (c : Clearable (length xs) i) where
  abbrev opened : ℕ
  opened = open_octets i.typ i.stand i.len

  -- what is cleared ends where the value does
  clear-end : value_place i + opened + (i.len - opened) ≡ value_end i
  clear-end = omega (arith, opening-most i.typ i.stand i.len opened (opening i.typ i.stand i.len))

  clear-fits : value_place i + opened + (i.len - opened) ≤ length xs
  clear-fits = omega (arith, clear-end, c.finishes)

  own-length : length (own_cleared xs i) ≡ length xs
  own-length = zeroed-length xs (value_place i + opened) (i.len - opened) clear-fits

  own_at : (j : ℕ) → get_or (own_cleared xs i) j 0 ≡ cond (own_covered i j) 0 (get_or xs j 0)
  own_at j = go (dec_le (value_place i + opened) j) (dec_lt j (value_end i))
    where
      is_open : Opening i.typ i.stand i.len opened
      is_open = opening i.typ i.stand i.len

      go : Dec (value_place i + opened ≤ j) → Dec (j < value_end i) → get_or (own_cleared xs i) j 0 ≡ cond (own_covered i j) 0 (get_or xs j 0)
      go (yes l) (yes u) =
          rw (covered-after i j opened is_open l u)
          (zeroed_in xs (value_place i + opened) (i.len - opened) j clear-fits l (omega (arith, clear-end)))
      go (yes l) (no u) =
          rw (own-past i j (omega arith)) (zeroed-past xs (value_place i + opened) (i.len - opened) j clear-fits (omega (arith, clear-end)))
      go (no l) u =
          rw (open_before i j opened is_open (omega arith)) (zeroed-before xs (value_place i + opened) (i.len - opened) j clear-fits (omega arith))

  -- ---- and the values inside it

  fits-inside : value_place i + span i.hidden ≤ length (own_cleared xs i)
  fits-inside = omega (arith, own-length, c.holds, c.finishes)

  cleared-length : length (cleared xs i) ≡ length xs
  cleared-length = inside-length i.hidden (own_cleared xs i) (value_place i) fits-inside ∙ own-length

  in_value : (j : ℕ) → leb (value_place i) j && hides i.hidden (j - value_place i) ≡ covers_inside i j
  in_value j = go (leb (value_place i) j) (ltb j (value_end i)) refl refl
    where
      go : (a d : Bool) → leb (value_place i) j ≡ a → ltb j (value_end i) ≡ d
          → a && hides i.hidden (j - value_place i) ≡ a && d && hides i.hidden (j - value_place i)
      go false d ea ed = refl
      go true true ea ed = refl
      go true false ea ed = hides-beyond i.hidden (j - value_place i) (omega (arith, ltb-false j (value_end i) ed, c.holds))

  cleared_at : (j : ℕ) → get_or (cleared xs i) j 0 ≡ cond (covered_by i j) 0 (get_or xs j 0)
  unfolding covered_by
  cleared_at j =
      inside-at i.hidden (own_cleared xs i) (value_place i) fits-inside j
      ∙ rw (in_value j, own_at j) (twice (own_covered i j) (covers_inside i j) (get_or xs j 0))

-- ---- a list of rows

pub clear-length : (n : ℕ) (is : List Item) (xs : List ℕ) → length xs ≡ n → Every (Clearable n) is → length (clear_all xs is) ≡ n
unfolding clear_all Every
clear-length n [] xs e c = e
clear-length n (i ∷ is) xs e c = clear-length n is (cleared xs i) (cleared-length xs i (rw e c.0) ∙ e) c.1

pub clear_at : (n : ℕ) (is : List Item) (xs : List ℕ) → length xs ≡ n → Every (Clearable n) is
    → (j : ℕ) → get_or (clear_all xs is) j 0 ≡ cond (covered_in is j) 0 (get_or xs j 0)
unfolding clear_all covered_in Every
clear_at n [] xs e c j = refl
clear_at n (i ∷ is) xs e c j =
    let a : Clearable (length xs) i = rw e c.0 in
    clear_at n is (cleared xs i) (cleared-length xs i a ∙ e) c.1 j
    ∙ rw (cleared_at xs i a j) (twice (covered_by i j) (covered_in is j) (get_or xs j 0))

-- ---- a message

module _ (b : Book) (fine : sound b ≡ true) (k : ℕ) (m : List ℕ) (pass : refuses (first (framing_checks b k m)) ≡ false) where
  rows-clear : Every (Clearable (length m)) (items b k m)
  rows-clear =
      let f = rows-framed b k m pass in
      rw f.takes
      (every_map (Sits f.rows (header_length m) (length m)) (Clearable (length m)) f.rows
      (λ i s. record { finishes = s.finishes; holds = s.holds }) (rows_sit b fine k m f))

  pub masked-length : length (masked b k m) ≡ length m
  unfolding masked
  masked-length = clear-length (length m) (items b k m) m refl rows-clear

  pub masked-at : (j : ℕ) → get_or (masked b k m) j 0 ≡ cond (covered b k m j) 0 (get_or m j 0)
  unfolding masked
  masked-at j = rw (covered-rows b k m pass j) (clear_at (length m) (items b k m) m refl rows-clear j)
