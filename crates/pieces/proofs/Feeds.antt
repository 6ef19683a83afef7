-- Octets of a message that go by one stride come to what they come to one by one; and stride after stride, whatever rows are lent. Assumes nothing.
--     all_idle_is, all_head_is, all_walk_is   the ways out of a stride          feed_append   parts of a part          all-fits   states stay sound
--     Feeds, feeds_next, feeds_end   the loop over a part, for rows that are lent in either form
use mathlib.Core.Path.{◌≡◌, refl, sym, ap, ◌∙◌}
use mathlib.Core.Bool.{Bool, true, false, cond}
use Rattle.std.specs.Prelude.{None}
use mathlib.Core.List.{List, [], ◌∷◌, ◌++◌}
use Prim.Native.Nat.{ℕ, suc, ◌+◌, ◌-◌, ◌≤◌, ◌<◌}
use native.Mathlib.Omega.{arith}
use borrow.Author.Tests.{ne_eqb, lt-ltb, le-ltb, ltb-true, ltb-false}
use lib.Dec.{eqb, ltb}
use lib.ListN.{length, get_or, take, drop, take-append-drop, drop_of_length-le}
use lib.Seq.{length-take-le}
use Rattle.rules.specs.Sizes.{largest_message}
use Rattle.rules.specs.Framing.{header_length}
use Rattle.pieces.specs.declared.Pieces.{Pieces}
use Rattle.pieces.specs.declared.Going.{Going}
use Rattle.pieces.specs.declared.Stride.{Stride}
use Rattle.pieces.specs.Feeding.{count_on}
use Rattle.pieces.specs.Coded.{Fed, fed_with, row_if, eat_by, eat_all_by, body_by, with_going, count_by, head_after, in_header_by, FedPieces, feed_by, feed_all_by}
use Rattle.pieces.specs.Fits.{Fits}
use Rattle.pieces.specs.Agreements.{FitsAll, Strode, StrodeAll, Idles, GaveAll}
use Rattle.pieces.proofs.Accepting.{rest-is}
use Rattle.pieces.proofs.Feeding.{header-most}
use Rattle.pieces.proofs.Fits.{eat-fits}
use Rattle.pieces.proofs.Bodies.{body-fits}
use Rattle.pieces.proofs.Strides.{all-idle}

-- ---- the count

count_none : (c : ℕ) → c ≤ 4097 → count_by c 0 ≡ c
unfolding count_by
count_none c l = go (ltb largest_message (c + 0)) refl
  where
    go : (b : Bool) → ltb largest_message (c + 0) ≡ b → cond b 4097 (c + 0) ≡ c
    go true e = let m : 4096 < c + 0 = ltb-true _ _ e in omega arith
    go false e = omega arith

pub count_low : (c n : ℕ) → c + n ≤ 4096 → count_by c n ≡ c + n
unfolding count_by
count_low c n l = rw (le-ltb 4096 (c + n) l)

pub count-high : (c n : ℕ) → 4096 < c + n → count_by c n ≡ 4097
unfolding count_by
count-high c n l = rw (lt-ltb 4096 (c + n) l)

count-suc : (c n : ℕ) → c ≤ 4097 → count_by (count_on c) n ≡ count_by c (suc n)
unfolding count_on count_by
count-suc c n l = go (ltb largest_message c) refl
  where
    go : (b : Bool) → ltb largest_message c ≡ b → count_by (cond b c (suc c)) n ≡ count_by c (suc n)
    go true e = let m : 4096 < c = ltb-true _ _ e in count-high c n (omega arith) ∙ sym (count-high c (suc n) (omega arith))
    go false e = let s : suc c + n ≡ c + suc n = omega arith in ap (λ (j : ℕ). cond (ltb largest_message j) 4097 j) s

pub count_most : (n : ℕ) → n ≤ 4097 → count_on n ≤ 4097
unfolding count_on
count_most n l = go (ltb largest_message n) refl
  where
    go : (c : Bool) → ltb largest_message n ≡ c → cond c n (suc n) ≤ 4097
    go true e = l
    go false e = let m : n ≤ 4096 = ltb-false _ _ e in omega arith

count-least : (n h : ℕ) → h ≤ n → h ≤ count_on n
unfolding count_on
count-least n h l = go (ltb largest_message n)
  where
    go : (c : Bool) → h ≤ cond c n (suc n)
    go true = l
    go false = omega arith

-- ---- in the body

abbrev fed : Pieces → ℕ → List ℕ → Fed → FedPieces
fed p n h f = record { state = with_going p n h f.going; rows = f.rows }

body-all : (p : Pieces) (xs rows : List ℕ) → header_length p.head ≤ p.count → p.count ≤ 4097
    → feed_all_by p xs rows ≡ fed p (count_by p.count (length xs)) p.head (eat_all_by p.kind p.going xs rows)
unfolding feed_all_by feed_by eat_all_by
body-all p [] rows h l = ap (λ (n : ℕ). fed p n p.head (fed_with p.going rows)) (sym (count_none p.count l))
body-all p (x ∷ xs) rows h l =
    let f = eat_by p.kind p.going x rows in
    rw (le-ltb p.count (header_length p.head) h)
    (body-all (with_going p (count_on p.count) p.head f.going) xs f.rows (count-least p.count (header_length p.head) h) (count_most p.count l)
    ∙ ap (λ (n : ℕ). fed p n p.head (eat_all_by p.kind f.going xs f.rows)) (count-suc p.count (length xs) l))

-- ---- in the header, past its fourth octet and before its last

same_head : (h : List ℕ) (n x : ℕ) → 4 ≤ n → head_after h n x ≡ h
unfolding head_after
same_head h n x l = rw (le-ltb n 4 l)

head-one : (p : Pieces) (x : ℕ) → 4 ≤ p.count → p.count + 1 < header_length p.head → in_header_by p x ≡ with_going p (p.count + 1) p.head p.going
unfolding in_header_by
head-one p x l m =
    rw (same_head p.head p.count x l, ne_eqb (p.count + 1) (header_length p.head) (λ z. omega arith))

head-all : (p : Pieces) (xs rows : List ℕ) → 4 ≤ p.count → p.count + length xs < header_length p.head
    → feed_all_by p xs rows ≡ fed p (p.count + length xs) p.head (fed_with p.going rows)
unfolding feed_all_by feed_by
head-all p [] rows l m = let e : p.count + 0 ≡ p.count = omega arith in ap (λ (n : ℕ). fed p n p.head (fed_with p.going rows)) (sym e)
head-all p (x ∷ xs) rows l m =
    let e : p.count + 1 + length xs ≡ p.count + suc (length xs) = omega arith in
    rw (lt-ltb p.count (header_length p.head) (omega arith))
    (ap (λ (q : Pieces). feed_all_by q xs rows) (head-one p x l (omega arith))
    ∙ head-all (with_going p (p.count + 1) p.head p.going) xs rows (omega arith) (omega arith)
    ∙ ap (λ (n : ℕ). fed p n p.head (fed_with p.going rows)) e)

-- ---- the ways out of a stride

strode_by : (p : Pieces) (part : List ℕ) (r : Stride Pieces) → 0 < r.taken → r.taken ≤ length part
    → ((rows : List ℕ) → feed_all_by p (take r.taken part) rows ≡ record { state = r.state; rows = row_if rows p.going.counts.rows r.row r.state.going.counts.rows }) → StrodeAll p part r
strode_by p part r a b e = record {
  least = a;
  most = b;
  state = λ rows. ap (λ (f : FedPieces). f.state) (e rows);
  rows_left = λ rows. ap (λ (f : FedPieces). f.rows) (e rows);
}

module _ (p : Pieces) (part : List ℕ) (c : p.count ≤ 4097) where
  pub all_idle_is : (n : ℕ) {s : Pieces} → Idles p (length part) n → 0 < n → s ≡ with_going p (count_by p.count n) p.head p.going
      → StrodeAll p part (record { state = s; taken = n; row = None })
  all_idle_is n {s} i pos e =
      let len : length (take n part) ≡ n = length-take-le n part i.most in
      strode_by p part (record { state = s; taken = n; row = None }) pos i.most (λ rows. go rows len (ltb p.count (header_length p.head)) refl)
    where
      go : (rows : List ℕ) → length (take n part) ≡ n → (b : Bool) → ltb p.count (header_length p.head) ≡ b → feed_all_by p (take n part) rows ≡ record { state = s; rows = rows }
      go rows len true u =
          let lt : p.count < header_length p.head = ltb-true _ _ u in
          let h = i.head lt pos in
          head-all p (take n part) rows h.0 (rw len h.1)
          ∙ ap (λ (q : Pieces). record { state = q; rows = rows })
          (ap (λ (j : ℕ). with_going p j p.head p.going) (ap (λ (j : ℕ). p.count + j) len ∙ sym (count_low p.count n (omega (arith, h.1, header-most p.head)))) ∙ sym e)
      go rows len false u =
          let le : header_length p.head ≤ p.count = ltb-false _ _ u in
          body-all p (take n part) rows le c
          ∙ ap (λ (f : Fed). fed p (count_by p.count (length (take n part))) p.head f) (all-idle p.kind p.going (take n part) rows (i.body le pos))
          ∙ ap (λ (q : Pieces). record { state = q; rows = rows }) (ap (λ (j : ℕ). with_going p (count_by p.count j) p.head p.going) len ∙ sym e)

  pub all_head_is : {s : Pieces} → 0 < length part → p.count < header_length p.head → s ≡ in_header_by p (get_or part 0 0) → StrodeAll p part (record { state = s; taken = 1; row = None })
  unfolding feed_all_by feed_by
  all_head_is {s} some lt e =
      strode_by p part (record { state = s; taken = 1; row = None }) (omega arith) (omega arith)
      (λ rows. rw (first_of part some, lt-ltb p.count (header_length p.head) lt, e))
    where
      first_of : (xs : List ℕ) → 0 < length xs → take 1 xs ≡ get_or xs 0 0 ∷ []
      first_of [] l = absurd (omega arith)
      first_of (x ∷ xs) l = refl

  pub all_walk_is : (s : Stride Going) {q : Pieces} → header_length p.head ≤ p.count → Strode p.kind p.going part s → q ≡ with_going p (count_by p.count s.taken) p.head s.state
      → StrodeAll p part (record { state = q; taken = s.taken; row = s.row })
  all_walk_is s {q} le t e =
      let len : length (take s.taken part) ≡ s.taken = length-take-le s.taken part t.most in
      strode_by p part (record { state = q; taken = s.taken; row = s.row }) t.least t.most
      (λ rows.
      body-all p (take s.taken part) rows le c
      ∙ rw (len, t.wrote.going rows, t.wrote.rows_left rows, e))

-- ---- parts of a part

pub feed_append : (p : Pieces) (xs ys rows : List ℕ) → feed_all_by p (xs ++ ys) rows ≡ feed_all_by (feed_all_by p xs rows).state ys (feed_all_by p xs rows).rows
unfolding feed_all_by
feed_append p [] ys rows = refl
feed_append p (x ∷ xs) ys rows = feed_append (feed_by p x rows).state xs ys (feed_by p x rows).rows

-- ---- states stay sound

feed-fits : (p : Pieces) (x : ℕ) (rows : List ℕ) → FitsAll p → FitsAll (feed_by p x rows).state
unfolding feed_by in_header_by
feed-fits p x rows f = go (ltb p.count (header_length p.head)) refl
  where
    begins : (c : Bool) → Fits p.kind (cond c (body_by p.kind (head_after p.head p.count x)) p.going)
    begins true = body-fits p.kind (head_after p.head p.count x)
    begins false = f.fits

    go : (c : Bool) → ltb p.count (header_length p.head) ≡ c
        → FitsAll (cond {A = FedPieces} c (record { state = in_header_by p x; rows = rows })
        (record { state = with_going p (count_on p.count) p.head (eat_by p.kind p.going x rows).going; rows = (eat_by p.kind p.going x rows).rows })).state
    go true e =
        let l : p.count < header_length p.head = ltb-true _ _ e in
        record { fits = begins (eqb (p.count + 1) (header_length (head_after p.head p.count x))); count = omega (arith, header-most p.head) }
    go false e = record { fits = eat-fits p.kind p.going x rows f.fits; count = count_most p.count f.count }

pub all-fits : (p : Pieces) (xs rows : List ℕ) → FitsAll p → FitsAll (feed_all_by p xs rows).state
unfolding feed_all_by
all-fits p [] rows f = f
all-fits p (x ∷ xs) rows f = all-fits (feed_by p x rows).state xs (feed_by p x rows).rows (feed-fits p x rows f)

-- ---- the loop over a part

-- what is left of a part, from what is held now, comes to what the whole comes to from the start
pub record Feeds (q₀ : Pieces) (part rows₀ : List ℕ) (q : Pieces) (rest rows : List ℕ) : Type 0 where
  pub all : FitsAll q
  pub same : feed_all_by q rest rows ≡ feed_all_by q₀ part rows₀

module _ {q₀ : Pieces} {part rows₀ : List ℕ} {q : Pieces} {rest rows : List ℕ} (w : Feeds q₀ part rows₀ q rest rows) where
  pub feeds_next : {s : Stride Pieces} {rows' : List ℕ} → StrodeAll q rest s → rows' ≡ row_if rows q.going.counts.rows s.row s.state.going.counts.rows
      → Feeds q₀ part rows₀ s.state (take (length rest - s.taken) (drop s.taken rest)) rows'
  feeds_next {s} {rows'} t e =
      let xs = take s.taken rest in
      let ys = take (length rest - s.taken) (drop s.taken rest) in
      let st : (feed_all_by q xs rows).state ≡ s.state = t.state rows in
      let rs : (feed_all_by q xs rows).rows ≡ rows' = t.rows_left rows ∙ sym e in
      record {
        all = rw (← st) (all-fits q xs rows w.all);
        same = ap (λ (r : Pieces). feed_all_by r ys rows') (sym st) ∙ ap (feed_all_by (feed_all_by q xs rows).state ys) (sym rs)
            ∙ sym (feed_append q xs ys rows) ∙ ap (λ (zs : List ℕ). feed_all_by q zs rows) (ap (λ (zs : List ℕ). xs ++ zs) (rest-is rest s.taken) ∙ take-append-drop s.taken rest) ∙ w.same;
      }

  pub feeds_end : length rest ≡ 0 → GaveAll q rows (feed_all_by q₀ part rows₀)
  unfolding feed_all_by
  feeds_end l =
      let d : rest ≡ [] = drop_of_length-le rest {i = 0} (omega arith) in
      rw (← w.same, d) (record { state = refl; rows_left = refl })

-- the number of the next row is small
pub row_low : {q : Pieces} → FitsAll q → q.going.counts.rows ≤ largest_message
row_low f = omega (arith, f.fits.sized.few.rows, f.fits.sized.ends)
