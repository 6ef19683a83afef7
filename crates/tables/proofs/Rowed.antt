-- The numbers of a table are those of the elements: a proved translation. It asks only that the elements' table stands at the start of t, so it holds of
-- that table itself and of a longer run of numbers that it was laid over. Assumes nothing.
--     own-, more-, laid-begins   such tables                    row_of, count_of   number c of row r is number c of the element's row
--     level-of                  the level of the rows with parent p is the one that their parent was entered with
use mathlib.Core.Path.{◌≡◌, refl, sym, ap, ◌∙◌}
use mathlib.Core.Logic.{◌≢◌}
use mathlib.Core.Bool.{Bool, true, false, cond}
use mathlib.Core.List.{List, [], ◌∷◌, ◌++◌}
use Prim.Native.Nat.{ℕ, zero, suc, ◌+◌, ◌-◌, ◌*◌, ◌≤◌, ◌<◌}
use native.Mathlib.Omega.{arith}
use lib.Dec.{eqb}
use lib.ListN.{length, take, drop, get_or, length-append, get_or-append}
use lib.Seq.{get_or-append-add, take-suc, take-length, get_or-take}
use Rattle.rules.specs.Sizes.{header_numbers, row_numbers, used}
use Rattle.rules.specs.Framing.{message_type}
use Rattle.rules.specs.Listings.{Book}
use Rattle.rules.specs.Standing.{Item, kept}
use Rattle.rules.specs.Table.{row, rows_of, kept_rows, header, table_of, laid, no_item, nth}
use Rattle.rules.specs.Values.{cell, row_parent, row_type, row_instance, row_standing, table_type, table_kind}
use Rattle.rules.proofs.Rows.{rows-length, in_rows, Every, every-at}
use Rattle.rules.proofs.Places.{Stand}
use Rattle.tables.specs.Words.{rows, kept_among}
use Rattle.tables.specs.IsTable.{IsOf}
use Rattle.tables.specs.Levels.{level_number, inside_by, insides, level_of}
use Rattle.tables.proofs.Placed.{level_in, Placed, Backward, backward-at}

pub table-length : (typ k : ℕ) (is : List Item) → length (table_of typ k is) ≡ used (length is)
unfolding table_of header
table-length typ k is = omega (arith, rows-length is)

row_is : (typ k : ℕ) (is : List Item) (r c : ℕ) → r < length is → c < row_numbers → cell (table_of typ k is) r c ≡ get_or (row (nth is r)) c 0
unfolding table_of header
row_is typ k is r c l h =
    let e : used r + c ≡ header_numbers + (row_numbers * r + c) = omega arith in
    rw e (get_or-append-add (length is ∷ kept_rows is ∷ header_numbers ∷ used (length is) ∷ typ ∷ k ∷ []) (rows_of is) (row_numbers * r + c) 0 ∙ in_rows is r c l h)

-- the table of the elements stands at the start of t, of whatever message type and kind
pub record Begins (t : List ℕ) (is : List Item) : Type 0 where
  pub room : used (length is) ≤ length t
  pub same : (i : ℕ) → i < used (length is) → get_or t i 0 ≡ get_or (table_of (table_type t) (table_kind t) is) i 0

pub own-begins : (typ k : ℕ) (is : List Item) → Begins (table_of typ k is) is
unfolding table_of header
own-begins typ k is = record { room = omega (arith, table-length typ k is); same = λ i l. refl }

pub more-begins : (typ k : ℕ) (is : List Item) (more : List ℕ) → Begins (table_of typ k is ++ more) is
unfolding table_of header
more-begins typ k is more = record {
  room = omega (arith, table-length typ k is, length-append (table_of typ k is) more);
  same = λ i l. get_or-append (table_of typ k is) more 0 i (omega (arith, l, table-length typ k is));
}

pub laid-begins : (typ k : ℕ) (is : List Item) (lent : List ℕ) → Begins (laid (table_of typ k is) lent) is
unfolding laid
laid-begins typ k is lent = more-begins typ k is (drop (length (table_of typ k is)) lent)

-- and says what it is a table of
pub own_of : (k : ℕ) (m : List ℕ) (is : List Item) → IsOf k m (table_of (message_type m) k is)
unfolding table_of header
own_of k m is = record { of_type = refl; of_kind = refl }

pub more_of : (k : ℕ) (m : List ℕ) (is : List Item) (more : List ℕ) → IsOf k m (table_of (message_type m) k is ++ more)
unfolding table_of header
more_of k m is more = record { of_type = refl; of_kind = refl }

pub laid_of : (k : ℕ) (m : List ℕ) (is : List Item) (lent : List ℕ) → IsOf k m (laid (table_of (message_type m) k is) lent)
unfolding laid
laid_of k m is lent = more_of k m is (drop (length (table_of (message_type m) k is)) lent)

-- so that each of its numbers is known
pub begins-of : (k : ℕ) (m t : List ℕ) (is : List Item) → IsOf k m t → Begins t is → (i : ℕ) → i < used (length is) → get_or t i 0 ≡ get_or (table_of (message_type m) k is) i 0
begins-of k m t is o x i l =
    x.same i l ∙ ap (λ (y : ℕ). get_or (table_of y (table_kind t) is) i 0) o.of_type ∙ ap (λ (y : ℕ). get_or (table_of (message_type m) y is) i 0) o.of_kind

module _ (t : List ℕ) (is : List Item) (x : Begins t is) where
  pub row_of : (r c : ℕ) → r < length is → c < row_numbers → cell t r c ≡ get_or (row (nth is r)) c 0
  row_of r c l h = x.same (used r + c) (omega arith) ∙ row_is (table_type t) (table_kind t) is r c l h

  -- the header
  pub count_of : rows t ≡ length is
  unfolding table_of header
  count_of = x.same 0 (omega arith)

  pub kept_of : get_or t 1 0 ≡ kept_rows is
  unfolding table_of header
  kept_of = x.same 1 (omega arith)

  pub first_of : get_or t 2 0 ≡ header_numbers
  unfolding table_of header
  first_of = x.same 2 (omega arith)

  pub used-of : get_or t 3 0 ≡ used (length is)
  unfolding table_of header
  used-of = x.same 3 (omega arith)

  -- the rows of the inside of row n have parents of their own
  pub inside-others : (n p : ℕ) (js : List Item) → p ≤ n → Stand is (n + 1) js → Every (λ i. n + 1 ≤ i.parent) js → (y : ℕ) → n + 1 ≤ y → y < n + 1 + length js → row_parent t y ≢ p
  inside-others n p js u s f y a c w =
      let z : n + 1 + (y - (n + 1)) ≡ y = omega arith in
      let o = every-at (λ i. n + 1 ≤ i.parent) js f (y - (n + 1)) (omega arith) in
      let d : nth is y ≡ nth js (y - (n + 1)) = rw z at (s.same (y - (n + 1)) (omega arith)) in
      omega (arith, o, ap (λ (i : Item). i.parent) d, row_of y 0 (omega (arith, c, s.room)) (omega arith), w)

-- ---- the kept rows

kept_step : (c : Bool) (a n : ℕ) → a + cond c 1 0 + n ≡ a + cond c (suc n) n
kept_step true a n = omega arith
kept_step false a n = omega arith

pub kept_from : (t : List ℕ) (n : ℕ) (es : List Item) → ((j : ℕ) → j < length es → row_standing t (n + j) ≡ (nth es j).stand) → kept_among t (n + length es) ≡ kept_among t n + kept_rows es
unfolding kept_rows kept_among
kept_from t n [] f = let e : n + 0 ≡ n = omega arith in let e' : kept_among t n + 0 ≡ kept_among t n = omega arith in rw (e, e')
kept_from t n (i ∷ es) f =
    let e : n + suc (length es) ≡ suc n + length es = omega arith in
    let z : n + 0 ≡ n = omega arith in
    let s : row_standing t n ≡ i.stand = rw z at (f 0 (omega arith)) in
    rw e (kept_from t (suc n) es (λ j l. let y : suc n + j ≡ n + suc j = omega arith in rw y (f (suc j) (omega arith)))
    ∙ ap (λ (w : ℕ). kept_among t n + cond (eqb w kept) 1 0 + kept_rows es) s
    ∙ kept_step (eqb i.stand kept) (kept_among t n) (kept_rows es))

-- ---- the levels of the insides

unfoldable insides_of : List Item → List ℕ
insides_of [] = []
insides_of (i ∷ is) = i.inside ∷ insides_of is

insides_append : (is es : List Item) → insides_of (is ++ es) ≡ insides_of is ++ insides_of es
unfolding insides_of
insides_append [] es = refl
insides_append (i ∷ is) es = rw (insides_append is es)

insides-at : (is : List Item) (q : ℕ) → get_or (insides_of is) q 0 ≡ (nth is q).inside
unfolding insides_of
insides-at [] q = refl
insides-at (i ∷ is) zero = refl
insides-at (i ∷ is) (suc q) = insides-at is q

module _ (b : Book) (k v : ℕ) (t : List ℕ) (all : List Item) (x : Begins t all) (at : Every (Placed b k v all) all) (back : Backward 0 all) where
  -- among the first n rows
  level-take : (n p : ℕ) → p ≤ n → level_number b k v t (insides_of (take n all)) p ≡ level_in all v p
  level-take n zero l = refl
  level-take n (suc q) l = insides-at (take n all) q ∙ ap (λ (i : Item). i.inside) (get_or-take n all q no_item (omega arith))

  inside-next : (n : ℕ) → n < length all → inside_by b k v t (insides_of (take n all)) n ≡ (nth all n).inside
  inside-next n l =
      let a : row_parent t n ≡ (nth all n).parent = row_of t all x n 0 l (omega arith) in
      let c : row_type t n ≡ (nth all n).typ = row_of t all x n 1 l (omega arith) in
      let d : row_instance t n ≡ (nth all n).inst = row_of t all x n 2 l (omega arith) in
      let e : row_standing t n ≡ (nth all n).stand = row_of t all x n 5 l (omega arith) in
      let p : (nth all n).parent ≤ n = omega (arith, backward-at 0 all back n l) in
      rw (a, c, d, e, level-take n (nth all n).parent p) (sym (every-at (Placed b k v all) all at n l).inside)

  insides_are : (n : ℕ) → n ≤ length all → insides b k v t n ≡ insides_of (take n all)
  unfolding insides insides_of
  insides_are zero l = refl
  insides_are (suc n) l =
      rw (insides_are n (omega arith), inside-next n l, take-suc all n no_item (omega arith), insides_append (take n all) (nth all n ∷ []))

  all-insides : insides b k v t (rows t) ≡ insides_of all
  all-insides = ap (insides b k v t) (count_of t all x) ∙ insides_are (length all) (omega arith) ∙ ap insides_of (take-length all)

  pub level-of : (p : ℕ) → level_of b k v t p ≡ level_in all v p
  level-of zero = refl
  level-of (suc q) = rw all-insides (insides-at all q)
