-- "Mandatory element missing" and "mandatory and short", over the table's rows: the first check that applies among the elements is the first
-- among the rows, since rows and levels are the elements' own. Assumes nothing.
--     missing_iff, missing-first        short_iff, short-first
use mathlib.Core.Path.{◌≡◌, refl, sym, ap, ◌∙◌}
use mathlib.Core.Logic.{◌↔◌}
use mathlib.Core.Bool.{Bool, true, false, not, ◌&&◌, ◌||◌}
use mathlib.Core.List.{List, [], ◌∷◌}
use Prim.Native.Nat.{ℕ, zero, suc, ◌+◌, ◌-◌, ◌<◌}
use native.Mathlib.Omega.{arith}
use native.Mathlib.Nat.{pos_of_ne-zero}
use native.Mathlib.Decide.{dec_lt}
use borrow.Author.Tests.{eqb-true, eq-eqb, ne_eqb}
use lib.Dec.{eqb}
use lib.ListN.{length, get_or, get_or-eq_default}
use Rattle.rules.specs.Framing.{message_type}
use Rattle.rules.specs.Taking.{body_level}
use Rattle.rules.specs.Sound.{sound}
use Rattle.rules.specs.Listings.{is_message, Book, Line, empty_line, listing}
use Rattle.rules.specs.Standing.{Item, kept, short, value_place}
use Rattle.rules.specs.Verdicts.{refused_at, invalid_length, mandatory_missing, check, refuses, first, short_checks, short_verdict, is_kept, has_kept, is_mandatory, lack_verdict}
use Rattle.rules.specs.Values.{row_type, row_instance, row_place}
use Rattle.rules.specs.declared.Verdict.{Verdict}
use Rattle.rules.proofs.Lines.{and_left, and_right}
use Rattle.rules.specs.Table.{no_item, nth}
use Rattle.rules.proofs.Rows.{Every, every-at}
use Rattle.tables.specs.Words.{rows}
use Rattle.tables.specs.Levels.{insides, level_of, level_place, required, row_line}
use Rattle.verdicts.specs.Missing.{KeptRow, Lacks, FirstLack, ShortRow, FirstShort}
use Rattle.tables.proofs.Tests.{clash, not-true, un_not, and-true, or_right}
use Rattle.tables.proofs.Messages.{WalkedOf, body-level, all_placed, all-backward}
use Rattle.tables.proofs.Placed.{level_in, Placed}
use Rattle.tables.proofs.Rowed.{Begins, row_of, count_of, level-of}
use Rattle.verdicts.proofs.Searches.{Search, none, found, Lines, no_line, at_line, line-more, line_lacks, place_in, line_in, lacks, lack_says, search_all}

-- ---- kept rows

kept_at : (p t j : ℕ) (is : List Item) (r : ℕ) → r < length is → is_kept p t j (nth is r) ≡ true → has_kept p t j is ≡ true
unfolding has_kept
kept_at p t j [] r l e = absurd (omega arith)
kept_at p t j (i ∷ is) zero l e = rw e
kept_at p t j (i ∷ is) (suc r) l e = or_right (is_kept p t j i) (has_kept p t j is) (kept_at p t j is r (omega arith) e)

kept_case : (p t j : ℕ) (i : Item) (is : List Item) (c : Bool) → is_kept p t j i ≡ c → c || has_kept p t j is ≡ true
    → (has_kept p t j is ≡ true → (r : ℕ) × (r < length is) × (is_kept p t j (nth is r) ≡ true))
    → (r : ℕ) × (r < suc (length is)) × (is_kept p t j (nth (i ∷ is) r) ≡ true)
kept_case p t j i is true e h f = (0, omega arith, e)
kept_case p t j i is false e h f = let x = f h in (suc x.0, omega (arith, x.1), x.2)

kept-some : (p t j : ℕ) (is : List Item) → has_kept p t j is ≡ true → (r : ℕ) × (r < length is) × (is_kept p t j (nth is r) ≡ true)
unfolding has_kept
kept-some p t j [] e = let z : ◌≡◌ {A = ℕ} 0 1 = cc in absurd (omega arith)
kept-some p t j (i ∷ is) e = kept_case p t j i is (is_kept p t j i) refl e (kept-some p t j is)

-- ---- short rows, in row order

abbrev short_item : Item → Bool
short_item i = i.must && eqb i.stand short

abbrev short_says : Item → Verdict
short_says i = refused_at 11 invalid_length i.place i.typ i.inst

short-lines : (all is : List Item) (n : ℕ) → ((j : ℕ) → nth all (n + j) ≡ nth is j)
    → Lines (λ r. short_item (nth all r)) (λ r. short_says (nth all r)) n (first (short_checks is))
unfolding first short_checks check
short-lines all [] n e =
    no_line (λ j l. let z : n + (j - n) ≡ j = omega arith in ap short_item (ap (λ (x : ℕ). nth all x) (sym z) ∙ e (j - n))) refl
short-lines all (i ∷ is) n e =
    let z : n + 0 ≡ n = omega arith in
    let here : nth all n ≡ i = rw z at (e 0) in
    rw (← here) (line-more (λ r. short_item (nth all r)) (λ r. short_says (nth all r)) n (first (short_checks is)) refl (short_item (nth all n)) refl
    (short-lines all is (suc n) (λ j. let y : suc n + j ≡ n + suc j = omega arith in rw y (e (suc j)))))

-- ---- over the table

-- the elements were walked of a listed message, and their table stands at the start of t
module _ (b : Book) (fine : sound b ≡ true) (k : ℕ) (m t : List ℕ) (all : List Item) (ok : Begins t all) (d : WalkedOf b k m all) (listed : is_message b (message_type m) ≡ true) where
  placed-all : Every (Placed b k (body_level b m) all) all
  placed-all = all_placed b fine k m all d listed

  levels : (p : ℕ) → level_of b k (body_level b m) t p ≡ level_in all (body_level b m) p
  levels p = level-of b k (body_level b m) t all ok placed-all (all-backward b fine k m all d) p

  lines : (p j : ℕ) → required b k (body_level b m) t p j ≡ line_in b k (body_level b m) all p j
  lines p j = ap (λ (w : ℕ). get_or (listing b w) j empty_line) (levels p)

  -- a kept row of the table is a kept element
  kept_row : (p : ℕ) (l : Line) (r : ℕ) → KeptRow b k (body_level b m) t p l r → (r < length all) × (is_kept p l.typ l.inst (nth all r) ≡ true)
  kept_row p l r x =
      let h : r < length all = rw (count_of t all ok) at x.there in
      let a : (nth all r).parent ≡ p = sym (row_of t all ok r 0 h (omega arith)) ∙ x.parent in
      let c : (nth all r).typ ≡ l.typ = sym (row_of t all ok r 1 h (omega arith)) ∙ x.typ in
      let d : (nth all r).inst ≡ l.inst = sym (row_of t all ok r 2 h (omega arith)) ∙ x.inst in
      let e : (nth all r).stand ≡ kept = sym (row_of t all ok r 5 h (omega arith)) ∙ x.stand in
      (h, rw (eq-eqb _ _ a, eq-eqb _ _ c, eq-eqb _ _ d, eq-eqb _ _ e))

  row_kept : (p : ℕ) (l : Line) (r : ℕ) → r < length all → is_kept p l.typ l.inst (nth all r) ≡ true → KeptRow b k (body_level b m) t p l r
  row_kept p l r h e =
      let i = nth all r in
      let a₃ = and_left (eqb i.parent p && eqb i.typ l.typ && eqb i.inst l.inst) (eqb i.stand kept) e in
      let a₂ = and_left (eqb i.parent p && eqb i.typ l.typ) (eqb i.inst l.inst) a₃ in record {
        there = rw (count_of t all ok) h;
        parent = row_of t all ok r 0 h (omega arith) ∙ eqb-true _ _ (and_left (eqb i.parent p) (eqb i.typ l.typ) a₂);
        typ = row_of t all ok r 1 h (omega arith) ∙ eqb-true _ _ (and_right (eqb i.parent p) (eqb i.typ l.typ) a₂);
        inst = row_of t all ok r 2 h (omega arith) ∙ eqb-true _ _ (and_right (eqb i.parent p && eqb i.typ l.typ) (eqb i.inst l.inst) a₃);
        stand = row_of t all ok r 5 h (omega arith) ∙ eqb-true _ _ (and_right (eqb i.parent p && eqb i.typ l.typ && eqb i.inst l.inst) (eqb i.stand kept) e);
      }

  some_level : (n : ℕ) → not (eqb n 0) ≡ true → 0 < n
  some_level n e = pos_of_ne-zero (λ z. clash (eqb n 0) (eq-eqb n 0 z) (un_not (eqb n 0) e))

  lacks-row : (p j : ℕ) → lacks b k (body_level b m) all p j ≡ true → Lacks b k (body_level b m) t p j
  lacks-row p j e =
      let l = line_in b k (body_level b m) all p j in
      let a = and_left (not (eqb (level_in all (body_level b m) p) 0)) (line_lacks k all p (place_in b k (body_level b m) all p) l) e in
      let c = and_right (not (eqb (level_in all (body_level b m) p) 0)) (line_lacks k all p (place_in b k (body_level b m) all p) l) e in record {
        level = rw (levels p) (some_level (level_in all (body_level b m) p) a);
        must = rw (lines p j) (and_left (is_mandatory k l) (not (has_kept p l.typ l.inst all)) c);
        none = λ r x. let y = kept_row p l r (rw (lines p j) at x) in
            clash (has_kept p l.typ l.inst all) (kept_at p l.typ l.inst all r y.0 y.1)
            (un_not (has_kept p l.typ l.inst all) (and_right (is_mandatory k l) (not (has_kept p l.typ l.inst all)) c));
      }

  row-lacks : (p j : ℕ) → Lacks b k (body_level b m) t p j → lacks b k (body_level b m) all p j ≡ true
  row-lacks p j x =
      let l = line_in b k (body_level b m) all p j in
      let a : 0 < level_in all (body_level b m) p = rw (levels p) at x.level in
      let c : is_mandatory k (line_in b k (body_level b m) all p j) ≡ true = rw (lines p j) at x.must in
      let d : has_kept p (line_in b k (body_level b m) all p j).typ (line_in b k (body_level b m) all p j).inst all ≡ false
      = not-true (has_kept p l.typ l.inst all) (λ e. let y = kept-some p l.typ l.inst all e in
      x.none y.0 (rw (lines p j) (row_kept p l y.0 y.1 y.2))) in
      and-true (not (eqb (level_in all (body_level b m) p) 0)) (line_lacks k all p (place_in b k (body_level b m) all p) (line_in b k (body_level b m) all p j))
      (rw (ne_eqb (level_in all (body_level b m) p) 0 (λ z. omega arith))) (rw (c, d))

  -- a level that lacks is one of the message's
  in_range : (p j : ℕ) → lacks b k (body_level b m) all p j ≡ true → p < suc (length all)
  in_range zero j e = omega arith
  in_range (suc q) j e = go (dec_lt q (length all))
    where
      a : 0 < (nth all q).inside
      a = some_level (nth all q).inside (and_left (not (eqb (nth all q).inside 0)) (line_lacks k all (suc q) (nth all q).place (line_in b k (body_level b m) all (suc q) j)) e)

      go : Dec (q < length all) → suc q < suc (length all)
      go (yes l) = omega arith
      go (no l) = absurd (let z : nth all q ≡ no_item = get_or-eq_default all no_item (omega arith) in omega (arith, a, ap (λ (x : Item). x.inside) z))

  places : (p : ℕ) → p < suc (length all) → level_place b k (body_level b m) t p ≡ place_in b k (body_level b m) all p
  places zero l = refl
  places (suc q) l = let e : row_place t q ≡ value_place (nth all q) = row_of t all ok q 3 (omega arith) (omega arith) in omega (arith, e)

  pub missing-first : refuses (lack_verdict b k (body_level b m) all) ≡ true → (p : ℕ) × (j : ℕ) × FirstLack b k (body_level b m) t p j
      ×
      (lack_verdict b k (body_level b m) all ≡ refused_at 12 mandatory_missing (level_place b k (body_level b m) t p) (required b k (body_level b m) t p j).typ (required b k (body_level b m) t p j).inst)
  missing-first e = go (search_all b k (body_level b m) all (body-level b fine k m listed))
    where
      go : Search (lacks b k (body_level b m) all) (lack_says b k (body_level b m) all) 0 (suc (length all)) (lack_verdict b k (body_level b m) all)
          → (p : ℕ) × (j : ℕ) × FirstLack b k (body_level b m) t p j
          ×
          (lack_verdict b k (body_level b m) all ≡ refused_at 12 mandatory_missing (level_place b k (body_level b m) t p) (required b k (body_level b m) t p j).typ (required b k (body_level b m) t p j).inst)
      go (none n w) = let z : refuses (lack_verdict b k (body_level b m) all) ≡ false = rw w in let y : ◌≡◌ {A = ℕ} 0 1 = cc in absurd (omega arith)
      go (found p j a l y f w) = (
        p,
        j,
        record { lacks = lacks-row p j y; none_before = λ p' j' d x. clash (lacks b k (body_level b m) all p' j') (row-lacks p' j' x) (f p' j' (omega arith) d) },
        rw (places p l, lines p j) w,
      )

  pub missing_iff : (refuses (lack_verdict b k (body_level b m) all) ≡ true) ↔ ((p : ℕ) × (j : ℕ) × Lacks b k (body_level b m) t p j)
  missing_iff = (λ e. let x = missing-first e in (x.0, x.1, x.2.lacks), λ x. go (search_all b k (body_level b m) all (body-level b fine k m listed)) x.0 x.1 (row-lacks x.0 x.1 x.2))
    where
      go : Search (lacks b k (body_level b m) all) (lack_says b k (body_level b m) all) 0 (suc (length all)) (lack_verdict b k (body_level b m) all) → (p j : ℕ) → lacks b k (body_level b m) all p j ≡ true → refuses (lack_verdict b k (body_level b m) all) ≡ true
      go (none n w) p j y = let z : lacks b k (body_level b m) all p j ≡ false = n p j (omega arith) (in_range p j y) in let q : ◌≡◌ {A = ℕ} 0 1 = cc in absurd (omega arith)
      go (found p' j' a l x f w) p j y = rw w

  -- ---- short

  row-line : (r : ℕ) → r < length all → (row_line b k (body_level b m) t (insides b k (body_level b m) t (rows t)) r).must ≡ (nth all r).must
  row-line r h =
      rw (row_of t all ok r 0 h (omega arith), row_of t all ok r 1 h (omega arith), row_of t all ok r 2 h (omega arith), levels (nth all r).parent)
      (sym (every-at (Placed b k (body_level b m) all) all placed-all r h).must)

  short_row : (r : ℕ) → short_item (nth all r) ≡ true → ShortRow b k (body_level b m) t r
  short_row r e = go (dec_lt r (length all))
    where
      go : Dec (r < length all) → ShortRow b k (body_level b m) t r
      go (yes h) = record {
        there = rw (count_of t all ok) h;
        stand = row_of t all ok r 5 h (omega arith) ∙ eqb-true _ _ (and_right (nth all r).must (eqb (nth all r).stand short) e);
        must = row-line r h ∙ and_left (nth all r).must (eqb (nth all r).stand short) e;
      }
      go (no h) =
          let z : nth all r ≡ no_item = get_or-eq_default all no_item (omega arith) in
          let y : short_item (nth all r) ≡ false = rw z in let q : ◌≡◌ {A = ℕ} 0 1 = cc in absurd (omega arith)

  row-short : (r : ℕ) → ShortRow b k (body_level b m) t r → short_item (nth all r) ≡ true
  row-short r x =
      let h : r < length all = rw (count_of t all ok) at x.there in
      and-true (nth all r).must (eqb (nth all r).stand short) (sym (row-line r h) ∙ x.must) (eq-eqb _ _ (sym (row_of t all ok r 5 h (omega arith)) ∙ x.stand))

  short_search : Lines (λ r. short_item (nth all r)) (λ r. short_says (nth all r)) 0 (short_verdict all)
  short_search = short-lines all all 0 (λ j. let z : 0 + j ≡ j = omega arith in rw z)

  pub short-first : refuses (short_verdict all) ≡ true → (r : ℕ) × FirstShort b k (body_level b m) t r
      × (short_verdict all ≡ refused_at 11 invalid_length (level_place b k (body_level b m) t (suc r)) (row_type t r) (row_instance t r))
  short-first e = go short_search
    where
      go : Lines (λ r. short_item (nth all r)) (λ r. short_says (nth all r)) 0 (short_verdict all) → (r : ℕ) × FirstShort b k (body_level b m) t r
          × (short_verdict all ≡ refused_at 11 invalid_length (level_place b k (body_level b m) t (suc r)) (row_type t r) (row_instance t r))
      go (no_line n w) = let z : refuses (short_verdict all) ≡ false = rw w in let y : ◌≡◌ {A = ℕ} 0 1 = cc in absurd (omega arith)
      go (at_line r a y f w) =
          let s = short_row r y in
          let h : r < length all = rw (count_of t all ok) at s.there in (
            r,
            record { is-short = s; none_before = λ r' d x. clash (short_item (nth all r')) (row-short r' x) (f r' (omega arith) d) },
            rw (places (suc r) (omega arith), row_of t all ok r 1 h (omega arith), row_of t all ok r 2 h (omega arith)) w,
          )

  pub short_iff : (refuses (short_verdict all) ≡ true) ↔ ((r : ℕ) × ShortRow b k (body_level b m) t r)
  short_iff = (λ e. let x = short-first e in (x.0, x.1.is-short), λ x. go short_search x.0 (row-short x.0 x.1))
    where
      go : Lines (λ r. short_item (nth all r)) (λ r. short_says (nth all r)) 0 (short_verdict all) → (r : ℕ) → short_item (nth all r) ≡ true → refuses (short_verdict all) ≡ true
      go (no_line n w) r y = let z : short_item (nth all r) ≡ false = n r (omega arith) in let q : ◌≡◌ {A = ℕ} 0 1 = cc in absurd (omega arith)
      go (at_line r' a x f w) r y = rw w
