-- What the walk of the code comes to is what the reading says: the walk of the elements and the walk of the code go side by side. Assumes nothing.
--     taken-alike   counts, first short element, gap and lent rows are those of the elements taken
use mathlib.Core.Path.{◌≡◌, refl, sym, ◌∙◌}
use mathlib.Core.Bool.{Bool, true, false, cond, ◌&&◌}
use mathlib.Core.List.{List, [], ◌∷◌, ◌++◌}
use Prim.Native.Nat.{ℕ, suc, ◌+◌, ◌*◌, ◌/◌, ◌≤◌, ◌<◌}
use native.Mathlib.Omega.{arith}
use native.Mathlib.Decide.{dec_le}
use borrow.Author.Tests.{le-leb, lt-leb, ne_eqb}
use lib.Dec.{eqb}
use lib.ListN.{length, drop, set, length-append, length-take, length-drop}
use lib.Seq.{take-nil, take_all, take-append-le, sets, sets-eq, take-append_seam, drop-append-add, drop-drop}
use Rattle.rules.specs.Sizes.{row_numbers}
use Rattle.rules.specs.Listings.{book}
use Rattle.rules.specs.Standing.{Item, fresh, kept, short, value_place}
use Rattle.rules.specs.Taking.{Out, cut, whole, add_item, at_end, items_of}
use Rattle.rules.specs.Table.{row, rows_of, kept_rows, laid, fitting}
use Rattle.rules.specs.Verdicts.{accepted, refused_at, check, refuses, first, short_check, short_checks, short_verdict, lack_verdict}
use Rattle.rules.specs.declared.Verdict.{Verdict}
use Rattle.rules.proofs.Checks.{first_append}
use Rattle.rules.proofs.Walks.{Alike, cuts, wholes, alongside}
use Rattle.rules.proofs.Rows.{rows-length}
use Rattle.rules.proofs.Book.{book-sound}
use Rattle.taking.specs.Lacks.{fault}
use Rattle.reading.specs.Gaps.{packed, Gap, gap_one, gap_shut, gap_number, gap_walk}
use Rattle.taking.specs.Held.{Held, held, one, count, counted, short_of, closed, put_numbers, put_row}
use Rattle.reading.specs.Scan.{shut, number, scan}
use Rattle.taking.specs.declared.Counts.{Counts}
use Rattle.reading.proofs.Gaps.{gap_is}

-- ---- counts

kept_append : (is : List Item) (i : Item) → kept_rows (is ++ (i ∷ [])) ≡ cond (eqb i.stand kept) (kept_rows is + 1) (kept_rows is)
unfolding kept_rows
kept_append [] i = last (eqb i.stand kept)
  where
    last : (b : Bool) → cond b 1 0 ≡ cond b (0 + 1) 0
    last true = refl
    last false = refl
kept_append (j ∷ is) i = rw (kept_append is i) (both (eqb j.stand kept) (eqb i.stand kept) (kept_rows is))
  where
    both : (a b : Bool) (n : ℕ) → cond a (suc (cond b (n + 1) n)) (cond b (n + 1) n) ≡ cond b (cond a (suc n) n + 1) (cond a (suc n) n)
    both true true n = omega arith
    both true false n = refl
    both false true n = refl
    both false false n = refl

-- ---- the first short element

shorts_append : (is : List Item) (i : Item) → short_checks (is ++ (i ∷ [])) ≡ short_checks is ++ (short_check i ∷ [])
unfolding short_checks
shorts_append [] i = refl
shorts_append (j ∷ is) i = rw (shorts_append is i)

fault-some : (o t i : ℕ) → eqb (fault o t i) 0 ≡ false
unfolding fault
fault-some o t i = ne_eqb (1 + o * 4096 + t * 16 + i) 0 (λ z. omega arith)

pub first_one : (v : Verdict) → first (v ∷ []) ≡ cond (refuses v) v accepted
unfolding first
first_one v = refl

-- a verdict, and after it what a check says
short-more : (v : Verdict) (i : Item) → packed (cond (refuses v) v (first (short_check i ∷ []))) ≡ short_of (packed v) i.must i.stand i.place i.typ i.inst
unfolding packed short_of first check
short-more v i = go (refuses v) refl i.must (eqb i.stand short)
  where
    go : (a : Bool) → refuses v ≡ a → (b c : Bool)
        → packed (cond a v (first (check (b && c) (refused_at 11 67 i.place i.typ i.inst) ∷ []))) ≡ cond (eqb (cond a (fault v.place v.typ v.inst) 0) 0 && b && c) (fault i.place i.typ i.inst) (cond a (fault v.place v.typ v.inst) 0)
    go true e b c = rw (e, fault-some v.place v.typ v.inst)
    go false e true true = refl
    go false e true false = refl
    go false e false c = refl

short_append : (is : List Item) (i : Item) → packed (short_verdict (is ++ (i ∷ []))) ≡ short_of (packed (short_verdict is)) i.must i.stand i.place i.typ i.inst
short_append is i = rw (shorts_append is i, first_append (short_checks is) (short_check i ∷ [])) (short-more (short_verdict is) i)

-- ---- the lent rows

rows_append : (is : List Item) (i : Item) → rows_of (is ++ (i ∷ [])) ≡ rows_of is ++ row i
unfolding rows_of
rows_append [] i = refl
rows_append (j ∷ is) i = rw (rows_append is i)

-- six stores one after another
six : (l : List ℕ) (n a b c d e f : ℕ)
    → set (set (set (set (set (set l n a) (n + 1) b) (n + 2) c) (n + 3) d) (n + 4) e) (n + 5) f ≡ sets l n (a ∷ b ∷ c ∷ d ∷ e ∷ f ∷ [])
six l n a b c d e f =
    let e₁ : n + 1 ≡ suc n = omega arith in
    let e₂ : n + 2 ≡ suc (suc n) = omega arith in
    let e₃ : n + 3 ≡ suc (suc (suc n)) = omega arith in
    let e₄ : n + 4 ≡ suc (suc (suc (suc n))) = omega arith in
    let e₅ : n + 5 ≡ suc (suc (suc (suc (suc n)))) = omega arith in
    rw (e₁, e₂, e₃, e₄, e₅)

-- a row at the end of those that are laid down
put-end : (xs lent ys : List ℕ) → length ys ≡ row_numbers → length xs + row_numbers ≤ length lent → sets (laid xs lent) (length xs) ys ≡ laid (xs ++ ys) lent
unfolding laid
put-end xs lent ys e h =
    let r : length xs + length ys ≤ length (xs ++ drop (length xs) lent) = simp (length-append, length-drop) (omega arith) in
    sets-eq ys (xs ++ drop (length xs) lent) (length xs) r
    ∙ rw (take-append_seam xs (drop (length xs) lent), drop-append-add xs (drop (length xs) lent) (length ys), drop-drop (length ys) (length xs) lent, length-append xs ys)

laid-length : (xs lent : List ℕ) → length xs ≤ length lent → length (laid xs lent) ≡ length lent
unfolding laid
laid-length xs lent h = simp (length-append, length-drop) (omega arith)

abbrev laid_rows : List ℕ → List Item → List ℕ
laid_rows lent is = laid (rows_of (fitting (length lent) is)) lent

fit_length : (n : ℕ) (is : List Item) → row_numbers * length (fitting n is) ≤ n
fit_length n is = let h : length (fitting n is) ≤ n / row_numbers = simp length-take (omega arith) in omega arith

rows_fit : (lent : List ℕ) (is : List Item) → length (rows_of (fitting (length lent) is)) ≤ length lent
rows_fit lent is = omega (arith, rows-length (fitting (length lent) is), fit_length (length lent) is)

put-more : (lent : List ℕ) (is : List Item) (i : Item) → Dec (row_numbers * length is + row_numbers ≤ length lent) → put_row (laid_rows lent is) (length is) i ≡ laid_rows lent (is ++ (i ∷ []))
unfolding put_row put_numbers
put-more lent is i (yes h) =
    let all : fitting (length lent) is ≡ is = take_all (length lent / row_numbers) is (omega arith) in
    let more : fitting (length lent) (is ++ (i ∷ [])) ≡ is ++ (i ∷ []) = take_all (length lent / row_numbers) (is ++ (i ∷ [])) (simp length-append (omega arith)) in
    let len : length (laid (rows_of is) lent) ≡ length lent = laid-length (rows_of is) lent (omega (arith, rows-length is)) in
    rw (all, more, rows_append is i, len, le-leb _ _ h, ← rows-length is)
    (six (laid (rows_of is) lent) (length (rows_of is)) i.parent i.typ i.inst (value_place i) i.len i.stand ∙ put-end (rows_of is) lent (row i) refl (omega (arith, rows-length is)))
put-more lent is i (no h) =
    let less : fitting (length lent) (is ++ (i ∷ [])) ≡ fitting (length lent) is = take-append-le (length lent / row_numbers) is (i ∷ []) (omega arith) in
    let len : length (laid_rows lent is) ≡ length lent = laid-length (rows_of (fitting (length lent) is)) lent (rows_fit lent is) in
    rw (less, len, lt-leb (row_numbers * length is + row_numbers) (length lent) (omega arith))

-- ---- side by side

-- what is held is what the elements say, and the gap is left open
pub record Same (lent : List ℕ) (is : List Item) (s : Held) : Type 0 where
  pub rows : s.counts.rows ≡ length is
  pub kept : s.counts.kept ≡ kept_rows is
  pub short : s.counts.short ≡ packed (short_verdict is)
  pub rows_left : s.rows ≡ laid_rows lent is

same-one : (lent : List ℕ) (is : List Item) (s : Held) (i : Item) → Same lent is s → Same lent (add_item is i) (one s i)
unfolding one count counted
same-one lent is s i x = record {
  rows = omega (arith, x.rows, length-append is (i ∷ []));
  kept = rw x.kept (sym (kept_append is i));
  short = rw x.short (sym (short_append is i));
  rows_left = rw (x.rows, x.rows_left) (put-more lent is i (dec_le (row_numbers * length is + row_numbers) (length lent)));
}

same-shut : (k : ℕ) (lent : List ℕ) (is : List Item) (s : Held) (v : ℕ) (m : List ℕ) (o : ℕ) → Same lent is s → Same lent (at_end is v m o) (shut k s v m o)
unfolding shut closed
same-shut k lent is s v m o x = record { rows = x.rows; kept = x.kept; short = x.short; rows_left = x.rows_left }

-- the gap walk beside it
pub record SameGap (g : Gap) (s : Held) : Type 0 where
  pub rows : g.rows ≡ s.counts.rows
  pub gap : g.gap ≡ s.counts.gap

gap-one : (g : Gap) (s : Held) (i : Item) → SameGap g s → SameGap (gap_one g i) (one s i)
unfolding one count counted
gap-one g s i x = record { rows = omega (arith, x.rows); gap = x.gap }

gap-shut : (k : ℕ) (g : Gap) (s : Held) (v : ℕ) (m : List ℕ) (o : ℕ) → SameGap g s → SameGap (gap_shut book k g v m o) (shut k s v m o)
unfolding shut closed
gap-shut k g s v m o x = record { rows = x.rows; gap = rw x.gap }

-- ---- what the code's walk comes to

module _ (k v at : ℕ) (xs lent : List ℕ) (c : Counts) (none : c ≡ record { rows = 0; kept = 0; short = 0; gap = 0 }) where
  start : Same lent [] (held c lent)
  unfolding packed first short_checks kept_rows rows_of laid
  start = rw none (record { rows = refl; kept = refl; short = refl; rows_left = rw (take-nil (length lent / row_numbers)) })

  beside : Alike (Same lent) (items_of book k v at xs) (scan k v fresh 0 0 at xs (held c lent))
  unfolding items_of
  beside =
      alongside book k (List Item) add_item at_end length Held one (shut k) number (Same lent)
      (same-one lent) (same-shut k lent) (λ is s x. sym x.rows) v fresh 0 0 at xs [] (held c lent) start

  gap-beside : Alike SameGap (gap_walk book k v fresh 0 0 at xs (record { rows = 0; gap = 0 })) (scan k v fresh 0 0 at xs (held c lent))
  gap-beside =
      alongside book k Gap gap_one (gap_shut book k) (gap_number book k) Held one (shut k) number SameGap
      gap-one (gap-shut k) (λ g s x. x.rows) v fresh 0 0 at xs (record { rows = 0; gap = 0 }) (held c lent) (rw none (record { rows = refl; gap = refl }))

  -- the walk is cut where that of the elements is, and holds what was taken before
  cut-alike : (o : Out (List Item)) (w : Out Held) → Alike (Same lent) o w → (q : ℕ) (s : Held) → w ≡ cut q s → (is : List Item) × (o ≡ cut q is) × Same lent is s
  cut-alike _ _ (cuts {q = q} {s = is} {s' = s} x) q' s' e = let a : q ≡ q' = cc in let d : s ≡ s' = cc in (is, rw a, rw d at x)
  cut-alike _ _ (wholes {s = is} {s' = s} x) q' s' e = let z : ◌≡◌ {A = ℕ} 0 1 = cc in absurd (omega arith)

  whole-alike : (o : Out (List Item)) (w : Out Held) → Alike (Same lent) o w → (s : Held) → w ≡ whole s → (is : List Item) × (o ≡ whole is) × Same lent is s
  whole-alike _ _ (cuts {q = q} {s = is} {s' = s} x) s' e = let z : ◌≡◌ {A = ℕ} 0 1 = cc in absurd (omega arith)
  whole-alike _ _ (wholes {s = is} {s' = s} x) s' e = let d : s ≡ s' = cc in (is, refl, rw d at x)

  gap-alike : (o : Out Gap) (w : Out Held) → Alike SameGap o w → (g : Gap) (s : Held) → o ≡ whole g → w ≡ whole s → g.gap ≡ s.counts.gap
  gap-alike _ _ (cuts {q = q} {s = h} {s' = s} x) g s' e f = let z : ◌≡◌ {A = ℕ} 0 1 = cc in absurd (omega arith)
  gap-alike _ _ (wholes {s = h} {s' = s} x) g s' e f = let a : h ≡ g = cc in let d : s ≡ s' = cc in rw (← a, ← d) x.gap

  pub scan-cut : (q : ℕ) (s : Held) → scan k v fresh 0 0 at xs (held c lent) ≡ cut q s → (is : List Item) × (items_of book k v at xs ≡ cut q is) × Same lent is s
  scan-cut q s e = cut-alike (items_of book k v at xs) (scan k v fresh 0 0 at xs (held c lent)) beside q s e

  pub scan-whole : (s : Held) → scan k v fresh 0 0 at xs (held c lent) ≡ whole s → 0 < at
      → (is : List Item) × (items_of book k v at xs ≡ whole is) × Same lent is s × (s.counts.gap ≡ packed (lack_verdict book k v is))
  scan-whole s e pos =
      let w = whole-alike (items_of book k v at xs) (scan k v fresh 0 0 at xs (held c lent)) beside s e in
      let g = gap_is book book-sound k v at xs w.0 w.1 pos in
      (w.0, w.1, w.2, sym (gap-alike (gap_walk book k v fresh 0 0 at xs (record { rows = 0; gap = 0 })) (scan k v fresh 0 0 at xs (held c lent)) gap-beside _ s g e))
