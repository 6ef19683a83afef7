-- What a level lacks, as the code searches for it: by the numbers of its lines and by its marks, from one mandatory line to the next. Assumes nothing.
--     at_here   this line lacks          at_next   it does not, and the search goes on          at-end   there is no line left
use mathlib.Core.Path.{◌≡◌, refl, sym, ◌∙◌}
use mathlib.Core.Bool.{Bool, true, false, cond, not, ◌&&◌}
use mathlib.Core.List.{List, [], ◌∷◌}
use Prim.Native.Nat.{ℕ, suc, ◌+◌, ◌/◌, ◌%◌, ◌≤◌, ◌<◌}
use native.Mathlib.Omega.{arith}
use native.Mathlib.Nat.{add-zero, add-suc, suc-add}
use lib.Dec.{eqb}
use lib.ListN.{length, get_or, drop, length-drop, drop_of_length-le}
use lib.Seq.{drop-cons, drop-drop}
use Rattle.rules.specs.Types.{among}
use Rattle.rules.specs.Listings.{Line, book, empty_line, listing}
use Rattle.rules.specs.Verdicts.{is_mandatory}
use Rattle.listings.specs.Data.{skipped, must_in, on_of_entry, skip_in}
use Rattle.listings.proofs.Levels.{skipped-most}
use Rattle.taking.specs.Lent.{Lines}
use Rattle.taking.proofs.Lent.{count, line, line-fine, key-at, must-at, on-at, skip_at}
use Rattle.taking.specs.Lacks.{fault, lack_by, lack_of}

-- lines that are not mandatory lack nothing
lack_skip : (k : ℕ) (m : List ℕ) (o n : ℕ) (ls : List Line) → lack_by k m o n ls ≡ lack_by k m o (n + skipped ls) (drop (skipped ls) ls)
unfolding lack_by skipped
lack_skip k m o n [] = refl
lack_skip k m o n (l ∷ ls) = go l.must refl (lack_skip k m o (suc n) ls)
  where
    go : (c : Bool) → l.must ≡ c → lack_by k m o (suc n) ls ≡ lack_by k m o (suc n + skipped ls) (drop (skipped ls) ls)
        → cond (c && among k l.kinds && not (eqb (get_or m n 0) 2)) (fault o l.typ l.inst) (lack_by k m o (suc n) ls)
        ≡ lack_by k m o (n + cond c 0 (suc (skipped ls))) (drop (cond c 0 (suc (skipped ls))) (l ∷ ls))
    go true e r = rw (add-zero, e)
    go false e r = rw (add-suc, ← suc-add) r

-- what holds at each turn of the search: n lines are passed
pub record Searching (k v : ℕ) (m : List ℕ) (o : ℕ) (xs : List ℕ) (n : ℕ) : Type 0 where
  pub lent : Lines k v xs
  pub passed : n ≤ length (listing book v)
  pub goes : lack_by k m o n (drop n (listing book v)) ≡ lack_of book k v m o

pub begun : {k v : ℕ} {m : List ℕ} {o : ℕ} {xs : List ℕ} → Lines k v xs → Searching k v m o xs 0
unfolding lack_of
begun l = record { lent = l; passed = omega arith; goes = refl }

module _ {k v : ℕ} {m : List ℕ} {o : ℕ} {xs : List ℕ} {n : ℕ} (s : Searching k v m o xs n) where
  pub at-end : length xs ≤ n → 0 ≡ lack_of book k v m o
  unfolding lack_by
  at-end h = rw (drop_of_length-le (listing book v) {i = n} (omega (arith, count s.lent))) at s.goes

  module _ (h : n < length xs) where
    abbrev l : Line
    l = get_or (listing book v) n empty_line

    abbrev x : ℕ
    x = get_or xs n 0

    abbrev rest : List Line
    rest = drop (suc n) (listing book v)

    turn : lack_by k m o n (drop n (listing book v)) ≡ cond (is_mandatory k l && not (eqb (get_or m n 0) 2)) (fault o l.typ l.inst) (lack_by k m o (suc n) rest)
    unfolding lack_by
    turn = rw (drop-cons (listing book v) n empty_line (line s.lent h))

    -- the test of the code is that of the definition
    test-is : {r : Bool} → r ≡ must_in x && on_of_entry k x && not (eqb (get_or m n 0) 2) → r ≡ is_mandatory k l && not (eqb (get_or m n 0) 2)
    test-is e = e ∙ rw (must-at s.lent h, on-at s.lent h)

    pair_is : (x / 32 % 256 ≡ l.typ) × (x % 32 ≡ l.inst)
    pair_is =
        let key = key-at s.lent h in
        let f = line-fine s.lent h in (omega (arith, key, f.typ, f.inst), omega (arith, key, f.inst))

    pub at_here : {r : Bool} → r ≡ must_in x && on_of_entry k x && not (eqb (get_or m n 0) 2) → r ≡ true → (f : ℕ) → f ≡ fault o (x / 32 % 256) (x % 32) → f ≡ lack_of book k v m o
    at_here e y f w = w ∙ rw (pair_is.0, pair_is.1) (sym (turn ∙ rw (sym (test-is e) ∙ y))) ∙ s.goes

    pub at_next : {r : Bool} → r ≡ must_in x && on_of_entry k x && not (eqb (get_or m n 0) 2) → r ≡ false → (j : ℕ) → j ≡ skip_in x → Searching k v m o xs (n + (1 + j))
    at_next e y j w =
        let skip = w ∙ skip_at s.lent h in
        let place : suc n + skipped rest ≡ n + (1 + j) = omega (arith, skip) in
        let on : lack_by k m o n (drop n (listing book v)) ≡ lack_by k m o (n + (1 + j)) (drop (n + (1 + j)) (listing book v)) =
        turn ∙ rw (sym (test-is e) ∙ y) (lack_skip k m o (suc n) rest ∙ rw (drop-drop (skipped rest) (suc n) (listing book v), place)) in
        record { lent = s.lent; passed = omega (arith, line s.lent h, skip, skipped-most rest, length-drop (suc n) (listing book v)); goes = sym on ∙ s.goes }
