-- A row that is put where there was none and made zero again leaves what there was; so the rows of a group's inside leave the table as it was without them. Assumes nothing.
--     Clean         no row stands past the n first
--     void-one      a row more goes back with the others          void-own     a group's own row, as it stands where the group is void
use mathlib.Core.Path.{◌≡◌, refl, sym, ap, ◌∙◌}
use mathlib.Core.Logic.{◌⊎◌, inl, inr}
use mathlib.Core.Bool.{Bool, true, false, cond}
use mathlib.Core.List.{List, [], ◌∷◌}
use Prim.Native.Nat.{ℕ, zero, suc, ◌+◌, ◌-◌, ◌*◌, ◌/◌, ◌≤◌, ◌<◌}
use native.Mathlib.Omega.{arith}
use native.Mathlib.Nat.{pos_of_ne-zero}
use native.Mathlib.Decide.{ℕ_discrete}
use borrow.Author.Tests.{ltb-true, ltb-false, leb-true, leb-false, eqb-false, ne_eqb}
use lib.Dec.{eqb, ltb, leb}
use lib.ListN.{length, get_or, set, length-set}
use lib.Seq.{get_or-set_other, set_out, ext_get_or}
use Rattle.rules.specs.Sizes.{row_numbers}
use Rattle.rules.specs.Standing.{Item, void, value_place}
use Rattle.taking.specs.Held.{put_numbers, put_row}
use Rattle.pieces.specs.Drafts.{blanks, stand_void, voided, back_to}
use Rattle.pieces.proofs.Alone.{put-length}

-- no row stands past the n first
pub record Clean (n : ℕ) (rows : List ℕ) : Type 0 where
  pub none : (j : ℕ) → row_numbers * n ≤ j → get_or rows j 0 ≡ 0

-- and none in what is left of a table behind its last whole row
pub record Tidy (n : ℕ) (rows : List ℕ) : Type 0 where
  pub none : (j : ℕ) → row_numbers * n ≤ j → get_or rows j 0 ≡ 0
  pub tail : (j : ℕ) → row_numbers * (length rows / row_numbers) ≤ j → get_or rows j 0 ≡ 0

-- ---- stores

set-zero : (l : List ℕ) (i j : ℕ) → get_or l j 0 ≡ 0 → get_or (set l i 0) j 0 ≡ 0
set-zero [] i j e = refl
set-zero (x ∷ xs) zero zero e = refl
set-zero (x ∷ xs) zero (suc j) e = e
set-zero (x ∷ xs) (suc i) zero e = e
set-zero (x ∷ xs) (suc i) (suc j) e = set-zero xs i j e

own-zero : (l : List ℕ) (i : ℕ) → get_or (set l i 0) i 0 ≡ 0
own-zero [] i = refl
own-zero (x ∷ xs) zero = refl
own-zero (x ∷ xs) (suc i) = own-zero xs i

set-set : (l : List ℕ) (i a c : ℕ) → set (set l i a) i c ≡ set l i c
set-set [] i a c = refl
set-set (x ∷ xs) zero a c = refl
set-set (x ∷ xs) (suc i) a c = ap (λ (r : List ℕ). x ∷ r) (set-set xs i a c)

module _ (n : ℕ) where
  abbrev from : ℕ
  from = row_numbers * n

  stores : List ℕ → ℕ → ℕ → ℕ → ℕ → ℕ → ℕ → List ℕ
  stores l a b c d e f = set (set (set (set (set (set l from a) (from + 1) b) (from + 2) c) (from + 3) d) (from + 4) e) (from + 5) f

  stores-length : (l : List ℕ) (a b c d e f : ℕ) → length (stores l a b c d e f) ≡ length l
  unfolding stores
  stores-length l a b c d e f = simp length-set

  -- what lies before and behind the row
  outside : (l : List ℕ) (a b c d e f j : ℕ) → (from ≤ j → from + row_numbers ≤ j) → get_or (stores l a b c d e f) j 0 ≡ get_or l j 0
  unfolding stores
  outside l a b c d e f j u =
      let apart : (i : ℕ) → i < row_numbers → j ≡ from + i → ⊥ = λ i h z. omega (arith, u (omega arith)) in
      let l₁ = set l from a in
      let l₂ = set l₁ (from + 1) b in
      let l₃ = set l₂ (from + 2) c in
      let l₄ = set l₃ (from + 3) d in
      let l₅ = set l₄ (from + 4) e in
      get_or-set_other l₅ (from + 5) j f 0 (apart 5 (omega arith))
      ∙ get_or-set_other l₄ (from + 4) j e 0 (apart 4 (omega arith))
      ∙ get_or-set_other l₃ (from + 3) j d 0 (apart 3 (omega arith))
      ∙ get_or-set_other l₂ (from + 2) j c 0 (apart 2 (omega arith))
      ∙ get_or-set_other l₁ (from + 1) j b 0 (apart 1 (omega arith))
      ∙ get_or-set_other l from j a 0 (λ z. apart 0 (omega arith) (omega arith))

  own_at : (l : List ℕ) (i j : ℕ) → j ≡ i → get_or (set l i 0) j 0 ≡ 0
  own_at l i j e = rw e (own-zero l i)

  -- the row itself
  -- once zero at j, still zero there after the stores from number r on
  abbrev zero-by : List ℕ → ℕ → List ℕ
  zero-by l zero = l
  zero-by l (suc r) = set (zero-by l r) (from + r) 0

  by_row : (l : List ℕ) (j r : ℕ) → (get_or l j 0 ≡ 0) ⊎ ((from ≤ j) × (j < from + r)) → get_or (zero-by l r) j 0 ≡ 0
  by_row l j zero (inl e) = e
  by_row l j zero (inr e) = absurd (omega (arith, e.0, e.1))
  by_row l j (suc r) (inl e) = set-zero (zero-by l r) (from + r) j (by_row l j r (inl e))
  by_row l j (suc r) (inr e) = go (ℕ_discrete j (from + r)) (λ h. by_row l j r (inr (e.0, h)))
    where
      go : Dec (j ≡ from + r) → (j < from + r → get_or (zero-by l r) j 0 ≡ 0) → get_or (set (zero-by l r) (from + r) 0) j 0 ≡ 0
      go (yes z) f = own_at (zero-by l r) (from + r) j z
      go (no z) f = set-zero (zero-by l r) (from + r) j (f (omega (arith, z, e.1)))

  in_row : (l : List ℕ) (j : ℕ) → from ≤ j → j < from + row_numbers → get_or (stores l 0 0 0 0 0 0) j 0 ≡ 0
  unfolding stores
  in_row l j h e = let z : from + 0 ≡ from = omega arith in (rw z at (by_row l j 6 (inr (h, e))))

  -- a row that is put and made zero again
  stored_back : (rows : List ℕ) (a b c d e f : ℕ) → Clean n rows → stores (stores rows a b c d e f) 0 0 0 0 0 0 ≡ rows
  stored_back rows a b c d e f k =
      ext_get_or 0 (stores (stores rows a b c d e f) 0 0 0 0 0 0) rows (stores-length (stores rows a b c d e f) 0 0 0 0 0 0 ∙ stores-length rows a b c d e f)
      (λ j l. by j (ltb j from) (ltb j (from + row_numbers)) refl refl)
    where
      by : (j : ℕ) (u w : Bool) → ltb j from ≡ u → ltb j (from + row_numbers) ≡ w → get_or (stores (stores rows a b c d e f) 0 0 0 0 0 0) j 0 ≡ get_or rows j 0
      by j true w x y =
          let l : j < from = ltb-true _ _ x in
          outside (stores rows a b c d e f) 0 0 0 0 0 0 j (λ z. absurd (omega arith)) ∙ outside rows a b c d e f j (λ z. absurd (omega arith))
      by j false true x y =
          let l : from ≤ j = ltb-false _ _ x in
          let m : j < from + row_numbers = ltb-true _ _ y in
          in_row (stores rows a b c d e f) j l m ∙ sym (k.none j l)
      by j false false x y =
          let l : from + row_numbers ≤ j = ltb-false _ _ y in
          outside (stores rows a b c d e f) 0 0 0 0 0 0 j (λ z. l) ∙ outside rows a b c d e f j (λ z. l)

  put_back : (rows : List ℕ) (a b c d e f : ℕ) → Clean n rows → put_numbers (put_numbers rows n a b c d e f) n 0 0 0 0 0 0 ≡ rows
  unfolding put_numbers stores
  put_back rows a b c d e f k = go (leb (from + row_numbers) (length rows)) refl
    where
      go : (x : Bool) → leb (from + row_numbers) (length rows) ≡ x
          → cond (leb (from + row_numbers) (length (cond x (stores rows a b c d e f) rows))) (stores (cond x (stores rows a b c d e f) rows) 0 0 0 0 0 0) (cond x (stores rows a b c d e f) rows) ≡ rows
      go true y = rw (stores-length rows a b c d e f, y) (stored_back rows a b c d e f k)
      go false y = rw y

  -- the same of a row, if there is room for it
  put_other : (rows : List ℕ) (a b c d e f j : ℕ) → (from ≤ j → from + row_numbers ≤ j) → get_or (put_numbers rows n a b c d e f) j 0 ≡ get_or rows j 0
  unfolding put_numbers stores
  put_other rows a b c d e f j u = go (leb (from + row_numbers) (length rows))
    where
      go : (x : Bool) → get_or (cond x (stores rows a b c d e f) rows) j 0 ≡ get_or rows j 0
      go true = outside rows a b c d e f j u
      go false = refl

  put-past : (rows : List ℕ) (a b c d e f j : ℕ) → row_numbers * (length rows / row_numbers) ≤ j → get_or (put_numbers rows n a b c d e f) j 0 ≡ get_or rows j 0
  unfolding put_numbers stores
  put-past rows a b c d e f j l = go (leb (from + row_numbers) (length rows)) refl
    where
      go : (x : Bool) → leb (from + row_numbers) (length rows) ≡ x → get_or (cond x (stores rows a b c d e f) rows) j 0 ≡ get_or rows j 0
      go true y = let h : from + row_numbers ≤ length rows = leb-true _ _ y in outside rows a b c d e f j (λ z. omega arith)
      go false y = refl

  put-zero : (rows : List ℕ) (j : ℕ) → from ≤ j → j < from + row_numbers → (row_numbers * (length rows / row_numbers) ≤ j → get_or rows j 0 ≡ 0) → get_or (put_numbers rows n 0 0 0 0 0 0) j 0 ≡ 0
  unfolding put_numbers stores
  put-zero rows j l u z = go (leb (from + row_numbers) (length rows)) refl
    where
      go : (x : Bool) → leb (from + row_numbers) (length rows) ≡ x → get_or (cond x (stores rows 0 0 0 0 0 0) rows) j 0 ≡ 0
      go true y = in_row rows j l u
      go false y = let h : length rows < from + row_numbers = leb-false _ _ y in z (omega arith)

  -- ---- rows come

  pub clean-put : (rows : List ℕ) (i : Item) → Clean n rows → Clean (n + 1) (put_row rows n i)
  unfolding put_row put_numbers stores
  clean-put rows i k = record { none = λ j l. go j l (leb (from + row_numbers) (length rows)) }
    where
      go : (j : ℕ) → row_numbers * (n + 1) ≤ j → (x : Bool)
          → get_or (cond x (stores rows i.parent i.typ i.inst (value_place i) i.len i.stand) rows) j 0 ≡ 0
      go j l true = outside rows i.parent i.typ i.inst (value_place i) i.len i.stand j (λ z. omega arith) ∙ k.none j (omega arith)
      go j l false = k.none j (omega arith)

  -- ---- and go

  -- a row more goes back with the others
  pub void-one : (rows : List ℕ) (i : Item) (m : ℕ) → m ≤ n → Clean n rows → voided (put_row rows n i) m (n + 1) ≡ voided rows m n
  unfolding voided put_row blanks
  void-one rows i m l k =
      let e : n + 1 - m ≡ suc (n - m) = omega arith in
      let p : m + (n - m) ≡ n = omega arith in
      ap (λ (c : ℕ). stand_void (blanks (put_row rows n i) m c) m) e
      ∙ ap (λ (q : ℕ). stand_void (blanks (put_numbers (put_row rows n i) q 0 0 0 0 0 0) m (n - m)) m) p
      ∙ ap (λ (l : List ℕ). stand_void (blanks l m (n - m)) m) (put_back rows i.parent i.typ i.inst (value_place i) i.len i.stand k)

  -- a group's own row, as it stands where the group is void
  stand-own : (rows : List ℕ) (a b c d e : ℕ) → stand_void (put_numbers rows n a b c d e 0) (n + 1) ≡ put_numbers rows n a b c d e void
  unfolding stand_void put_numbers
  stand-own rows a b c d e =
      let at : row_numbers * (n + 1) - 1 ≡ from + 5 = omega arith in
      rw (ne_eqb (n + 1) 0 (λ z. omega arith), at) (go (leb (from + row_numbers) (length rows)) refl)
    where
      five : List ℕ
      five = set (set (set (set (set rows from a) (from + 1) b) (from + 2) c) (from + 3) d) (from + 4) e

      go : (x : Bool) → leb (from + row_numbers) (length rows) ≡ x → set (cond x (set five (from + 5) 0) rows) (from + 5) void ≡ cond x (set five (from + 5) void) rows
      go true y = set-set five (from + 5) 0 void
      go false y = set_out rows (from + 5) void (omega (arith, leb-false (from + row_numbers) (length rows) y))

  pub void-own : (rows : List ℕ) (i : Item) (j : Item) → i.stand ≡ 0 → j.stand ≡ void → i.parent ≡ j.parent → i.typ ≡ j.typ → i.inst ≡ j.inst → value_place i ≡ value_place j → i.len ≡ j.len
      → voided (put_row rows n i) (n + 1) (n + 1) ≡ put_row rows n j
  unfolding voided put_row blanks
  void-own rows i j s s' p t q v l =
      let z : n + 1 - (n + 1) ≡ 0 = omega arith in
      rw (z, s, s', p, t, q, v, l) (stand-own rows j.parent j.typ j.inst (value_place j) j.len)

  -- no row comes by it
  pub clean-void : (rows : List ℕ) → Clean n rows → Clean n (voided rows n n)
  unfolding voided blanks stand_void
  clean-void rows k = let z : n - n ≡ 0 = omega arith in rw z (record { none = λ j l. go j l (eqb n 0) refl })
    where
      go : (j : ℕ) → from ≤ j → (c : Bool) → eqb n 0 ≡ c → get_or (cond c rows (set rows (from - 1) void)) j 0 ≡ 0
      go j l true e = k.none j l
      go j l false e = get_or-set_other rows (from - 1) j void 0 (λ z. absurd (eqb-false n 0 e (omega arith))) ∙ k.none j l

  -- ---- the same of a table of any length, whose last numbers may be too few for a row

  pub tidy_put : (rows : List ℕ) (a b c d e f : ℕ) → Tidy n rows → Tidy (n + 1) (put_numbers rows n a b c d e f)
  tidy_put rows a b c d e f k = record {
    none = λ j l. put_other rows a b c d e f j (λ z. omega arith) ∙ k.none j (omega arith);
    tail = λ j l. let l' = rw (put-length rows n a b c d e f) at l in put-past rows a b c d e f j l' ∙ k.tail j l';
  }

  pub tidy_zero : (rows : List ℕ) → Tidy (n + 1) rows → Tidy n (put_numbers rows n 0 0 0 0 0 0)
  tidy_zero rows k = record { none = λ j l. by j l (ltb j (from + row_numbers)) refl; tail = λ j l. let l' = rw (put-length rows n 0 0 0 0 0 0) at l in put-past rows 0 0 0 0 0 0 j l' ∙ k.tail j l' }
    where
      by : (j : ℕ) → from ≤ j → (x : Bool) → ltb j (from + row_numbers) ≡ x → get_or (put_numbers rows n 0 0 0 0 0 0) j 0 ≡ 0
      by j l true y = put-zero rows j l (ltb-true _ _ y) (λ z. k.tail j z)
      by j l false y = let h : from + row_numbers ≤ j = ltb-false _ _ y in put_other rows 0 0 0 0 0 0 j (λ z. h) ∙ k.none j (omega arith)

pub tidy_blanks : (rows : List ℕ) (m d : ℕ) → Tidy (m + d) rows → Tidy m (blanks rows m d)
unfolding blanks
tidy_blanks rows m zero k = let e : m + 0 ≡ m = omega arith in rw e at k
tidy_blanks rows m (suc d) k =
    let e : m + suc d ≡ m + d + 1 = omega arith in
    tidy_blanks (put_numbers rows (m + d) 0 0 0 0 0 0) m d (tidy_zero (m + d) rows (rw e at k))

tidy_stand : (rows : List ℕ) (m : ℕ) → Tidy m rows → Tidy m (stand_void rows m)
unfolding stand_void
tidy_stand rows m k = go (eqb m 0) refl
  where
    go : (c : Bool) → eqb m 0 ≡ c → Tidy m (cond c rows (set rows (row_numbers * m - 1) void))
    go true e = k
    go false e =
        let p = pos_of_ne-zero (eqb-false m 0 e) in
        record {
          none = λ j l. get_or-set_other rows (row_numbers * m - 1) j void 0 (λ z. absurd (omega arith)) ∙ k.none j l;
          tail = λ j l. past j (rw (length-set rows (row_numbers * m - 1) void) at l) (ltb (row_numbers * m - 1) (length rows)) refl;
        }
      where
        past : (j : ℕ) → row_numbers * (length rows / row_numbers) ≤ j → (x : Bool) → ltb (row_numbers * m - 1) (length rows) ≡ x → get_or (set rows (row_numbers * m - 1) void) j 0 ≡ 0
        past j l true y =
            let p = pos_of_ne-zero (eqb-false m 0 e) in
            let h : row_numbers * m - 1 < length rows = ltb-true _ _ y in
            get_or-set_other rows (row_numbers * m - 1) j void 0 (λ z. absurd (omega arith)) ∙ k.tail j l
        past j l false y = ap (λ (r : List ℕ). get_or r j 0) (set_out rows (row_numbers * m - 1) void (ltb-false _ _ y)) ∙ k.tail j l

-- whatever goes back, no row stands past those that there are then
pub tidy_back : (rows : List ℕ) (m n : ℕ) → Tidy n rows → Tidy m (back_to m n rows)
unfolding back_to voided
tidy_back rows m n k = go (ltb m n) refl
  where
    go : (c : Bool) → ltb m n ≡ c → Tidy m (cond c (stand_void (blanks rows m (n - m)) m) rows)
    go true e =
        let l : m < n = ltb-true _ _ e in
        let s : m + (n - m) ≡ n = omega arith in
        tidy_stand (blanks rows m (n - m)) m (tidy_blanks rows m (n - m) (rw s k))
    go false e = let l : n ≤ m = ltb-false _ _ e in record { none = λ j h. k.none j (omega arith); tail = k.tail }
