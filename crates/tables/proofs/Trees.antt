-- The tree of a table, from what IsRows says: parents point backwards, and a row that begins before an earlier row's end belongs to that row's
-- inside. So rows with rising places are laid out depth first. Assumes nothing.
--     backward   a row's parent stands before it                laminar    a row whose parent is not after x begins where x has ended
--     inner      a later row begins behind a row's header        past       and behind its value, if the row is not entered
--     in_message a row ends by the message's end                 between    what stands between a row and its parent's row is the parent's inside
use mathlib.Core.Path.{◌≡◌, refl, sym, ap, ◌∙◌}
use mathlib.Core.List.{List}
use Prim.Native.Nat.{ℕ, zero, suc, ◌+◌, ◌≤◌, ◌<◌}
use native.Mathlib.Omega.{arith}
use native.Mathlib.Decide.{dec_lt, ℕ_discrete}
use lib.ListN.{length}
use Rattle.rules.specs.Framing.{element_header}
use Rattle.rules.specs.Listings.{Book}
use Rattle.rules.specs.Values.{row_parent, row_place}
use Rattle.tables.specs.Words.{rows, row_start, row_end, KeptGroup, IsLevel}
use Rattle.tables.specs.IsTable.{IsRows}

module _ (b : Book) (k : ℕ) (m t : List ℕ) (x : IsRows b k m t) where
  pub start_is : (r : ℕ) → r < rows t → row_start t r + element_header ≡ row_place t r
  start_is r l = omega (arith, (x.faithful r l).place)

  -- a row in a group
  pub record InRow (q r : ℕ) : Type 0 where
    pub there : q < rows t
    pub begins : row_place t q ≤ row_start t r
    pub ends : row_end t r ≤ row_end t q

  pub in_row : (r q : ℕ) → r < rows t → row_parent t r ≡ suc q → InRow q r
  in_row r q l e =
      let g : KeptGroup t q = rw e at (x.parents r l) in
      let i = x.inside r l in
      record { there = g.there; begins = rw e at i.begins; ends = rw e at i.ends }

  pub backward : (r : ℕ) → r < rows t → row_parent t r ≤ r
  backward r l = go (row_parent t r) refl
    where
      go : (p : ℕ) → row_parent t r ≡ p → p ≤ r
      go zero e = omega arith
      go (suc q) e = by (dec_lt q r) (ℕ_discrete q r)
        where
          i : InRow q r
          i = in_row r q l e

          by : Dec (q < r) → Dec (q ≡ r) → q < r
          by (yes h) d = h
          by (no h) (yes d) = let z : row_place t q ≡ row_place t r = ap (row_place t) d in absurd (omega (arith, i.begins, start_is r l, z))
          by (no h) (no d) = absurd (omega (arith, x.order r q (omega arith) i.there, i.begins, start_is r l))

  -- ---- two rows

  abbrev Lam : ℕ → Type 0
  Lam f = (a c : ℕ) → a < f → a < c → c < rows t → row_parent t c ≤ a → row_end t a ≤ row_start t c

  lam-step : (f : ℕ) → Lam f → (a c : ℕ) → a < suc f → a < c → c < rows t → (p q : ℕ) → row_parent t a ≡ p → row_parent t c ≡ q → q ≤ a
      → Dec (p ≡ q) → Dec (q < p) → row_end t a ≤ row_start t c
  lam-step f rec a c h l d p q ep eq s (yes e) n = x.apart a c l d (ep ∙ e ∙ sym eq)
  lam-step f rec a c h l d zero q ep eq s (no e) (yes n) = absurd (omega arith)
  lam-step f rec a c h l d (suc p) q ep eq s (no e) (yes n) =
      let back : suc p ≤ a = rw ep at (backward a (omega arith)) in
      let i = in_row a p (omega arith) ep in
      omega (arith, rec p c (omega arith) (omega arith) d (omega (arith, eq)), i.ends)
  lam-step f rec a c h l d p zero ep eq s (no e) (no n) = absurd (e (omega arith))
  lam-step f rec a c h l d p (suc q) ep eq s (no e) (no n) =
      let le : p ≤ q = omega arith in
      let i = in_row c q d eq in
      absurd (omega (arith, rec q a (omega arith) (omega arith) (omega arith) (omega (arith, ep, le)), i.ends, x.order a c l d, start_is a (omega arith)))

  lam : (f : ℕ) → Lam f
  lam zero a c h l d s = absurd (omega arith)
  lam (suc f) a c h l d s =
      lam-step f (λ a' c' h' l' d' s'. lam f a' c' h' l' d' s') a c h l d (row_parent t a) (row_parent t c) refl refl s (ℕ_discrete (row_parent t a) (row_parent t c))
      (dec_lt (row_parent t c) (row_parent t a))

  pub laminar : (a c : ℕ) → a < c → c < rows t → row_parent t c ≤ a → row_end t a ≤ row_start t c
  laminar a c = lam (suc a) a c (omega arith)

  -- ---- what begins behind a row

  abbrev In : ℕ → Type 0
  In f = (a c : ℕ) → c < f → a < c → c < rows t → row_place t a ≤ row_start t c

  in_step : (f : ℕ) → In f → (a c : ℕ) → c < suc f → a < c → c < rows t → (q : ℕ) → row_parent t c ≡ q → Dec (a < q) → row_place t a ≤ row_start t c
  in_step f rec a c h l d q e (no n) = omega (arith, laminar a c l d (omega (arith, e)))
  in_step f rec a c h l d zero e (yes n) = absurd (omega arith)
  in_step f rec a c h l d (suc q) e (yes n) = by (ℕ_discrete q a)
    where
      i : InRow q c
      i = in_row c q d e

      by : Dec (q ≡ a) → row_place t a ≤ row_start t c
      by (yes z) = let y : row_place t q ≡ row_place t a = ap (row_place t) z in omega (arith, i.begins, y)
      by (no z) = let back : suc q ≤ c = rw e at (backward c d) in omega (arith, rec a q (omega arith) (omega arith) (omega arith), i.begins, start_is q (omega arith))

  inn : (f : ℕ) → In f
  inn zero a c h l d = absurd (omega arith)
  inn (suc f) a c h l d = in_step f (λ a' c' h' l' d'. inn f a' c' h' l' d') a c h l d (row_parent t c) refl (dec_lt a (row_parent t c))

  pub inner : (a c : ℕ) → a < c → c < rows t → row_place t a ≤ row_start t c
  inner a c = inn (suc c) a c (omega arith)

  abbrev Past : ℕ → ℕ → Type 0
  Past a f = (c : ℕ) → c < f → a < c → c < rows t → row_end t a ≤ row_start t c

  past-step : (a : ℕ) → (IsLevel t (suc a) → ⊥) → (f : ℕ) → Past a f → (c : ℕ) → c < suc f → a < c → c < rows t → (q : ℕ) → row_parent t c ≡ q → Dec (a < q) → row_end t a ≤ row_start t c
  past-step a none f rec c h l d q e (no n) = laminar a c l d (omega (arith, e))
  past-step a none f rec c h l d zero e (yes n) = absurd (omega arith)
  past-step a none f rec c h l d (suc q) e (yes n) = by (ℕ_discrete q a)
    where
      by : Dec (q ≡ a) → row_end t a ≤ row_start t c
      by (yes z) = absurd (none (rw (e, z) at (x.parents c d)))
      by (no z) =
          let back : suc q ≤ c = rw e at (backward c d) in
          let i = in_row c q d e in
          omega (arith, rec q (omega arith) (omega arith) (omega arith), i.begins, start_is q (omega arith))

  pas : (a : ℕ) → (IsLevel t (suc a) → ⊥) → (f : ℕ) → Past a f
  pas a none zero c h l d = absurd (omega arith)
  pas a none (suc f) c h l d = past-step a none f (λ c' h' l' d'. pas a none f c' h' l' d') c h l d (row_parent t c) refl (dec_lt a (row_parent t c))

  pub past : (a c : ℕ) → a < c → c < rows t → (IsLevel t (suc a) → ⊥) → row_end t a ≤ row_start t c
  past a c l d none = pas a none (suc c) c (omega arith) l d

  -- ---- every row lies in the message

  abbrev Low : ℕ → Type 0
  Low f = (r : ℕ) → r < f → r < rows t → row_end t r ≤ length m

  low_step : (f : ℕ) → Low f → (r : ℕ) → r < suc f → r < rows t → (p : ℕ) → row_parent t r ≡ p → row_end t r ≤ length m
  low_step f rec r h l zero e = rw e at (x.inside r l).ends
  low_step f rec r h l (suc q) e =
      let back : suc q ≤ r = rw e at (backward r l) in
      let i = in_row r q l e in
      omega (arith, rec q (omega arith) (omega arith), i.ends)

  low : (f : ℕ) → Low f
  low zero r h l = absurd (omega arith)
  low (suc f) r h l = low_step f (λ r' h' l'. low f r' h' l') r h l (row_parent t r) refl

  pub in_message : (r : ℕ) → r < rows t → row_end t r ≤ length m
  in_message r l = low (suc r) r (omega arith) l

  -- ---- depth first

  pub between : (q s r : ℕ) → q < s → s ≤ r → r < rows t → row_parent t r ≡ suc q → (suc q ≤ row_parent t s) × (row_place t q ≤ row_start t s) × (row_start t s < row_end t q)
  between q s r a c l e = (own (dec_lt q (row_parent t s)), inner q s a (omega arith), before)
    where
      early : row_place t s ≤ row_place t r
      early = go (ℕ_discrete s r)
        where
          go : Dec (s ≡ r) → row_place t s ≤ row_place t r
          go (yes z) = rw z (omega arith)
          go (no z) = omega (arith, x.order s r (omega arith) l)

      before : row_start t s < row_end t q
      before = omega (arith, early, start_is s (omega arith), start_is r l, (in_row r q l e).ends)

      own : Dec (q < row_parent t s) → suc q ≤ row_parent t s
      own (yes h) = h
      own (no h) = absurd (omega (arith, laminar q s a (omega arith) (omega arith), before))
