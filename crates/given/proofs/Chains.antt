-- The open groups are the chain of parents of the innermost one: who climbs it finds a parent exactly where it is open, and each row leaves such a chain. Assumes nothing.
--     Reaches, climb-begins, climb-goes, climb-ends    the climb
--     Checking, check-begins, check-goes, check-ends   row after row
use mathlib.Core.Path.{◌≡◌, refl, sym, ◌∙◌}
use mathlib.Core.Bool.{Bool, true, false, cond, ◌&&◌}
use mathlib.Core.List.{List, [], ◌∷◌}
use Prim.Native.Nat.{ℕ, suc, ◌+◌, ◌-◌, ◌≤◌, ◌<◌}
use native.Mathlib.Omega.{arith}
use native.Mathlib.Decide.{ℕ_discrete}
use borrow.Author.Tests.{eq-eqb, ne_eqb}
use lib.Dec.{eqb}
use Rattle.rules.specs.Types.{among, is_group}
use Rattle.rules.specs.Values.{row_parent, row_type}
use Rattle.rules.specs.Emitting.{Piece}
use Rattle.rules.specs.Built.{since, next_open, depth_first, given, givens}
use Rattle.rules.proofs.Reasons.{RowRight}
use Rattle.emitted.proofs.Parsing.{since-own, since-other, deep_more, deep_nil}
use Rattle.given.specs.Given.{Chain, root, link, Climbed, Climbs, RowsRight}

-- ---- the climb

-- a path that shows the parent as the path p does
pub record Reaches (t : List ℕ) (a parent : ℕ) (p : List ℕ) : Type 0 where
  pub path : List ℕ
  pub chain : Chain t a path
  pub there : among parent p ≡ among parent path
  pub open_since : since parent p ≡ since parent path

pub record Climbing (t : List ℕ) (inner parent a : ℕ) : Type 0 where
  pub low : a ≤ inner
  pub reaches : (p : List ℕ) → Chain t inner p → Reaches t a parent p

pub climb-begins : (t : List ℕ) (inner parent : ℕ) → Climbing t inner parent inner
climb-begins t inner parent = record { low = omega arith; reaches = λ p c. record { path = p; chain = c; there = refl; open_since = refl } }

-- a link passed
up : (t : List ℕ) (a parent : ℕ) (p path : List ℕ) → parent < a → Chain t a path → among parent p ≡ among parent path → since parent p ≡ since parent path
    → (row_parent t (a - 1) < a) × Reaches t (row_parent t (a - 1)) parent p
up t a parent p path l (root e) x y = absurd (omega arith)
up t a parent p path l (link {path = rest} r e h c) x y =
    let d : a - 1 ≡ r = omega arith in
    let f : eqb parent a ≡ false = ne_eqb parent a (λ z. omega arith) in
    (rw d (omega arith), record { path = rest; chain = rw d c; there = x ∙ rw f; open_since = y ∙ since-other parent a rest f })

module _ {t : List ℕ} {inner parent a : ℕ} (s : Climbing t inner parent a) where
  falls : Climbs t inner → parent < a → row_parent t (a - 1) < a
  falls p l = let r = s.reaches p.path p.chain in (up t a parent p.path r.path l r.chain r.there r.open_since).0

  pub climb-less : Climbs t inner → parent < a → (x : ℕ) → x ≡ row_parent t (a - 1) → x < a
  climb-less p l x e = omega (arith, e, falls p l)

  pub climb-goes : Climbs t inner → parent < a → (x : ℕ) → x ≡ row_parent t (a - 1) → Climbing t inner parent x
  climb-goes q l x e = record {
    low = omega (arith, climb-less q l x e, s.low);
    reaches = λ p c.
        let r = s.reaches p c in
        rw e (up t a parent p r.path l r.chain r.there r.open_since).1;
  }

-- what stands on a chain is no later than its first
none_above : (t : List ℕ) (a : ℕ) (path : List ℕ) → Chain t a path → (p : ℕ) → a < p → among p path ≡ false
none_above t a path (root e) p l = rw (ne_eqb p a (λ z. omega arith))
none_above t a path (link {path = rest} r e h c) p l = rw (ne_eqb p a (λ z. omega arith)) (none_above t (row_parent t r) rest c p (omega arith))

own : (t : List ℕ) (a : ℕ) (path : List ℕ) → Chain t a path → (among a path ≡ true) × (since a path ≡ path)
own t a path (root e) = (rw (eq-eqb a a refl), since-own a [])
own t a path (link {path = rest} r e h c) = (rw (eq-eqb a a refl), since-own a rest)

pub climb-ends : {t : List ℕ} {inner parent a : ℕ} → Climbing t inner parent a → a ≤ parent → Climbed t inner parent a
climb-ends {t} {inner} {parent} {a} s l = record {
  low = s.low;
  found = λ e p c.
      let r = s.reaches p c in
      let d : Chain t parent r.path = rw e at r.chain in
      let o = own t parent r.path d in
      (r.there ∙ o.0, rw (r.open_since, o.1) d);
  lost = λ e p c. let r = s.reaches p c in r.there ∙ none_above t a r.path r.chain parent (omega (arith, e));
}

-- ---- row after row

-- the innermost open group after row n, which has this parent
abbrev pub opened : List ℕ → ℕ → ℕ → ℕ
opened t n parent = cond (is_group (row_type t n)) (n + 1) parent

pub record Checking (t values : List ℕ) (count inner n : ℕ) : Type 0 where
  pub most : n ≤ count
  pub low : inner ≤ n
  pub each : (r : ℕ) → r < n → RowRight t values r
  pub path : List ℕ
  pub chain : Chain t inner path
  pub deep : depth_first (0 ∷ []) 0 (givens t values 0 count) ≡ depth_first path n (givens t values n (count - n))

pub check-begins : (t values : List ℕ) (count : ℕ) → Checking t values count 0 0
check-begins t values count = let e : count - 0 ≡ count = omega arith in record {
  most = omega arith;
  low = omega arith;
  each = λ r l. absurd (omega arith);
  path = 0 ∷ [];
  chain = root refl;
  deep = rw e;
}

givens-next : (t values : List ℕ) (n count : ℕ) → n < count → givens t values n (count - n) ≡ given t values n ∷ givens t values (n + 1) (count - (n + 1))
unfolding givens
givens-next t values n count l =
    let e : count - n ≡ suc (count - (n + 1)) = omega arith in
    let f : suc n ≡ n + 1 = omega arith in
    rw (e, f)

module _ {t values : List ℕ} {count inner n : ℕ} (s : Checking t values count inner n) (l : n < count) where
  abbrev later : List Piece
  later = givens t values (n + 1) (count - (n + 1))

  step : depth_first s.path n (givens t values n (count - n)) ≡ among (row_parent t n) s.path && depth_first (next_open s.path n (given t values n)) (n + 1) later
  unfolding given
  step = rw (givens-next t values n count l) (deep_more s.path n (given t values n) later)

  next-path : List ℕ
  next-path = cond (is_group (row_type t n)) ((n + 1) ∷ since (row_parent t n) s.path) (since (row_parent t n) s.path)

  open_next : row_parent t n ≤ n → Chain t (row_parent t n) (since (row_parent t n) s.path) → (g : Bool)
      → Chain t (cond g (n + 1) (row_parent t n)) (cond g ((n + 1) ∷ since (row_parent t n) s.path) (since (row_parent t n) s.path))
  open_next h c true = link n refl h c
  open_next h c false = c

  check-own : RowRight t values n → (r : ℕ) → Climbed t inner (row_parent t n) r → r ≡ row_parent t n → Checking t values count (opened t n (row_parent t n)) (n + 1)
  unfolding given next-path
  check-own w r c e =
      let f = c.found e s.path s.chain in
      let h : row_parent t n ≤ n = omega (arith, e, c.low, s.low) in
      record {
        most = omega arith;
        low = low-next h (is_group (row_type t n));
        each = λ j k. pick j k (ℕ_discrete j n);
        path = next-path;
        chain = open_next h f.1 (is_group (row_type t n));
        deep = s.deep ∙ step ∙ rw f.0;
      }
    where
      low-next : row_parent t n ≤ n → (g : Bool) → cond g (n + 1) (row_parent t n) ≤ n + 1
      low-next h true = omega arith
      low-next h false = omega arith

      pick : (j : ℕ) → j < n + 1 → Dec (j ≡ n) → RowRight t values j
      pick j k (yes z) = rw z w
      pick j k (no z) = s.each j (omega arith)

  -- a row that is not right, or whose parent is not open
  pub row-wrong : (RowRight t values n → ⊥) → RowsRight t values count → ⊥
  row-wrong f w = f (w.each n l)

  pub check-goes : RowRight t values n → (p r : ℕ) → p ≡ row_parent t n → Climbed t inner p r → r ≡ p → (x : ℕ) → x ≡ opened t n p → Checking t values count x (n + 1)
  check-goes w p r q c e x o = rw (o, q) (check-own w r (rw q at c) (e ∙ q))

  own-wrong : (r : ℕ) → Climbed t inner (row_parent t n) r → (r ≡ row_parent t n → ⊥) → RowsRight t values count → ⊥
  own-wrong r c e w =
      let a : among (row_parent t n) s.path ≡ false = c.lost e s.path s.chain in
      let z : ◌≡◌ {A = Bool} true false = sym w.deep ∙ s.deep ∙ step ∙ rw a in
      let y : ◌≡◌ {A = ℕ} 0 1 = cc in
      omega arith

  pub parent-wrong : (p r : ℕ) → p ≡ row_parent t n → Climbed t inner p r → (r ≡ p → ⊥) → RowsRight t values count → ⊥
  parent-wrong p r q c e = own-wrong r (rw q at c) (λ z. e (z ∙ sym q))

pub check-ends : {t values : List ℕ} {count inner n : ℕ} → Checking t values count inner n → count ≤ n → RowsRight t values count
unfolding givens
check-ends {t} {values} {count} {inner} {n} s l =
    let e : n ≡ count = omega (arith, s.most) in
    let z : count - n ≡ 0 = omega arith in
    record { each = λ r k. s.each r (omega arith); deep = s.deep ∙ rw z (deep_nil s.path n) }
