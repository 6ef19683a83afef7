-- Rows that pass the builder's test of parents are a forest, and rows of a forest pass it. Assumes nothing.
--     parsed       from the test to the forest                 depth-first   and back
use mathlib.Core.Path.{◌≡◌, refl, sym, ap, ◌∙◌}
use mathlib.Core.Bool.{Bool, true, false, cond, ◌&&◌}
use mathlib.Core.List.{List, [], ◌∷◌, ◌++◌, append_assoc, append-nil}
use Prim.Native.Nat.{ℕ, zero, suc, ◌+◌, ◌≤◌, ◌<◌}
use native.Mathlib.Omega.{arith}
use native.Mathlib.Nat.{add-zero}
use borrow.Author.Tests.{eqb-true, eq-eqb, ne_eqb}
use lib.Dec.{eqb}
use lib.ListN.{length, length-append}
use Rattle.rules.specs.Types.{among, is_group}
use Rattle.rules.proofs.Lines.{and_right}
use Rattle.rules.specs.Emitting.{Piece, stays}
use Rattle.rules.specs.Built.{since, next_open, depth_first}
use Rattle.emitted.proofs.Forests.{Forest, none, aside, leaf, node}

-- a row that stays, and has no value of its own if it is a group
pub record Sits (x : Piece) : Type 0 where
  pub stay : stays x ≡ true
  pub empty : is_group x.typ ≡ true → x.value ≡ []

unfoldable pub AllSit : List Piece → Type 0
AllSit [] = Unit {0}
AllSit (x ∷ ps) = Sits x × AllSit ps

sit_split : (is ps : List Piece) → AllSit (is ++ ps) → AllSit is × AllSit ps
unfolding AllSit
sit_split [] ps a = (tt, a)
sit_split (x ∷ is) ps a = let r = sit_split is ps a.1 in ((a.0, r.0), r.1)

-- ---- one row

pub deep_more : (path : List ℕ) (n : ℕ) (x : Piece) (ps : List Piece) → depth_first path n (x ∷ ps) ≡ among x.parent path && depth_first (next_open path n x) (n + 1) ps
unfolding depth_first
deep_more path n x ps = refl

pub since-own : (q : ℕ) (path : List ℕ) → since q (q ∷ path) ≡ q ∷ path
unfolding since
since-own q path = rw (eq-eqb q q refl)

pub since-other : (p q : ℕ) (path : List ℕ) → eqb p q ≡ false → since p (q ∷ path) ≡ since p path
unfolding since
since-other p q path e = rw e

-- a row of another level than q does not see q
deep-other : (q : ℕ) (path : List ℕ) (n : ℕ) (x : Piece) (ps : List Piece) → eqb x.parent q ≡ false → depth_first (q ∷ path) n (x ∷ ps) ≡ true → depth_first path n (x ∷ ps) ≡ true
deep-other q path n x ps e d =
    deep_more path n x ps
    ∙ (rw (deep_more (q ∷ path) n x ps, e, since-other x.parent q path e) at d)

deep-group : (q : ℕ) (path : List ℕ) (n : ℕ) (x : Piece) (ps : List Piece) → x.parent ≡ q → is_group x.typ ≡ true → depth_first (q ∷ path) n (x ∷ ps) ≡ true
    → depth_first ((n + 1) ∷ q ∷ path) (n + 1) ps ≡ true
deep-group q path n x ps e g d =
    let c : depth_first (next_open (q ∷ path) n x) (n + 1) ps ≡ true = and_right (among x.parent (q ∷ path)) _ (rw (deep_more (q ∷ path) n x ps) at d) in
    rw (g, e, since-own q path) at c

deep_alone : (q : ℕ) (path : List ℕ) (n : ℕ) (x : Piece) (ps : List Piece) → x.parent ≡ q → is_group x.typ ≡ false → depth_first (q ∷ path) n (x ∷ ps) ≡ true
    → depth_first (q ∷ path) (n + 1) ps ≡ true
deep_alone q path n x ps e g d =
    let c : depth_first (next_open (q ∷ path) n x) (n + 1) ps ≡ true = and_right (among x.parent (q ∷ path)) _ (rw (deep_more (q ∷ path) n x ps) at d) in
    rw (g, e, since-own q path) at c

-- ---- one level

pub record Level (q : ℕ) (path : List ℕ) (n : ℕ) (ps : List Piece) : Type 0 where
  pub own : List Piece
  pub later : List Piece
  pub split : ps ≡ own ++ later
  pub forest : Forest q n own
  pub deep : depth_first path (n + length own) later ≡ true

pub deep_nil : (path : List ℕ) (n : ℕ) → depth_first path n [] ≡ true
unfolding depth_first
deep_nil path n = refl

deep-at : (path : List ℕ) (n n' : ℕ) (ps : List Piece) → n ≡ n' → depth_first path n ps ≡ true → depth_first path n' ps ≡ true
deep-at path n n' ps e d = rw e at d

level-none : (q : ℕ) (path : List ℕ) (n : ℕ) (ps : List Piece) → depth_first path n ps ≡ true → Level q path n ps
level-none q path n ps d = record { own = []; later = ps; split = refl; forest = none; deep = deep-at path n (n + 0) ps (sym (add-zero n)) d }

level-leaf : (q : ℕ) (path : List ℕ) (n : ℕ) (x : Piece) (ps : List Piece) → Sits x → x.parent ≡ q → is_group x.typ ≡ false → Level q path (n + 1) ps → Level q path n (x ∷ ps)
level-leaf q path n x ps f e g r = record {
  own = x ∷ r.own;
  later = r.later;
  split = ap (λ (qs : List Piece). x ∷ qs) r.split;
  forest = leaf x f.stay e g r.forest;
  deep = deep-at path (n + 1 + length r.own) (n + suc (length r.own)) r.later (omega arith) r.deep;
}

level-node : (q : ℕ) (path : List ℕ) (n : ℕ) (x : Piece) (ps : List Piece) → Sits x → x.parent ≡ q → is_group x.typ ≡ true
    → (i : Level (n + 1) (q ∷ path) (n + 1) ps) → Level q path (n + 1 + length i.own) i.later → Level q path n (x ∷ ps)
level-node q path n x ps f e g i r = record {
  own = x ∷ (i.own ++ r.own);
  later = r.later;
  split = ap (λ (qs : List Piece). x ∷ qs) (i.split ∙ ap (λ (qs : List Piece). i.own ++ qs) r.split ∙ sym (append_assoc i.own r.own r.later));
  forest = node x f.stay e g (f.empty g) i.forest r.forest;
  deep = deep-at path (n + 1 + length i.own + length r.own) (n + suc (length (i.own ++ r.own))) r.later (omega (arith, length-append i.own r.own)) r.deep;
}

abbrev Below : ℕ → Type 0
Below f = (q : ℕ) (path : List ℕ) (n : ℕ) (ps : List Piece) → length ps ≤ f → AllSit ps → depth_first (q ∷ path) n ps ≡ true → Level q path n ps

level-turn : (f : ℕ) → Below f → (q : ℕ) (path : List ℕ) (n : ℕ) (x : Piece) (ps : List Piece) → length ps ≤ f → Sits x → AllSit ps → depth_first (q ∷ path) n (x ∷ ps) ≡ true
    → (c g : Bool) → eqb x.parent q ≡ c → is_group x.typ ≡ g → Level q path n (x ∷ ps)
level-turn f rec q path n x ps l a s d false g e t = level-none q path n (x ∷ ps) (deep-other q path n x ps e d)
level-turn f rec q path n x ps l a s d true false e t =
    level-leaf q path n x ps a (eqb-true _ _ e) t (rec q path (n + 1) ps l s (deep_alone q path n x ps (eqb-true _ _ e) t d))
level-turn f rec q path n x ps l a s d true true e t =
    let i = rec (n + 1) (q ∷ path) (n + 1) ps l s (deep-group q path n x ps (eqb-true _ _ e) t d) in
    let later-sit : AllSit i.later = (sit_split i.own i.later (rw i.split at s)).1 in
    level-node q path n x ps a (eqb-true _ _ e) t i
    (rec q path (n + 1 + length i.own) i.later (omega (arith, l, ap length i.split, length-append i.own i.later)) later-sit i.deep)

level_by : (f : ℕ) → Below f
unfolding AllSit
level_by zero q path n [] l s d = level-none q path n [] (deep_nil path n)
level_by (suc f) q path n [] l s d = level-none q path n [] (deep_nil path n)
level_by zero q path n (x ∷ ps) l s d = absurd (omega arith)
level_by (suc f) q path n (x ∷ ps) l s d =
    level-turn f (λ q' path' n' qs c t y. level_by f q' path' n' qs c t y) q path n x ps (omega arith) s.0 s.1 d (eqb x.parent q) (is_group x.typ) refl refl

nobody-left : (n : ℕ) (ps : List Piece) → depth_first [] n ps ≡ true → ps ≡ []
unfolding depth_first
nobody-left n [] d = refl
nobody-left n (x ∷ ps) d = let z : ◌≡◌ {A = ℕ} 0 1 = cc in absurd (omega arith)

pub record Whole (ps : List Piece) : Type 0 where
  pub rows : List Piece
  pub rows_are : rows ≡ ps
  pub forest : Forest 0 0 rows

pub parsed : (ps : List Piece) → AllSit ps → depth_first (0 ∷ []) 0 ps ≡ true → Whole ps
parsed ps s d =
    let r = level_by (length ps) 0 [] 0 ps (omega arith) s d in
    record { rows = r.own; rows_are = sym (r.split ∙ ap (λ (qs : List Piece). r.own ++ qs) (nobody-left (0 + length r.own) r.later r.deep) ∙ append-nil r.own); forest = r.forest }

-- ---- back

-- a path shows parents up to q as another does
pub record Shows (path other : List ℕ) (q : ℕ) : Type 0 where
  pub there : (r : ℕ) → r ≤ q → among r path ≡ among r other
  pub open_since : (r : ℕ) → r ≤ q → since r path ≡ since r other

shows_own : (path : List ℕ) (q : ℕ) → Shows path path q
shows_own path q = record { there = λ r l. refl; open_since = λ r l. refl }

-- a deeper number hides nothing
shows_under : (path : List ℕ) (q n : ℕ) → q < n → Shows (n ∷ path) path q
shows_under path q n l = record {
  there = λ r c. rw (ne_eqb r n (λ e. omega arith));
  open_since = λ r c. since-other r n path (ne_eqb r n (λ e. omega arith));
}

shows_trans : (a c d : List ℕ) (q q' : ℕ) → q ≤ q' → Shows a c q' → Shows c d q → Shows a d q
shows_trans a c d q q' l x y = record {
  there = λ r h. x.there r (omega arith) ∙ y.there r h;
  open_since = λ r h. x.open_since r (omega arith) ∙ y.open_since r h;
}

deep_step : (path : List ℕ) (q : ℕ) (above : List ℕ) (n : ℕ) (x : Piece) (ps : List Piece) → Shows path (q ∷ above) q → x.parent ≡ q
    → depth_first (cond (is_group x.typ) ((n + 1) ∷ q ∷ above) (q ∷ above)) (n + 1) ps ≡ true → depth_first path n (x ∷ ps) ≡ true
deep_step path q above n x ps s e d =
    let a : among q path ≡ true = s.there q (omega arith) ∙ rw (eq-eqb q q refl) in
    let c : since q path ≡ q ∷ above = s.open_since q (omega arith) ∙ since-own q above in
    deep_more path n x ps ∙ rw (e, a, c) d

pub deep-before : {q n : ℕ} {ps : List Piece} → Forest q n ps → q ≤ n → AllSit ps → (above path : List ℕ) (qs : List Piece) → Shows path (q ∷ above) q
    → ((path' : List ℕ) → Shows path' (q ∷ above) q → depth_first path' (n + length ps) qs ≡ true)
    → depth_first path n (ps ++ qs) ≡ true
unfolding AllSit
deep-before (none {n = n}) l a above path qs s k = let e : n + 0 ≡ n = add-zero n in rw e at (k path s)
deep-before (aside x z e t) l a above path qs s k = let y : ◌≡◌ {A = Bool} true false = sym a.0.stay ∙ z in let w : ◌≡◌ {A = ℕ} 0 1 = cc in absurd (omega arith)
deep-before (leaf {p = q} {n = n} {ps = ps} x z e g t) l a above path qs s k =
    deep_step path q above n x (ps ++ qs) s e
    (rw g (deep-before t (omega arith) a.1 above (q ∷ above) qs (shows_own (q ∷ above) q)
    (λ p h. deep-at p (n + suc (length ps)) (n + 1 + length ps) qs (omega arith) (k p h))))
deep-before (node {p = q} {n = n} {is = is} {ps = ps} x z e g u d t) l a above path qs s k =
    let f = sit_split is ps a.1 in
    rw (append_assoc is ps qs)
    (deep_step path q above n x (is ++ (ps ++ qs)) s e
    (rw g (deep-before d (omega arith) f.0 (q ∷ above) ((n + 1) ∷ q ∷ above) (ps ++ qs) (shows_own ((n + 1) ∷ q ∷ above) (n + 1))
    (λ p h. deep-before t (omega arith) f.1 above p qs (shows_trans p ((n + 1) ∷ q ∷ above) (q ∷ above) q (n + 1) (omega arith) h (shows_under (q ∷ above) q (n + 1) (omega arith)))
    (λ p' h'. deep-at p' (n + suc (length (is ++ ps))) (n + 1 + length is + length ps) qs (omega (arith, length-append is ps)) (k p' h'))))))

pub depth-first : {ps : List Piece} → Forest 0 0 ps → AllSit ps → depth_first (0 ∷ []) 0 ps ≡ true
depth-first {ps} f a = rw (append-nil ps) at (deep-before f (omega arith) a [] (0 ∷ []) [] (shows_own (0 ∷ []) 0) (λ p h. deep_nil p (0 + length ps)))
