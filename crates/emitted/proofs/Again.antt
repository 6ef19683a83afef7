-- The law that the cleaned copy and the builder share: if every row met in what rows emit is kept, then the rows met are the rows emitted. Assumes nothing.
--     Here       octets stand in a message, from a place on
--     again      the law, of a forest; rows that were set aside are gone, and parents are numbered by `anew`
use mathlib.Core.Path.{◌≡◌, refl, sym, ap, ◌∙◌}
use mathlib.Core.Bool.{Bool, true, false, cond}
use mathlib.Core.List.{List, [], ◌∷◌, ◌++◌, append_assoc}
use Prim.Native.Nat.{ℕ, suc, ◌+◌}
use native.Mathlib.Omega.{arith}
use native.Mathlib.Nat.{add-zero}
use borrow.Author.Tests.{eqb-true}
use lib.ListN.{length, take, drop}
use lib.Seq.{take-append_seam, drop-drop, get_or-drop, drop_at}
use Rattle.rules.specs.Framing.{octet, element_header}
use Rattle.rules.specs.Types.{is_group}
use Rattle.rules.specs.Listings.{Book}
use Rattle.rules.specs.Standing.{Item, fresh, kept, standing, marked, item_of}
use Rattle.rules.specs.Met.{Met, ends, alone, group}
use Rattle.rules.specs.Sound.{sound}
use Rattle.rules.proofs.Mets.{some-octets}
use Rattle.rules.proofs.Rows.{Every}
use Rattle.rules.specs.Emitting.{Piece, stays, head_octets, remaining}
use Rattle.rules.specs.Cleaned.{received, pieces}
use Rattle.emitted.proofs.Forests.{Forest, none, aside, leaf, node, element, grown}
use Rattle.emitted.proofs.Elements.{head_with, Apart, one, some, taken-off, kept-alone, kept-group}

-- ---- where octets stand

-- xs stand in w from `at` on, and `rest` follows
pub record Here (w : List ℕ) (at : ℕ) (xs : List ℕ) : Type 0 where
  pub rest : List ℕ
  pub stands : drop at w ≡ xs ++ rest

pub here-taken : (w : List ℕ) (at : ℕ) (xs : List ℕ) → Here w at xs → take (length xs) (drop at w) ≡ xs
here-taken w at xs h = rw h.stands (take-append_seam xs h.rest)

pub here-front : (w : List ℕ) (at : ℕ) (xs ys : List ℕ) → Here w at (xs ++ ys) → Here w at xs
here-front w at xs ys h = record { rest = ys ++ h.rest; stands = h.stands ∙ append_assoc xs ys h.rest }

pub here_back : (w : List ℕ) (at : ℕ) (xs ys : List ℕ) → Here w at (xs ++ ys) → Here w (at + length xs) ys
here_back w at xs ys h = record {
  rest = h.rest;
  stands = sym (drop-drop (length xs) at w) ∙ rw (h.stands, append_assoc xs ys h.rest) (drop_at xs (ys ++ h.rest) (length xs) refl);
}

pub here-octet : (w : List ℕ) (at : ℕ) (xs : List ℕ) (h : Here w at xs) (j : ℕ) → octet w (at + j) ≡ octet (xs ++ h.rest) j
here-octet w at xs h j = sym (get_or-drop at w j 0) ∙ ap (λ (zs : List ℕ). octet zs j) h.stands

module _ (w : List ℕ) (at t f : ℕ) (ys zs : List ℕ) (h : Here w at (element t f ys ++ zs)) where
  pub here-value : Here w (at + element_header) ys
  here-value = here_back w at (head_octets t (length ys) f) ys (here-front w at (element t f ys) zs h)

  pub here-rest : Here w (at + element_header + length ys) zs
  here-rest = let e : at + element_header + length ys ≡ at + length (element t f ys) = omega arith in rw e (here_back w at (element t f ys) zs h)

  pub here-fourth : octet w (at + 3) ≡ f
  here-fourth = here-octet w at (element t f ys ++ zs) h 3

-- ---- numbering anew

-- a row that stays has the next number
unfoldable pub Counts : (ℕ → ℕ) → ℕ → List Piece → Type 0
Counts anew n [] = Unit {0}
Counts anew n (x ∷ xs) = (anew (n + 1) ≡ anew n + cond (stays x) 1 0) × Counts anew (n + 1) xs

pub counts-split : (anew : ℕ → ℕ) (n : ℕ) (is ps : List Piece) → Counts anew n (is ++ ps) → Counts anew n is × Counts anew (n + length is) ps
unfolding Counts
counts-split anew n [] ps c = (tt, let e : n + 0 ≡ n = add-zero n in rw e c)
counts-split anew n (x ∷ is) ps c =
    let r = counts-split anew (n + 1) is ps c.1 in
    let e : n + suc (length is) ≡ n + 1 + length is = omega arith in ((c.0, r.0), rw e r.1)

pub remaining_append : (anew : ℕ → ℕ) (is ps : List Piece) → remaining anew (is ++ ps) ≡ remaining anew is ++ remaining anew ps
unfolding remaining
remaining_append anew [] ps = refl
remaining_append anew (x ∷ is) ps = rw (remaining_append anew is ps) (go (stays x))
  where
    go : (c : Bool)
        → cond c (record { parent = anew x.parent; typ = x.typ; fourth = x.fourth; stand = x.stand; value = x.value } ∷ (remaining anew is ++ remaining anew ps)) (remaining anew is ++ remaining anew ps)
        ≡ cond c (record { parent = anew x.parent; typ = x.typ; fourth = x.fourth; stand = x.stand; value = x.value } ∷ remaining anew is) (remaining anew is) ++ remaining anew ps
    go true = refl
    go false = refl

pub remaining_in : (anew : ℕ → ℕ) (x : Piece) (ps : List Piece) → stays x ≡ true
    → remaining anew (x ∷ ps) ≡ record { parent = anew x.parent; typ = x.typ; fourth = x.fourth; stand = x.stand; value = x.value } ∷ remaining anew ps
unfolding remaining
remaining_in anew x ps s = rw s

pub remaining-out : (anew : ℕ → ℕ) (x : Piece) (ps : List Piece) → stays x ≡ false → remaining anew (x ∷ ps) ≡ remaining anew ps
unfolding remaining
remaining-out anew x ps s = rw s

pub remaining_nil : (anew : ℕ → ℕ) → remaining anew [] ≡ []
unfolding remaining
remaining_nil anew = refl

pub counts_end : (anew : ℕ → ℕ) (n : ℕ) (ps : List Piece) → Counts anew n ps → anew (n + length ps) ≡ anew n + length (remaining anew ps)
unfolding Counts
counts_end anew n [] c = let e : n + 0 ≡ n = add-zero n in rw e (omega (arith, ap length (remaining_nil anew)))
counts_end anew n (x ∷ ps) c = go (stays x) refl (counts_end anew (n + 1) ps c.1)
  where
    e : n + suc (length ps) ≡ n + 1 + length ps
    e = omega arith

    go : (y : Bool) → stays x ≡ y → anew (n + 1 + length ps) ≡ anew (n + 1) + length (remaining anew ps) → anew (n + suc (length ps)) ≡ anew n + length (remaining anew (x ∷ ps))
    go true s r =
        let a : anew (n + 1) ≡ anew n + 1 = c.0 ∙ rw s in
        rw e (omega (arith, r, ap length (remaining_in anew x ps s)))
    go false s r =
        let a : anew (n + 1) ≡ anew n + 0 = c.0 ∙ rw s in
        rw e (omega (arith, r, ap length (remaining-out anew x ps s)))

-- ---- the law

pub pieces_append : (w : List ℕ) (is es : List Item) → pieces w (is ++ es) ≡ pieces w is ++ pieces w es
unfolding pieces
pieces_append w [] es = refl
pieces_append w (i ∷ is) es = rw (pieces_append w is es)

pub pieces-length : (w : List ℕ) (is : List Item) → length (pieces w is) ≡ length is
unfolding pieces
pieces-length w [] = refl
pieces-length w (i ∷ is) = omega (arith, pieces-length w is)

pieces_more : (w : List ℕ) (i : Item) (is : List Item) → pieces w (i ∷ is) ≡ received w i ∷ pieces w is
unfolding pieces
pieces_more w i is = refl

pub nothing_left : (w : List ℕ) (anew : ℕ → ℕ) → pieces w [] ≡ remaining anew []
unfolding pieces remaining
nothing_left w anew = refl

abbrev pub Kept : Item → Type 0
Kept i = i.stand ≡ kept

pub every-split : (P : Item → Type 0) (is es : List Item) → Every P (is ++ es) → Every P is × Every P es
unfolding Every
every-split P [] es a = (tt, a)
every-split P (i ∷ is) es a = let r = every-split P is es a.1 in ((a.0, r.0), r.1)

every_more : (P : Item → Type 0) (i : Item) (is : List Item) → Every P (i ∷ is) → P i × Every P is
unfolding Every
every_more P i is a = a

met_nil : {b : Book} {k v : ℕ} {m : List ℕ} {p n at : ℕ} {xs : List ℕ} {es : List Item} → xs ≡ [] → Met b k v m p n at xs es → es ≡ []
met_nil e ends = refl
met_nil e (alone {xs = xs} h a c t) = absurd (omega (arith, some-octets a, ap length e))
met_nil e (group {xs = xs} h g a c d t) = absurd (omega (arith, some-octets a, ap length e))

same-piece : (p p' t f f' s s' : ℕ) (u u' : List ℕ) → p ≡ p' → f ≡ f' → s ≡ s' → u ≡ u'
    → ◌≡◌ {A = Piece} (record { parent = p; typ = t; fourth = f; stand = s; value = u }) (record { parent = p'; typ = t; fourth = f'; stand = s'; value = u' })
same-piece p p' t f f' s s' u u' a c d e = rw (a, c, d, e)

module _ (b : Book) (fine : sound b ≡ true) (k : ℕ) (w : List ℕ) (anew : ℕ → ℕ) where
  abbrev anewed : Piece → Piece
  anewed x = record { parent = anew x.parent; typ = x.typ; fourth = x.fourth; stand = x.stand; value = x.value }

  -- the row that is met is the row emitted
  met-row : (x : Piece) (ys zs : List ℕ) (v : ℕ) (m : List ℕ) (p at : ℕ) → stays x ≡ true → x.parent ≡ p → Here w at (element x.typ x.fourth ys ++ zs)
      → standing b k v m (head_with x.typ x.fourth ys) ≡ kept
      → cond (is_group x.typ) [] ys ≡ x.value
      → received w (item_of b k v m (anew p) at (head_with x.typ x.fourth ys)) ≡ anewed x
  unfolding received item_of
  met-row x ys zs v m p at s e h z c =
      same-piece _ _ x.typ _ _ _ _ _ _ (ap anew (sym e)) (here-fourth w at x.typ x.fourth ys zs h) (z ∙ sym (eqb-true x.stand kept s))
      (ap (λ (us : List ℕ). cond (is_group x.typ) [] us) (here-taken w (at + element_header) ys (here-value w at x.typ x.fourth ys zs h)) ∙ c)

  stand-item : (v : ℕ) (m : List ℕ) (p at t f : ℕ) (ys : List ℕ) → Kept (item_of b k v m p at (head_with t f ys)) → standing b k v m (head_with t f ys) ≡ kept
  unfolding item_of
  stand-item v m p at t f ys z = z

  leaf-again : (x : Piece) (ps : List Piece) (p n v at : ℕ) (m zs : List ℕ) (fs : List Item) → stays x ≡ true → x.parent ≡ p → is_group x.typ ≡ false
      → Counts anew n (x ∷ ps) → Here w at (element x.typ x.fourth x.value ++ zs)
      → Apart x.typ x.fourth x.value zs b k v m (anew p) (anew n) at fs → Every Kept fs
      → ((m' : List ℕ) (es : List Item) → Met b k v m' (anew p) (anew (n + 1)) (at + element_header + length x.value) zs es → Every Kept es → pieces w es ≡ remaining anew ps)
      → pieces w fs ≡ remaining anew (x ∷ ps)
  unfolding Counts
  leaf-again x ps p n v at m zs fs s e g c h (one {es = es} q d) a rec =
      let z = every_more Kept (item_of b k v m (anew p) at (head_with x.typ x.fourth x.value)) es a in
      let st = stand-item v m (anew p) at x.typ x.fourth x.value z.0 in
      let next : anew (n + 1) ≡ anew n + 1 = c.0 ∙ rw s in
      pieces_more w (item_of b k v m (anew p) at (head_with x.typ x.fourth x.value)) es
      ∙ rw (
        met-row x x.value zs v m p at s e h st (rw g),
        rec (marked b k v m (head_with x.typ x.fourth x.value)) es (rw next d) z.1,
        remaining_in anew x ps s,
      )
  leaf-again x ps p n v at m zs fs s e g c h (some {is = is} {es = es} i q d t) a rec =
      let z = every_more Kept (item_of b k v m (anew p) at (head_with x.typ x.fourth x.value)) (is ++ es) a in
      let st = stand-item v m (anew p) at x.typ x.fourth x.value z.0 in
      absurd (omega (arith, q, kept-alone b fine k v m (head_with x.typ x.fourth x.value) st g))

  node-again : (x : Piece) (js ps : List Piece) (p n v at : ℕ) (m ys zs : List ℕ) (fs : List Item) → stays x ≡ true → x.parent ≡ p → is_group x.typ ≡ true → x.value ≡ []
      → Counts anew n (x ∷ (js ++ ps)) → Here w at (element x.typ x.fourth ys ++ zs)
      → Apart x.typ x.fourth ys zs b k v m (anew p) (anew n) at fs → Every Kept fs
      → ((g : ℕ) (is : List Item) → Met b k g fresh (anew (n + 1)) (anew (n + 1)) (at + element_header) ys is → Every Kept is → pieces w is ≡ remaining anew js)
      → ((m' : List ℕ) (es : List Item) → Met b k v m' (anew p) (anew (n + 1 + length js)) (at + element_header + length ys) zs es → Every Kept es → pieces w es ≡ remaining anew ps)
      → pieces w fs ≡ remaining anew (x ∷ (js ++ ps))
  unfolding Counts
  node-again x js ps p n v at m ys zs fs s e g u c h (one {es = es} q d) a inn rec =
      let z = every_more Kept (item_of b k v m (anew p) at (head_with x.typ x.fourth ys)) es a in
      let st = stand-item v m (anew p) at x.typ x.fourth ys z.0 in
      let r = kept-group b fine k v m (head_with x.typ x.fourth ys) st g in
      absurd (omega (arith, q, r.1))
  node-again x js ps p n v at m ys zs fs s e g u c h (some {is = is} {es = es} i q d t) a inn rec =
      let z = every_more Kept (item_of b k v m (anew p) at (head_with x.typ x.fourth ys)) (is ++ es) a in
      let st = stand-item v m (anew p) at x.typ x.fourth ys z.0 in
      let y = every-split Kept is es z.1 in
      let next : anew (n + 1) ≡ anew n + 1 = c.0 ∙ rw s in
      let cs = counts-split anew (n + 1) js ps c.1 in
      let inside : pieces w is ≡ remaining anew js = inn (suc i) is (rw next d) y.0 in
      let count : anew (n + 1 + length js) ≡ anew n + 1 + length is = omega (arith, counts_end anew (n + 1) js cs.0, ap length inside, pieces-length w is) in
      pieces_more w (item_of b k v m (anew p) at (head_with x.typ x.fourth ys)) (is ++ es)
      ∙ rw (
        met-row x ys zs v m p at s e h st (rw (g, u)),
        pieces_append w is es,
        inside,
        rec (marked b k v m (head_with x.typ x.fourth ys)) es (rw count t) y.1,
        remaining_in anew x (js ++ ps) s,
        remaining_append anew js ps,
      )

  pub again : {p n : ℕ} {ps : List Piece} (f : Forest p n ps) (v at : ℕ) (m : List ℕ) (fs : List Item) → Met b k v m (anew p) (anew n) at (grown f) fs → Every Kept fs
      → Counts anew n ps → Here w at (grown f) → pieces w fs ≡ remaining anew ps
  unfolding grown Counts
  again (none {p = p} {n = n}) v at m fs d a c h = ap (pieces w) (met_nil refl d) ∙ nothing_left w anew
  again (aside {p = p} {n = n} {ps = ps} x s e t) v at m fs d a c h =
      let same : anew (n + 1) ≡ anew n = c.0 ∙ rw s (add-zero (anew n)) in
      again t v at m fs (rw same d) a c.1 h ∙ sym (remaining-out anew x ps s)
  again (leaf {p = p} {n = n} {ps = ps} x s e g t) v at m fs d a c h =
      leaf-again x ps p n v at m (grown t) fs s e g c h (taken-off x.typ x.fourth x.value (grown t) b k v m (anew p) (anew n) at d) a
      (λ m' es q z. again t v (at + element_header + length x.value) m' es q z c.1 (here-rest w at x.typ x.fourth x.value (grown t) h))
  again (node {p = p} {n = n} {is = js} {ps = ps} x s e g u i t) v at m fs d a c h =
      let cs = counts-split anew (n + 1) js ps c.1 in
      node-again x js ps p n v at m (grown i) (grown t) fs s e g u c h (taken-off x.typ x.fourth (grown i) (grown t) b k v m (anew p) (anew n) at d) a
      (λ l is q z. again i l (at + element_header) fresh is q z cs.0 (here-value w at x.typ x.fourth (grown i) (grown t) h))
      (λ m' es q z. again t v (at + element_header + length (grown i)) m' es q z cs.1 (here-rest w at x.typ x.fourth (grown i) (grown t) h))
