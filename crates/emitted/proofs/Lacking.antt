-- Where a run lacks no mandatory pair, neither does the run of its kept rows, and no row of that is short. Assumes nothing.
use mathlib.Core.Path.{◌≡◌, refl, sym, ap, ◌∙◌}
use mathlib.Core.Bool.{Bool, true, false, cond, not, ◌&&◌, ◌||◌}
use mathlib.Core.List.{List, [], ◌∷◌, ◌++◌}
use Prim.Native.Nat.{ℕ, suc, ◌+◌}
use native.Mathlib.Omega.{arith}
use borrow.Author.Tests.{eqb-true, eq-eqb, ne_eqb}
use lib.Dec.{eqb}
use Rattle.rules.specs.Listings.{Book, Line, listing}
use Rattle.rules.specs.Standing.{Item, kept, short}
use Rattle.rules.specs.Verdicts.{check, refuses, refused_at, mandatory_missing, short_checks, is_kept, has_kept, is_mandatory, level_checks, inside_checks, group_checks, lack_checks}
use Rattle.rules.specs.declared.Verdict.{Verdict}
use Rattle.rules.proofs.Lines.{and_left, and_right}
use Rattle.rules.proofs.Checks.{AllPass, check-off}
use Rattle.rules.proofs.Rows.{Every}
use Rattle.emitted.proofs.Again.{Kept}
use Rattle.emitted.proofs.Runs.{Stands, Kin, nobody, gone, both}

pub pass-split : (us vs : List Verdict) → AllPass (us ++ vs) → AllPass us × AllPass vs
unfolding AllPass
pass-split [] vs a = (tt, a)
pass-split (u ∷ us) vs a = let r = pass-split us vs a.1 in ((a.0, r.0), r.1)

pub pass-join : (us vs : List Verdict) → AllPass us → AllPass vs → AllPass (us ++ vs)
unfolding AllPass
pass-join [] vs a c = c
pass-join (u ∷ us) vs a c = (a.0, pass-join us vs a.1 c)

-- ---- a kept row of a pair

and-false : (a : Bool) → a && false ≡ false
and-false true = refl
and-false false = refl

four : (a c d e : Bool) → a ≡ true → c ≡ true → d ≡ true → e ≡ true → a && c && d && e ≡ true
four a c d e p q r s = rw (p, q, r, s)

kept-stands : (anew : ℕ → ℕ) (p t j : ℕ) (i i' : Item) → Stands anew i i' → is_kept p t j i ≡ true → is_kept (anew p) t j i' ≡ true
kept-stands anew p t j i i' s e =
    let three = and_left (eqb i.parent p && eqb i.typ t && eqb i.inst j) (eqb i.stand kept) e in
    let two = and_left (eqb i.parent p && eqb i.typ t) (eqb i.inst j) three in
    four _ _ _ _
    (eq-eqb _ _ (s.parent ∙ ap anew (eqb-true i.parent p (and_left (eqb i.parent p) (eqb i.typ t) two))))
    (eq-eqb _ _ (s.typ ∙ eqb-true i.typ t (and_right (eqb i.parent p) (eqb i.typ t) two)))
    (eq-eqb _ _ (s.inst ∙ eqb-true i.inst j (and_right (eqb i.parent p && eqb i.typ t) (eqb i.inst j) three)))
    (eq-eqb _ _ s.kept_j)

or_step : (a a' c c' : Bool) → (a ≡ true → a' ≡ true) → (c ≡ true → c' ≡ true) → a || c ≡ true → a' || c' ≡ true
or_step true a' c c' f g e = rw (f refl)
or_step false true c c' f g e = refl
or_step false false c c' f g e = g e

pub has_too : {anew : ℕ → ℕ} {n : ℕ} {es fs : List Item} → Kin anew n es fs → (p t j : ℕ) → has_kept p t j es ≡ true → has_kept (anew p) t j fs ≡ true
unfolding has_kept
has_too nobody p t j e = e
has_too {anew} (gone {es = es} i s c d) p t j e =
    has_too d p t j (rw (s, and-false (eqb i.parent p && eqb i.typ t && eqb i.inst j)) at e)
has_too {anew} (both {es = es} {fs = fs} i i' s c d) p t j e =
    or_step (is_kept p t j i) (is_kept (anew p) t j i') (has_kept p t j es) (has_kept (anew p) t j fs) (kept-stands anew p t j i i' s) (has_too d p t j) e

-- ---- 12

less : (a c c' : Bool) → (c ≡ true → c' ≡ true) → a && not c ≡ false → a && not c' ≡ false
less false c c' f e = refl
less true true c' f e = rw (f refl)
less true false c' f e = let z : ◌≡◌ {A = ℕ} 0 1 = cc in absurd (omega arith)

level_too : (k : ℕ) (all all' : List Item) (p p' o o' : ℕ) (ls : List Line) → ((t j : ℕ) → has_kept p t j all ≡ true → has_kept p' t j all' ≡ true)
    → AllPass (level_checks k all p o ls) → AllPass (level_checks k all' p' o' ls)
unfolding level_checks AllPass
level_too k all all' p p' o o' [] f a = tt
level_too k all all' p p' o o' (l ∷ ls) f a = (
  check-off _ (refused_at 12 mandatory_missing o' l.typ l.inst) refl
      ∙ less (is_mandatory k l) (has_kept p l.typ l.inst all) (has_kept p' l.typ l.inst all') (f l.typ l.inst)
      (sym (check-off _ (refused_at 12 mandatory_missing o l.typ l.inst) refl) ∙ a.0),
  level_too k all all' p p' o o' ls f a.1,
)

none_pass : AllPass []
unfolding AllPass
none_pass = tt

inside_too : (b : Book) (k : ℕ) (all all' : List Item) (n n' : ℕ) (i i' : Item) → i'.inside ≡ i.inside → ((t j : ℕ) → has_kept n t j all ≡ true → has_kept n' t j all' ≡ true)
    → AllPass (inside_checks b k all n i) → AllPass (inside_checks b k all' n' i')
inside_too b k all all' n n' i i' e f a = rw e (go (eqb i.inside 0) a)
  where
    go : (c : Bool) → AllPass (cond c [] (level_checks k all n i.place (listing b i.inside))) → AllPass (cond c [] (level_checks k all' n' i'.place (listing b i.inside)))
    go true y = none_pass
    go false y = level_too k all all' n n' i.place i'.place (listing b i.inside) f y

groups_too : (b : Book) (k : ℕ) (all all' : List Item) (anew : ℕ → ℕ) → ((p t j : ℕ) → has_kept p t j all ≡ true → has_kept (anew p) t j all' ≡ true)
    → {n : ℕ} {es fs : List Item} → Kin anew n es fs → AllPass (group_checks b k all n es) → AllPass (group_checks b k all' (anew n) fs)
unfolding group_checks AllPass
groups_too b k all all' anew f nobody a = tt
groups_too b k all all' anew f {n} (gone {es = es} {fs = fs} i s c d) a =
    let e : suc n ≡ n + 1 = omega arith in
    let r = pass-split (inside_checks b k all (suc n) i) (group_checks b k all (suc n) es) a in
    rw c at (groups_too b k all all' anew f d (rw e at r.1))
groups_too b k all all' anew f {n} (both {es = es} {fs = fs} i i' s c d) a =
    let e : suc n ≡ n + 1 = omega arith in
    let e' : anew (n + 1) ≡ suc (anew n) = omega arith in
    let r = pass-split (inside_checks b k all (suc n) i) (group_checks b k all (suc n) es) a in
    pass-join (inside_checks b k all' (suc (anew n)) i') (group_checks b k all' (suc (anew n)) fs)
    (inside_too b k all all' (suc n) (suc (anew n)) i i' s.inside (λ t j h. rw (e, e') at (f (suc n) t j h)) r.0)
    (rw e' at (groups_too b k all all' anew f d (rw e at r.1)))

pub lacks_too : (b : Book) (k v : ℕ) (anew : ℕ → ℕ) (es fs : List Item) → anew 0 ≡ 0 → Kin anew 0 es fs → AllPass (lack_checks b k v es) → AllPass (lack_checks b k v fs)
unfolding lack_checks
lacks_too b k v anew es fs z d a =
    let r = pass-split (level_checks k es 0 0 (listing b v)) (group_checks b k es 0 es) a in
    pass-join (level_checks k fs 0 0 (listing b v)) (group_checks b k fs 0 fs)
    (level_too k es fs 0 0 0 0 (listing b v) (λ t j h. rw z at (has_too d 0 t j h)) r.0)
    (rw z at (groups_too b k es fs anew (has_too d) d r.1))

-- ---- 11

pub none_short : (is : List Item) → Every Kept is → AllPass (short_checks is)
unfolding short_checks AllPass Every
none_short [] a = tt
none_short (i ∷ is) a = (off i.must, none_short is a.1)
  where
    off : (c : Bool) → refuses (check (c && eqb i.stand short) (refused_at 11 67 i.place i.typ i.inst)) ≡ false
    off c = check-off (c && eqb i.stand short) (refused_at 11 67 i.place i.typ i.inst) refl ∙ rw (ne_eqb i.stand short (λ z. omega (arith, a.0))) (and-false c)
