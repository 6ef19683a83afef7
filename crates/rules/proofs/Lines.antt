-- Laws of any listing: what a search finds, and what one test over all levels says of each line. Assumes nothing.
--     seek-lists   the line that is found lists the pair          seek-own   in a listing with no pair twice, each line is found by its own pair
--     line-sound, level-distinct, level-size                      what the test says of a level
use mathlib.Core.Path.{◌≡◌, refl, sym, ◌∙◌}
use mathlib.Core.Bool.{Bool, true, false, cond, not, ◌&&◌, ◌||◌, beq}
use mathlib.Core.List.{List, [], ◌∷◌}
use Prim.Native.Nat.{ℕ, zero, suc, ◌≤◌, ◌<◌}
use native.Mathlib.Omega.{arith}
use borrow.Author.Tests.{ltb-true, ltb-false, leb-true, eqb-true, eq-eqb}
use lib.Dec.{eqb, ltb}
use lib.ListN.{length, get_or}
use Rattle.rules.specs.Types.{among, is_group}
use Rattle.rules.specs.Listings.{Line, Book, any_instance, lists, seek, empty_line, listing}
use Rattle.rules.specs.Standing.{most_lines}
use Rattle.rules.specs.Sound.{all, every_line, line_tests, clash, distinct, level_tests, every_level, every_message, sound, is_free}

-- ---- tests with two parts

pub and_left : (a b : Bool) → a && b ≡ true → a ≡ true
and_left true b e = refl
and_left false b e = e

pub and_right : (a b : Bool) → a && b ≡ true → b ≡ true
and_right true b e = e
and_right false b e = let z : ◌≡◌ {A = ℕ} 0 1 = cc in absurd (omega arith)

-- each of a list of tests
abbrev pub Each : List Bool → Type 0
Each [] = Unit {0}
Each (c ∷ cs) = (c ≡ true) × Each cs

pub each : (cs : List Bool) → all cs ≡ true → Each cs
each [] e = tt
each (c ∷ cs) e = (and_left c (all cs) e, each cs (and_right c (all cs) e))

pub not-both : (a : Bool) → a ≡ true → not a ≡ true → ⊥
not-both true e f = let z : ◌≡◌ {A = ℕ} 0 1 = cc in omega arith
not-both false e f = let z : ◌≡◌ {A = ℕ} 0 1 = cc in omega arith

pub beq_same : (a b : Bool) → beq a b ≡ true → a ≡ b
beq_same true true e = refl
beq_same true false e = sym e
beq_same false true e = e
beq_same false false e = refl

abbrev pub every_passes : (ℕ → Bool) → List ℕ → Bool
every_passes P [] = true
every_passes P (x ∷ xs) = P x && every_passes P xs

among_case : (P : ℕ → Bool) (t x : ℕ) (xs : List ℕ) (c : Bool) → eqb t x ≡ c → c || among t xs ≡ true → P x && every_passes P xs ≡ true
    → (among t xs ≡ true → every_passes P xs ≡ true → P t ≡ true) → P t ≡ true
among_case P t x xs true w y e f = rw (eqb-true t x w) (and_left (P x) (every_passes P xs) e)
among_case P t x xs false w y e f = f y (and_right (P x) (every_passes P xs) e)

-- a number that stands in a list passes every test that all of the list pass
pub among-all : (P : ℕ → Bool) (t : ℕ) (xs : List ℕ) → among t xs ≡ true → every_passes P xs ≡ true → P t ≡ true
among-all P t [] a e = let z : ◌≡◌ {A = ℕ} 0 1 = cc in absurd (omega arith)
among-all P t (x ∷ xs) a e = among_case P t x xs (eqb t x) refl a e (among-all P t xs)

-- ---- seeking

pub seek-most : (ls : List Line) (k t i : ℕ) → seek ls k t i ≤ length ls
unfolding seek
seek-most [] k t i = omega arith
seek-most (l ∷ ls) k t i = most (lists k t i l) (seek-most ls k t i)
  where
    most : (c : Bool) → seek ls k t i ≤ length ls → cond c 0 (suc (seek ls k t i)) ≤ suc (length ls)
    most true r = omega arith
    most false r = omega arith

pub seek-lists : (ls : List Line) (k t i : ℕ) → seek ls k t i < length ls → lists k t i (get_or ls (seek ls k t i) empty_line) ≡ true
unfolding seek
seek-lists [] k t i l = absurd (omega arith)
seek-lists (x ∷ ls) k t i l = found (lists k t i x) refl l (seek-lists ls k t i)
  where
    found : (c : Bool) → lists k t i x ≡ c → cond c 0 (suc (seek ls k t i)) < suc (length ls)
        → (seek ls k t i < length ls → lists k t i (get_or ls (seek ls k t i) empty_line) ≡ true)
        → lists k t i (get_or (x ∷ ls) (cond c 0 (suc (seek ls k t i))) empty_line) ≡ true
    found true e r f = e
    found false e r f = f (omega arith)

-- what a line that lists a pair says
pub record Lists (k t i : ℕ) (l : Line) : Type 0 where
  pub typ : l.typ ≡ t
  pub inst : eqb l.inst i || eqb l.inst any_instance ≡ true
  pub on : among k l.kinds ≡ true

pub lists-is : (k t i : ℕ) (l : Line) → lists k t i l ≡ true → Lists k t i l
lists-is k t i l e =
    let one = and_left (eqb l.typ t && (eqb l.inst i || eqb l.inst any_instance)) (among k l.kinds) e in record {
      typ = eqb-true _ _ (and_left (eqb l.typ t) _ one);
      inst = and_right (eqb l.typ t) _ one;
      on = and_right (eqb l.typ t && (eqb l.inst i || eqb l.inst any_instance)) (among k l.kinds) e;
    }

-- two lines that list one pair clash
either_any : (x y i : ℕ) (a b c d : Bool) → eqb x i ≡ a → eqb x any_instance ≡ b → eqb y i ≡ c → eqb y any_instance ≡ d
    → a || b ≡ true → c || d ≡ true → eqb x y || b || d ≡ true
either_any x y i true true c d ea eb ec ed p q = or-true (eqb x y) d
  where
    or-true : (u w : Bool) → u || true || w ≡ true
    or-true true w = refl
    or-true false w = refl
either_any x y i false true c d ea eb ec ed p q = or-true (eqb x y) d
  where
    or-true : (u w : Bool) → u || true || w ≡ true
    or-true true w = refl
    or-true false w = refl
either_any x y i true false true d ea eb ec ed p q = rw (eq-eqb x y (eqb-true _ _ ea ∙ sym (eqb-true _ _ ec)))
either_any x y i true false false true ea eb ec ed p q = last (eqb x y)
  where
    last : (u : Bool) → u || false || true ≡ true
    last true = refl
    last false = refl
either_any x y i true false false false ea eb ec ed p q = let z : ◌≡◌ {A = ℕ} 0 1 = cc in absurd (omega arith)
either_any x y i false false c d ea eb ec ed p q = let z : ◌≡◌ {A = ℕ} 0 1 = cc in absurd (omega arith)

pub both-clash : (k t i : ℕ) (l l' : Line) → lists k t i l ≡ true → lists k t i l' ≡ true → clash l l' ≡ true
unfolding clash
both-clash k t i l l' e e' =
    let a = lists-is k t i l e in
    let c = lists-is k t i l' e' in
    rw (eq-eqb l.typ l'.typ (a.typ ∙ sym c.typ))
    (either_any l.inst l'.inst i (eqb l.inst i) (eqb l.inst any_instance) (eqb l'.inst i) (eqb l'.inst any_instance) refl refl refl refl a.inst c.inst)

pub every-line-at : (test : Line → Bool) (ls : List Line) → every_line test ls ≡ true → (j : ℕ) → j < length ls → test (get_or ls j empty_line) ≡ true
unfolding every_line
every-line-at test [] e j l = absurd (omega arith)
every-line-at test (x ∷ ls) e zero l = and_left (test x) (every_line test ls) e
every-line-at test (x ∷ ls) e (suc j) l = every-line-at test ls (and_right (test x) (every_line test ls) e) j (omega arith)

pub seek-own : (ls : List Line) (k t i : ℕ) → distinct ls ≡ true → (j : ℕ) → j < length ls → lists k t i (get_or ls j empty_line) ≡ true → seek ls k t i ≡ j
unfolding seek distinct
seek-own [] k t i d j l e = absurd (omega arith)
seek-own (x ∷ ls) k t i d zero l e = rw e
seek-own (x ∷ ls) k t i d (suc j) l e =
    let apart : every_line (λ l'. not (clash x l')) ls ≡ true = and_left (every_line (λ l'. not (clash x l')) ls) (distinct ls) d in
    let rest : distinct ls ≡ true = and_right (every_line (λ l'. not (clash x l')) ls) (distinct ls) d in
    rw (other (lists k t i x) refl (every-line-at (λ l'. not (clash x l')) ls apart j (omega arith)), seek-own ls k t i rest j (omega arith) e)
  where
    other : (c : Bool) → lists k t i x ≡ c → not (clash x (get_or ls j empty_line)) ≡ true → lists k t i x ≡ false
    other false w z = w
    other true w z = absurd (not-both (clash x (get_or ls j empty_line)) (both-clash k t i x (get_or ls j empty_line) w e) z)

-- ---- what the test over all levels says of each

levels-at : (n : ℕ) (more : List (List Line)) → every_level n more ≡ true → (v : ℕ) → v < length more → all (level_tests n (get_or more v [])) ≡ true
unfolding every_level
levels-at n [] e v l = absurd (omega arith)
levels-at n (ls ∷ more) e zero l = and_left (all (level_tests n ls)) (every_level n more) e
levels-at n (ls ∷ more) e (suc v) l = levels-at n more (and_right (all (level_tests n ls)) (every_level n more) e) v (omega arith)

beyond : (more : List (List Line)) (v : ℕ) → length more ≤ v → get_or more v [] ≡ []
beyond [] v l = refl
beyond (ls ∷ more) zero l = absurd (omega arith)
beyond (ls ∷ more) (suc v) l = beyond more v (omega arith)

empty-sound : (n : ℕ) → all (level_tests n []) ≡ true
unfolding every_line distinct
empty-sound n = refl

module _ (b : Book) (fine : sound b ≡ true) (v : ℕ) where
  level-sound : all (level_tests (length b.levels) (listing b v)) ≡ true
  unfolding sound listing
  level-sound = go (ltb v (length b.levels)) refl
    where
      go : (c : Bool) → ltb v (length b.levels) ≡ c → all (level_tests (length b.levels) (get_or b.levels v [])) ≡ true
      go true e =
          levels-at (length b.levels) b.levels
          (and_left (every_level (length b.levels) b.levels) (every_message (length b.levels) b.messages) fine) v (ltb-true _ _ e)
      go false e = rw (beyond b.levels v (ltb-false _ _ e)) (empty-sound (length b.levels))

  level-each : Each (level_tests (length b.levels) (listing b v))
  level-each = each (level_tests (length b.levels) (listing b v)) level-sound

  pub level-distinct : distinct (listing b v) ≡ true
  level-distinct = level-each.1.0

  pub level-size : length (listing b v) ≤ most_lines
  level-size = leb-true _ _ level-each.1.1.0

  pub line-sound : (j : ℕ) → j < length (listing b v) → all (line_tests (length b.levels) (get_or (listing b v) j empty_line)) ≡ true
  line-sound = every-line-at (λ l. all (line_tests (length b.levels) l)) (listing b v) level-each.0

-- the parts of what a line passes
pub record SoundLine (levels : ℕ) (l : Line) : Type 0 where
  pub group : is_group l.typ ≡ not (eqb l.inside 0)
  pub inside : l.inside < levels
  pub typ : l.typ < 256
  pub inst : l.inst ≤ any_instance
  pub must : not l.must || ltb l.inst any_instance ≡ true
  pub every : ltb l.inst any_instance || l.many ≡ true
  pub limits : is_free l || is_group l.typ ≡ true
  pub optional : is_free l || not l.must ≡ true

pub sound-line : (levels : ℕ) (l : Line) → all (line_tests levels l) ≡ true → SoundLine levels l
sound-line levels l e =
    let t = each (line_tests levels l) e in record {
      group = beq_same _ _ t.0;
      inside = ltb-true _ _ t.1.0;
      typ = ltb-true _ _ t.1.1.0;
      inst = leb-true _ _ t.1.1.1.0;
      must = t.1.1.1.1.0;
      every = t.1.1.1.1.1.0;
      limits = t.1.1.1.1.1.1.0;
      optional = t.1.1.1.1.1.1.1.0;
    }
