-- A refusal that names a place with a pair comes back from its number. Assumes nothing.
--     unpack      for a refusal whose numbers are small          short-named, lack_named   11 and 12 are such
use mathlib.Core.Path.{◌≡◌, refl}
use mathlib.Core.Bool.{Bool, true, false, cond, not, ◌&&◌, ◌||◌}
use mathlib.Core.List.{List, [], ◌∷◌, ◌++◌}
use Prim.Native.Nat.{ℕ, suc, ◌+◌, ◌-◌, ◌*◌, ◌/◌, ◌%◌, ◌≤◌, ◌<◌}
use native.Mathlib.Omega.{arith}
use borrow.Author.Tests.{ne_eqb, ltb-true, lt-ltb}
use lib.Dec.{eqb, ltb}
use lib.ListN.{length, get_or}
use Rattle.rules.specs.Listings.{Book, Line, empty_line, any_instance, listing}
use Rattle.rules.specs.Standing.{Item}
use Rattle.rules.specs.Types.{among}
use Rattle.rules.specs.Verdicts.{accepted, refused_at, invalid_length, mandatory_missing, check, refuses, first, short_checks, short_verdict, has_kept, is_mandatory, level_checks, inside_checks, group_checks, lack_checks, lack_verdict}
use Rattle.rules.specs.declared.Verdict.{Verdict}
use Rattle.rules.specs.Sound.{sound}
use Rattle.rules.proofs.Lines.{and_left, sound-line, line-sound}
use Rattle.rules.proofs.Rows.{Every, Fits}
use Rattle.taking.specs.Lacks.{fault}
use Rattle.reading.specs.Gaps.{packed, unpacked}

-- acceptance, or that refusal with numbers that fit their parts
pub data Named (n cause : ℕ) : Verdict → Type 0 where
  none : Named n cause accepted
  names : {o t i : ℕ} → o < 65536 → t < 256 → i < 16 → Named n cause (refused_at n cause o t i)

pub unpack : (n cause : ℕ) → 0 < n → (v : Verdict) → Named n cause v → unpacked n cause (packed v) ≡ v
unfolding unpacked packed fault
unpack n cause p v none = refl
unpack n cause p v (names {o = o} {t = t} {i = i} a c d) =
    let f = 1 + o * 4096 + t * 16 + i in
    let e₁ : (1 + o * 4096 + t * 16 + i - 1) / 4096 % 65536 ≡ o = omega arith in
    let e₂ : (1 + o * 4096 + t * 16 + i - 1) / 16 % 256 ≡ t = omega arith in
    let e₃ : (1 + o * 4096 + t * 16 + i - 1) % 16 ≡ i = omega arith in
    rw (lt-ltb 0 n p, ne_eqb (1 + o * 4096 + t * 16 + i) 0 (λ z. omega arith), e₁, e₂, e₃)

-- ---- the first of checks that are such is such

unfoldable AllNamed : ℕ → ℕ → List Verdict → Type 0
AllNamed n cause [] = Unit {0}
AllNamed n cause (v ∷ vs) = Named n cause v × AllNamed n cause vs

named_append : (n cause : ℕ) (us vs : List Verdict) → AllNamed n cause us → AllNamed n cause vs → AllNamed n cause (us ++ vs)
unfolding AllNamed
named_append n cause [] vs a c = c
named_append n cause (u ∷ us) vs a c = (a.0, named_append n cause us vs a.1 c)

first-named : (n cause : ℕ) (vs : List Verdict) → AllNamed n cause vs → Named n cause (first vs)
unfolding AllNamed first
first-named n cause [] a = none
first-named n cause (v ∷ vs) a = pick (refuses v) a.0 (first-named n cause vs a.1)
  where
    pick : (r : Bool) → Named n cause v → Named n cause (first vs) → Named n cause (cond r v (first vs))
    pick true x y = x
    pick false x y = y

check-named : (n cause : ℕ) (a : Bool) (v : Verdict) → (a ≡ true → Named n cause v) → Named n cause (check a v)
unfolding check
check-named n cause true v f = f refl
check-named n cause false v f = none

-- ---- 11: of rows that fit

shorts_named : (n top : ℕ) (is : List Item) → top ≤ 4096 → Every (Fits n top) is → AllNamed 11 invalid_length (short_checks is)
unfolding AllNamed short_checks Every
shorts_named n top [] l a = tt
shorts_named n top (i ∷ is) l a =
    (check-named 11 invalid_length _ _ (λ e. names (omega (arith, a.0.ends)) a.0.typ a.0.inst), shorts_named n top is l a.1)

pub short-named : (n top : ℕ) (is : List Item) → top ≤ 4096 → Every (Fits n top) is → Named 11 invalid_length (short_verdict is)
short-named n top is l a = first-named 11 invalid_length (short_checks is) (shorts_named n top is l a)

-- ---- 12: of lines that are sound

or_second : (a c : Bool) → not a || c ≡ true → a ≡ true → c ≡ true
or_second true c e f = e
or_second false c e f = let z : ◌≡◌ {A = ℕ} 0 1 = cc in absurd (omega arith)

-- ls is what is left of a listing after j lines
level-named : (b : Book) → sound b ≡ true → (k : ℕ) (all : List Item) (p o v : ℕ) → o < 65536 → (ls : List Line) (j : ℕ) → ((x : ℕ) → get_or (listing b v) (j + x) empty_line ≡ get_or ls x empty_line)
    → j + length ls ≤ length (listing b v) → AllNamed 12 mandatory_missing (level_checks k all p o ls)
unfolding AllNamed level_checks
level-named b fine k all p o v lo [] j e h = tt
level-named b fine k all p o v lo (l ∷ ls) j e h =
    let z : j + 0 ≡ j = omega arith in
    let here : get_or (listing b v) j empty_line ≡ l = rw z at (e 0) in
    let s = rw here at (sound-line (length b.levels) (get_or (listing b v) j empty_line) (line-sound b fine v j (omega arith))) in (
      check-named 12 mandatory_missing (is_mandatory k l && not (has_kept p l.typ l.inst all)) _
          (λ c. names lo s.typ (ltb-true _ _ (or_second l.must (ltb l.inst any_instance) s.must (and_left l.must (among k l.kinds) (and_left (is_mandatory k l) (not (has_kept p l.typ l.inst all)) c))))),
      level-named b fine k all p o v lo ls (suc j) (λ x. let y : suc j + x ≡ j + suc x = omega arith in rw y (e (suc x))) (omega arith),
    )

level_all : (b : Book) → sound b ≡ true → (k : ℕ) (all : List Item) (p o v : ℕ) → o < 65536 → AllNamed 12 mandatory_missing (level_checks k all p o (listing b v))
level_all b fine k all p o v lo = level-named b fine k all p o v lo (listing b v) 0 (λ x. let z : 0 + x ≡ x = omega arith in rw z) (omega arith)

none_or : (c : Bool) (vs : List Verdict) → AllNamed 12 mandatory_missing vs → AllNamed 12 mandatory_missing (cond c [] vs)
unfolding AllNamed
none_or true vs a = tt
none_or false vs a = a

groups-named : (b : Book) → sound b ≡ true → (k : ℕ) (all : List Item) (n m top : ℕ) (is : List Item) → top ≤ 4096 → Every (Fits m top) is → AllNamed 12 mandatory_missing (group_checks b k all n is)
unfolding AllNamed group_checks Every
groups-named b fine k all n m top [] l a = tt
groups-named b fine k all n m top (i ∷ is) l a =
    named_append 12 mandatory_missing (inside_checks b k all (suc n) i) (group_checks b k all (suc n) is)
    (none_or (eqb i.inside 0) (level_checks k all (suc n) i.place (listing b i.inside)) (level_all b fine k all (suc n) i.place i.inside (omega (arith, a.0.ends))))
    (groups-named b fine k all (suc n) m top is l a.1)

pub lack_named : (b : Book) → sound b ≡ true → (k v n top : ℕ) (is : List Item) → top ≤ 4096 → Every (Fits n top) is → Named 12 mandatory_missing (lack_verdict b k v is)
unfolding lack_checks
lack_named b fine k v n top is l a =
    first-named 12 mandatory_missing (lack_checks b k v is)
    (named_append 12 mandatory_missing (level_checks k is 0 0 (listing b v)) (group_checks b k is 0 is) (level_all b fine k is 0 0 v (omega arith)) (groups-named b fine k is 0 n top is l a))
