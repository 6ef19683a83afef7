-- One octet at a time comes to what the walk comes to: what is still to come is the same before and after an octet. Assumes nothing.
--     eats      one octet          run_is    all that is owed          begin-is   from the first octet of a run          cut_anywhere   however it is cut
use mathlib.Core.Path.{◌≡◌, refl, sym, ap, ◌∙◌}
use mathlib.Core.Bool.{Bool, true, false, cond, ◌&&◌}
use mathlib.Core.List.{List, [], ◌∷◌, ◌++◌, append_assoc}
use Prim.Native.Nat.{ℕ, zero, suc, ◌+◌, ◌-◌, ◌%◌, ◌≤◌, ◌<◌}
use native.Mathlib.Omega.{arith}
use native.Mathlib.Nat.{pos_of_ne-zero}
use borrow.Author.Tests.{ltb-true, ltb-false, eqb-true, eqb-false, le-leb, lt-leb, lt-ltb}
use lib.Dec.{eqb, ltb, leb}
use lib.ListN.{length, take, drop, length-append, length-take, length-drop, get_or-append}
use lib.Seq.{get_or-take, get_or-append-add, drop-append-add, drop_at}
use Rattle.rules.specs.Framing.{octet, element_header, value_length, no_head, head_of}
use Rattle.rules.specs.Listings.{Book}
use Rattle.rules.specs.Standing.{Item, fresh, item_of, entered}
use Rattle.rules.specs.Taking.{Out, cut, walk}
use Rattle.rules.specs.Met.{At}
use Rattle.rules.specs.Frames.{Element, element, frames_of, value_of, seen}
use Rattle.rules.specs.declared.Head.{Head}
use Rattle.pieces.specs.declared.Open.{Open}
use Rattle.pieces.specs.Steps.{Walking, stopped, going, gathered, onward, opened, settle, proceed, take_one, headed, gather, eat, eat_all, begin, outcome}
use Rattle.pieces.specs.Loose.{loose}
use Rattle.pieces.specs.Depth.{nests}
use Rattle.pieces.proofs.Depth.{nests_in}
use Rattle.pieces.proofs.Rests.{rest, rest-shut, rest-cut, rest-alone, rest-group, after-whole}

-- ---- heads

-- the first four octets are those of the header, whatever follows
module _ (n : ℕ) (xs zs : List ℕ) (four : length xs ≡ 4) (room : 4 ≤ n) where
  octet-there : (j : ℕ) → j < 4 → octet (take n (xs ++ zs)) j ≡ octet xs j
  octet-there j l = rw (get_or-take n (xs ++ zs) j 0 (omega arith), get_or-append xs zs 0 j (omega arith))

  value_there : value_length (take n (xs ++ zs)) ≡ value_length xs
  value_there = rw (octet-there 1 (omega arith), octet-there 2 (omega arith))

-- too little is left for a header
pub remnant_cut : (zs : List ℕ) → length zs < 4 → (seen zs).whole ≡ false
unfolding seen head_of
remnant_cut zs l = rw (lt-leb 4 (length zs) l)

and-false : (a : Bool) (h : Head) → (cond (a && false) h no_head).whole ≡ false
and-false true h = refl
and-false false h = refl

-- the header says more than is left
pub long-cut : (n : ℕ) (xs zs : List ℕ) → length xs ≡ 4 → 4 ≤ n → n ≤ length (xs ++ zs) → n < 4 + value_length xs → (seen (take n (xs ++ zs))).whole ≡ false
unfolding seen head_of
long-cut n xs zs four room l lt =
    let size : length (take n (xs ++ zs)) ≡ n = simp length-take (omega arith) in
    rw (value_there n xs zs four room, size, lt-leb (value_length xs) (n - 4) (omega arith)) (and-false (leb 4 n) _)

-- the element with all that stands inside it
abbrev filled : List ℕ → Element → Element
filled xs h = record { whole = h.whole; typ = h.typ; inst = h.inst; len = h.len; first = h.first; within = frames_of (value_of xs) }

abbrev head_in : List ℕ → List ℕ → Head
head_in xs more = record { whole = true; typ = octet xs 0; inst = octet xs 3 % 16; len = value_length xs; first = octet more 0 }

-- the header and the first value octet
pub head-there : (n : ℕ) (xs more ys : List ℕ) → length xs ≡ 4 → 4 + value_length xs ≤ n → n ≤ length (xs ++ (more ++ ys))
    → (value_length xs ≡ 0 → length more ≡ 0) → (0 < value_length xs → length more ≡ 1) → At (take n (xs ++ (more ++ ys))) (filled (take n (xs ++ (more ++ ys))) (gathered xs more))
unfolding seen head_of
head-there n xs more ys four room l none some = record { is = ap (λ (h : Head). element h (frames_of (value_of (take n (xs ++ zs))))) is; whole = refl }
  where
    zs : List ℕ
    zs = more ++ ys

    size : length (take n (xs ++ zs)) ≡ n
    size = simp length-take (omega arith)

    first_by : (more : List ℕ) → (value_length xs ≡ 0 → length more ≡ 0) → (0 < value_length xs → length more ≡ 1) → (c : Bool) → eqb (value_length xs) 0 ≡ c
        → cond c 0 (octet (xs ++ (more ++ ys)) 4) ≡ octet more 0
    first_by [] u w true e = refl
    first_by (x ∷ more) u w true e = absurd (omega (arith, u (eqb-true _ _ e)))
    first_by [] u w false e = absurd (omega (arith, w (pos_of_ne-zero (eqb-false _ _ e))))
    first_by (x ∷ more) u w false e =
        let p : 4 ≡ length xs + 0 = omega arith in
        rw p (get_or-append-add xs (x ∷ (more ++ ys)) 0 0)

    octet_4 : 0 < value_length xs → octet (take n (xs ++ zs)) 4 ≡ octet (xs ++ zs) 4
    octet_4 p = get_or-take n (xs ++ zs) 4 0 (omega arith)

    first-there : (c : Bool) → eqb (value_length xs) 0 ≡ c → cond c 0 (octet (take n (xs ++ zs)) 4) ≡ cond c 0 (octet (xs ++ zs) 4)
    first-there true e = refl
    first-there false e = octet_4 (pos_of_ne-zero (eqb-false _ _ e))

    is : head_of (take n (xs ++ zs)) ≡ head_in xs more
    is =
        rw (
          size,
          value_there n xs zs four (omega arith),
          le-leb 4 n (omega arith),
          le-leb (value_length xs) (n - 4) (omega arith),
          octet-there n xs zs four (omega arith) 0 (omega arith),
          octet-there n xs zs four (omega arith) 3 (omega arith),
          first-there (eqb (value_length xs) 0) refl,
          first_by more none some (eqb (value_length xs) 0) refl,
        )

-- ---- what holds between two octets

-- the octets that the open levels have left
abbrev pub owed : List Open → ℕ
owed [] = 0
owed (f ∷ fs) = f.left + owed fs

-- an element of the level f waits for more of its header xs, or for its first value octet; n octets are passed over before it
pub record Ready (f : Open) (xs : List ℕ) (n : ℕ) : Type 0 where
  pub least : 4 ≤ f.left
  pub few : length xs ≤ 4
  pub apart : 0 < n → length xs ≡ 0
  pub some : length xs ≡ 4 → 0 < value_length xs
  pub room : length xs ≡ 4 → 4 + value_length xs ≤ f.left

abbrev pub Waits : List Open → List ℕ → ℕ → Type 0
Waits [] xs n = length xs ≡ 0
Waits (f ∷ fs) xs n = Ready f xs n

-- the innermost level nests n deep, the one around it one deeper, and so on
abbrev pub Deep : Book → ℕ → List Open → Type 0
Deep b n [] = Unit {0}
Deep b n (f ∷ fs) = (nests b n f.level ≡ true) × Deep b (suc n) fs

pub record Within (b : Book) (deepest : ℕ) (fs : List Open) : Type 0 where
  pub below : ℕ
  pub sum : below + length fs ≡ suc deepest
  pub deep : Deep b below fs

within-out : (b : Book) (deepest : ℕ) (f : Open) (fs : List Open) → Within b deepest (f ∷ fs) → Within b deepest fs
within-out b deepest f fs w = record { below = suc w.below; sum = omega (arith, w.sum); deep = w.deep.1 }

within_on : (b : Book) (deepest : ℕ) (f f' : Open) (fs : List Open) → f'.level ≡ f.level → Within b deepest (f ∷ fs) → Within b deepest (f' ∷ fs)
within_on b deepest f f' fs e w = record { below = w.below; sum = w.sum; deep = (rw e w.deep.0, w.deep.1) }

-- a level that is entered: there is room for it
module _ (b : Book) (k deepest : ℕ) (f : Open) (fs : List Open) (h : Element) (g : ℕ) (e : entered b k f.level f.marks h ≡ suc g) where
  within_in : (f' : Open) → f'.level ≡ suc g → Within b deepest (f ∷ fs) → (length (f ∷ fs) < deepest) × Within b deepest (f' ∷ f ∷ fs)
  unfolding nests
  within_in f' q w = go w.below w.sum w.deep
    where
      go : (n : ℕ) → n + length (f ∷ fs) ≡ suc deepest → Deep b n (f ∷ fs) → (length (f ∷ fs) < deepest) × Within b deepest (f' ∷ f ∷ fs)
      go zero s d = let z : ◌≡◌ {A = ℕ} 0 1 = cc in absurd (omega arith)
      go (suc zero) s d = let t = nests_in b k 0 f.level f.marks h g d.0 e in let z : ◌≡◌ {A = ℕ} 0 1 = cc in absurd (omega arith)
      go (suc (suc n)) s d =
          (omega arith, record { below = suc n; sum = omega arith; deep = (rw q (nests_in b k (suc n) f.level f.marks h g d.0 e), d) })

module _ (b : Book) (k : ℕ) (S : Type 0) (one : S → Item → S) (shut : S → ℕ → List ℕ → ℕ → S) (number : S → ℕ) (deepest : ℕ) where
  -- what comes of it with the octets that are still to come
  unfoldable pub resume : Walking S → List ℕ → Out S
  resume (stopped q s) ys = cut q s
  resume (going fs at xs n s) ys = rest b k S one shut number fs at (xs ++ drop n ys) s

  -- m octets are still to come
  unfoldable pub Good : Walking S → ℕ → Type 0
  Good (stopped q s) m = Unit {0}
  Good (going fs at xs n s) m = Waits fs xs n × (n + owed fs ≤ length xs + m) × Within b deepest fs

  pub record Comes (w : Walking S) (ys : List ℕ) (o : Out S) : Type 0 where
    pub same : resume w ys ≡ o
    pub good : Good w (length ys)

  -- ---- closing levels

  spare : (n : ℕ) (xs ys : List ℕ) (o : ℕ) → (0 < n → length xs ≡ 0) → n + o ≤ length xs + length ys → n ≤ length ys
  spare zero xs ys o h l = omega arith
  spare (suc n) xs ys o h l = omega (arith, h (omega arith))

  pub settled : (fs : List Open) (at : ℕ) (xs : List ℕ) (n : ℕ) (s : S) (ys : List ℕ) → length xs ≤ 1 → (0 < n → length xs ≡ 0)
      → n + owed fs ≤ length xs + length ys → Within b deepest fs
      → Comes (settle b k S one shut number deepest fs at xs n s) ys (rest b k S one shut number fs at (xs ++ drop n ys) s)
  unfolding settle resume Good rest
  settled [] at xs n s ys hx hn ho hd = record { same = refl; good = (refl, omega (arith, spare n xs ys 0 hn ho), hd) }
  settled (f ∷ fs) at xs n s ys hx hn ho hd =
      go (eqb f.left 0) (ltb f.left element_header) refl refl
      (λ z. settled fs at xs n (shut s f.level f.marks f.home) ys hx hn (omega arith) (within-out b deepest f fs hd))
    where
      enough : f.left ≤ length (xs ++ drop n ys)
      enough = simp (length-append, length-drop) (omega (arith, spare n xs ys (f.left + owed fs) hn ho))

      small : f.left < 4 → length (take f.left (xs ++ drop n ys)) < 4
      small l = simp length-take (omega arith)

      go : (c d : Bool) → eqb f.left 0 ≡ c → ltb f.left element_header ≡ d
          → (f.left ≡ 0 → Comes (settle b k S one shut number deepest fs at xs n (shut s f.level f.marks f.home)) ys
          (rest b k S one shut number fs at (xs ++ drop n ys) (shut s f.level f.marks f.home)))
          → Comes (cond c (settle b k S one shut number deepest fs at xs n (shut s f.level f.marks f.home)) (cond d (stopped at s) (going (f ∷ fs) at xs n s)))
          ys (rest b k S one shut number (f ∷ fs) at (xs ++ drop n ys) s)
      go true d e l r =
          let z : f.left ≡ 0 = eqb-true _ _ e in
          rw (rest-shut b k S one shut number f fs at (xs ++ drop n ys) s z)
          (r z)
      go false true e l r =
          let z = ltb-true _ _ l in
          record {
            same = sym (rest-cut b k S one shut number f fs at (xs ++ drop n ys) s (pos_of_ne-zero (eqb-false _ _ e)) enough (remnant_cut _ (small z)));
            good = tt;
          }
      go false false e l r =
          let z = ltb-false _ _ l in record {
            same = refl;
            good = (record { least = z; few = omega arith; apart = hn; some = λ w. absurd (omega arith); room = λ w. absurd (omega arith) }, ho, hd);
          }

  -- ---- one element

  module _ (f : Open) (fs : List Open) (at : ℕ) (xs more : List ℕ) (s : S) (ys : List ℕ)
      (four : length xs ≡ 4) (room : 4 + value_length xs ≤ f.left)
      (none : value_length xs ≡ 0 → length more ≡ 0) (some : 0 < value_length xs → length more ≡ 1)
      (owes : f.left + owed fs ≤ 4 + (length more + length ys)) (deep : Within b deepest (f ∷ fs)) where
    abbrev zs : List ℕ
    zs = xs ++ (more ++ ys)

    abbrev head : Element
    head = gathered xs more

    abbrev whole-head : Element
    whole-head = filled (take f.left zs) head

    abbrev next : S
    next = one s (item_of b k f.level f.marks f.parent at head)

    few : (c : Bool) → eqb (value_length xs) 0 ≡ c → (length more ≤ 1) × (length more ≤ value_length xs)
    few true e = (omega (arith, none (eqb-true _ _ e)), omega (arith, none (eqb-true _ _ e)))
    few false e = let p = pos_of_ne-zero (eqb-false _ _ e) in (omega (arith, some p), omega (arith, some p))

    abbrev fewer : (length more ≤ 1) × (length more ≤ value_length xs)
    fewer = few (eqb (value_length xs) 0) refl

    stands : At (take f.left zs) whole-head
    stands = head-there f.left xs more ys four room (simp (length-append, length-append) (omega arith)) none some

    value-past : drop (element_header + value_length xs) zs ≡ drop (value_length xs - length more) ys
    value-past =
        let p : element_header + value_length xs ≡ length xs + (length more + (value_length xs - length more)) = omega (arith, fewer) in
        rw p (drop-append-add xs (more ++ ys) (length more + (value_length xs - length more)) ∙ drop-append-add more ys (value_length xs - length more))

    pub passes : entered b k f.level f.marks head ≡ 0
        → Comes (settle b k S one shut number deepest (onward b k f head ∷ fs) (at + element_header + value_length xs) [] (value_length xs - length more) next) ys
        (rest b k S one shut number (f ∷ fs) at zs s)
    passes e =
        rw (rest-alone b k S one shut number f fs at zs s whole-head stands e, value-past)
        (settled (onward b k f head ∷ fs) (at + element_header + value_length xs) [] (value_length xs - length more) next ys (omega arith) (λ z. refl)
        (omega (arith, fewer)) (within_on b deepest f (onward b k f head) fs refl deep))

    pub enters : (g : ℕ) → entered b k f.level f.marks head ≡ suc g
        → Comes (settle b k S one shut number deepest (opened (suc g) (number next) at (value_length xs) ∷ onward b k f head ∷ fs) (at + element_header) more 0 next) ys
        (rest b k S one shut number (f ∷ fs) at zs s)
    enters g e =
        let w = within_in b k deepest f fs head g e (opened (suc g) (number next) at (value_length xs)) refl deep in
        let w' : Within b deepest (opened (suc g) (number next) at (value_length xs) ∷ onward b k f head ∷ fs)
        = record { below = w.1.below; sum = w.1.sum; deep = w.1.deep } in
        rw (rest-group b k S one shut number f fs at zs s whole-head stands g e, drop_at xs (more ++ ys) element_header four)
        (settled (opened (suc g) (number next) at (value_length xs) ∷ onward b k f head ∷ fs) (at + element_header) more 0 next ys fewer.0 (λ z. absurd (omega arith))
        (omega (arith, fewer)) w')

    pub took : Comes (take_one b k S one shut number deepest f fs at head more s) ys (rest b k S one shut number (f ∷ fs) at zs s)
    unfolding take_one proceed
    took = go (entered b k f.level f.marks head) refl
      where
        go : (v : ℕ) → entered b k f.level f.marks head ≡ v
            → Comes (proceed b k S one shut number deepest v (onward b k f head) fs at head more next) ys (rest b k S one shut number (f ∷ fs) at zs s)
        go zero e = passes e
        go (suc g) e =
            let w = within_in b k deepest f fs head g e (opened (suc g) (number next) at (value_length xs)) refl deep in
            rw (lt-ltb (suc (length fs)) deepest w.0) (enters g e)

  -- ---- one octet

  abbrev Gathers : Open → List Open → ℕ → List ℕ → S → ℕ → List ℕ → Walking S → Type 0
  Gathers f fs at xs s x ys w = Comes w ys (rest b k S one shut number (f ∷ fs) at (xs ++ (x ∷ ys)) s)

  module _ (f : Open) (fs : List Open) (at : ℕ) (s : S) (ys : List ℕ) (deep : Within b deepest (f ∷ fs)) where
    -- the header's fourth octet has come
    headed-is : (xs : List ℕ) → length xs ≡ 4 → 4 ≤ f.left → f.left + owed fs ≤ 4 + length ys
        → Comes (headed b k S one shut number deepest f fs at xs s) ys (rest b k S one shut number (f ∷ fs) at (xs ++ ys) s)
    unfolding headed resume Good
    headed-is xs four least owes = go (ltb f.left (element_header + value_length xs)) (eqb (value_length xs) 0) refl refl
      where
        enough : f.left ≤ length (xs ++ ys)
        enough = simp length-append (omega arith)

        go : (c d : Bool) → ltb f.left (element_header + value_length xs) ≡ c → eqb (value_length xs) 0 ≡ d
            → Comes (cond c (stopped at s) (cond d (take_one b k S one shut number deepest f fs at (gathered xs []) [] s) (going (f ∷ fs) at xs 0 s))) ys
            (rest b k S one shut number (f ∷ fs) at (xs ++ ys) s)
        go true d e z =
            let l : f.left < 4 + value_length xs = ltb-true _ _ e in
            record { same = sym (rest-cut b k S one shut number f fs at (xs ++ ys) s (omega arith) enough (long-cut f.left xs ys four least enough l)); good = tt }
        go false true e z =
            let l : 4 + value_length xs ≤ f.left = ltb-false _ _ e in
            let q : value_length xs ≡ 0 = eqb-true _ _ z in
            took f fs at xs [] s ys four l (λ w. refl) (λ w. absurd (omega arith)) (omega arith) deep
        go false false e z =
            let l : 4 + value_length xs ≤ f.left = ltb-false _ _ e in
            let p : 0 < value_length xs = pos_of_ne-zero (eqb-false _ _ z) in
            record { same = refl; good = (record { least = least; few = omega arith; apart = λ w. absurd (omega arith); some = λ w. p; room = λ w. l }, omega arith, deep) }

    gather-is : (xs : List ℕ) (x : ℕ) → Ready f xs 0 → f.left + owed fs ≤ length xs + suc (length ys)
        → Gathers f fs at xs s x ys (gather b k S one shut number deepest f fs at xs s x)
    unfolding gather resume Good
    gather-is xs x r owes = go (ltb (length xs) 3) (eqb (length xs) 3) refl refl
      where
        longer : length (xs ++ (x ∷ [])) ≡ length xs + 1
        longer = length-append xs (x ∷ [])

        go : (c d : Bool) → ltb (length xs) 3 ≡ c → eqb (length xs) 3 ≡ d
            → Gathers f fs at xs s x ys (cond c (going (f ∷ fs) at (xs ++ (x ∷ [])) 0 s)
            (cond d (headed b k S one shut number deepest f fs at (xs ++ (x ∷ [])) s) (take_one b k S one shut number deepest f fs at (gathered xs (x ∷ [])) (x ∷ []) s)))
        go true d e z =
            let l : length xs < 3 = ltb-true _ _ e in
            record {
              same = rw (append_assoc xs (x ∷ []) ys);
              good = (record { least = r.least; few = omega (arith, longer); apart = λ w. absurd (omega arith); some = λ w. absurd (omega (arith, longer)); room = λ w. absurd (omega (arith, longer)) }, omega (arith, longer), deep);
            }
        go false true e z =
            let q : length xs ≡ 3 = eqb-true _ _ z in
            let t = headed-is (xs ++ (x ∷ [])) (omega (arith, longer)) r.least (omega arith) in
            record { same = t.same ∙ rw (append_assoc xs (x ∷ []) ys); good = t.good }
        go false false e z =
            let l : 3 ≤ length xs = ltb-false _ _ e in
            let four : length xs ≡ 4 = not_three (length xs) l r.few (eqb-false _ _ z) in
            took f fs at xs (x ∷ []) s ys four (r.room four) (λ w. absurd (omega (arith, r.some four))) (λ w. refl) (omega arith) deep
          where
            not_three : (n : ℕ) → 3 ≤ n → n ≤ 4 → (n ≡ 3 → ⊥) → n ≡ 4
            not_three n a c d = omega (arith, pos_of_ne-zero {n = n - 3} (λ w. d (omega arith)))

  pub eats : (w : Walking S) (x : ℕ) (ys : List ℕ) → Good w (suc (length ys)) → Comes (eat b k S one shut number deepest w x) ys (resume w (x ∷ ys))
  unfolding eat resume Good rest
  eats (stopped q s) x ys g = record { same = refl; good = tt }
  eats (going [] at xs (suc n) s) x ys g = record { same = refl; good = (g.0, omega (arith, g.1), g.2) }
  eats (going (f ∷ fs) at xs (suc n) s) x ys g =
      let r = g.0 in
      record { same = refl; good = (record { least = r.least; few = r.few; apart = λ z. r.apart (omega arith); some = r.some; room = r.room }, omega (arith, g.1, r.apart (omega arith)), g.2) }
  eats (going [] at xs zero s) x ys g = record { same = refl; good = (g.0, omega arith, g.2) }
  eats (going (f ∷ fs) at xs zero s) x ys g = gather-is f fs at s ys g.2 xs x g.0 (omega (arith, g.1))

  -- ---- all that is owed

  pub run_is : (ys : List ℕ) (w : Walking S) → Good w (length ys) → outcome b k S one shut number deepest (eat_all b k S one shut number deepest w ys) ≡ resume w ys
  unfolding eat_all resume Good rest
  run_is [] (stopped q s) g = refl
  run_is [] (going [] at xs n s) g = refl
  run_is [] (going (f ∷ fs) at xs n s) g =
      let r = g.0 in
      let four : length xs ≡ 4 = omega (arith, g.1, r.least, r.few) in
      absurd (omega (arith, g.1, r.some four, r.room four))
  run_is (x ∷ ys) w g = let t = eats w x ys g in run_is ys (eat b k S one shut number deepest w x) t.good ∙ t.same

  -- a run from its first octet on
  pub begin-is : (v at n : ℕ) (s : S) (ys : List ℕ) → n ≤ length ys → nests b deepest v ≡ true
      → outcome b k S one shut number deepest (eat_all b k S one shut number deepest (begin b k S one shut number deepest v at n s) ys)
      ≡ walk (loose b) k S one shut number v fresh 0 0 at (take n ys) s
  unfolding begin rest
  begin-is v at n s ys l e =
      let t = settled (opened v 0 0 n ∷ []) at [] 0 s ys (omega arith) (λ z. refl) (omega arith) (record { below = deepest; sum = omega arith; deep = (e, tt) }) in
      run_is ys (settle b k S one shut number deepest (opened v 0 0 n ∷ []) at [] 0 s) t.good ∙ t.same
      ∙ after-whole (walk (loose b) k S one shut number v fresh 0 0 at (take n ys) s)

  -- however the octets are cut
  pub cut_anywhere : (w : Walking S) (xs ys : List ℕ) → eat_all b k S one shut number deepest w (xs ++ ys) ≡ eat_all b k S one shut number deepest (eat_all b k S one shut number deepest w xs) ys
  unfolding eat_all
  cut_anywhere w [] ys = refl
  cut_anywhere w (x ∷ xs) ys = cut_anywhere (eat b k S one shut number deepest w x) xs ys
