-- Entering every group as though it were kept, and taking its inside back at its end if it held too much, comes to what the walk of the rules comes to: a
-- level with limits has no group inside, so that its APNs are counted one by one, and no row stands past those counted, so that rows go back without a trace.
-- Assumes nothing.
--     flat-late   the inside of a watched group          late_is   a run of any level
use mathlib.Core.Path.{◌≡◌, refl, sym, ap, ◌∙◌, subst}
use mathlib.Core.Bool.{Bool, true, false, cond, not, ◌&&◌}
use mathlib.Core.List.{List, [], ◌∷◌}
use Prim.Native.Nat.{ℕ, zero, suc, ◌+◌, ◌≤◌, ◌<◌}
use native.Mathlib.Omega.{arith}
use borrow.Author.Tests.{ltb-true, eqb-true, eq-eqb, ne_eqb}
use lib.Dec.{eqb, ltb}
use lib.ListN.{length, take, drop}
use Rattle.rules.specs.Framing.{element_header}
use Rattle.rules.specs.Listings.{book}
use Rattle.rules.specs.Sound.{is_free}
use Rattle.rules.specs.Frames.{Element, seen, frames_of, exceeds}
use Rattle.rules.specs.Standing.{Item, kept, short, void, fresh, value_place, line_number, line_in, is_listed, is_over, standing, marked, entered, item_of}
use Rattle.rules.specs.Taking.{Out, cut, whole, after, walk, inside}
use Rattle.rules.specs.Met.{At}
use Rattle.rules.specs.Late.{blind}
use Rattle.rules.proofs.Book.{book-sound, book-flat}
use Rattle.rules.proofs.Heads.{at-within}
use Rattle.rules.proofs.Walks.{walk_nil, walk-cut, walk_more, in_none, in_some, rest_shorter, inside_shorter}
use Rattle.rules.proofs.Standings.{Case, is_unexpected, is_repeated, is-short, is-kept, is_void, standing_case, entered-kept, entered-inside}
use Rattle.rules.proofs.Covers.{void-over, void-limited, limited-group}
use Rattle.rules.proofs.Late.{Flat, flat-alone, limited-flat, stands-blind, marks-blind, entered-blind, item-blind, void-enters}
use Rattle.taking.specs.Lacks.{fault, lack_of}
use Rattle.taking.specs.Frames.{most_apns, apns_of, crowd_from, crowd}
use Rattle.taking.specs.Held.{Held, held, one, count, counted, short_of, closed, put_row}
use Rattle.taking.specs.declared.Counts.{Counts}
use Rattle.taking.proofs.Crowds.{crowd-none, crowd-cut, crowd-more, over-is}
use Rattle.reading.specs.Scan.{shut, number}
use Rattle.pieces.specs.Drafts.{limited_level, voided, Draft, plain, back_by, one_draft, shut_draft, draft_rows}
use Rattle.pieces.specs.Loose.{loose}
use Rattle.pieces.proofs.Loose.{loose-entered, loose-marked, loose-item}
use Rattle.pieces.proofs.Limits.{limits-watched}
use Rattle.pieces.proofs.Backs.{Clean, clean-put, clean-void, void-one, void-own}

-- ---- what is held on either side

-- nothing is watched, and the counts and rows are the same
pub record Like (s : Draft) (t : Held) : Type 0 where
  pub counts : s.counts ≡ t.counts
  pub rows : s.rows ≡ t.rows
  pub free : s.limited ≡ false
  pub clean : Clean t.counts.rows t.rows

-- a group is watched, and r is what is held without its inside
record Watched (s : Draft) (t r : Held) : Type 0 where
  counts : s.counts ≡ t.counts
  rows : s.rows ≡ t.rows
  limited : s.limited ≡ true
  back : s.back ≡ r.counts
  least : r.counts.rows ≤ t.counts.rows
  goes : voided t.rows r.counts.rows t.counts.rows ≡ r.rows
  clean : Clean t.counts.rows t.rows
  clean_back : Clean r.counts.rows r.rows

abbrev pub Agrees : Out Draft → Out Held → Type 0
Agrees (cut q s) (cut q' t) = q ≡ q'
Agrees (cut q s) (whole t) = ⊥
Agrees (whole s) (cut q t) = ⊥
Agrees (whole s) (whole t) = Like s t

-- at the end of a watched group: c says whether it goes back to r; one that is cut does not
abbrev Ends : Bool → Held → Out Draft → Out Held → Type 0
Ends c r (cut q s) (cut q' t) = (q ≡ q') × (c ≡ false)
Ends c r (cut q s) (whole t) = ⊥
Ends c r (whole s) (cut q t) = ⊥
Ends c r (whole s) (whole t) = Like s (cond c r t)

ends_stay : (r : Held) (a : Out Draft) (b : Out Held) → Ends false r a b → Agrees a b
ends_stay r (cut q s) (cut q' t) e = e.0
ends_stay r (cut q s) (whole t) e = e
ends_stay r (whole s) (cut q t) e = e
ends_stay r (whole s) (whole t) e = e

after-agrees : (a : Out Draft) (b : Out Held) (f : Draft → Out Draft) (g : Held → Out Held) → Agrees a b → ((s : Draft) (t : Held) → Like s t → Agrees (f s) (g t)) → Agrees (after a f) (after b g)
after-agrees (cut q s) (cut q' t) f g e h = e
after-agrees (cut q s) (whole t) f g e h = absurd e
after-agrees (whole s) (cut q t) f g e h = absurd e
after-agrees (whole s) (whole t) f g e h = h s t e

-- it goes back, and is whole then
record Back (a : Out Draft) (r : Held) : Type 0 where
  left : Draft
  is : a ≡ whole left
  like : Like left r

ends-back : (r : Held) (a : Out Draft) (b : Out Held) → Ends true r a b → Back a r
ends-back r (cut q s) (cut q' t) e = let z : ◌≡◌ {A = ℕ} 0 1 = cc in absurd (omega arith)
ends-back r (cut q s) (whole t) e = absurd e
ends-back r (whole s) (cut q t) e = absurd e
ends-back r (whole s) (whole t) e = record { left = s; is = refl; like = e }

-- ---- one element, and the end of a level

-- what is held without the inside of the group i
abbrev without : Held → Item → Held
without t i = held (back_by t.counts (count t.counts i)) (voided (one t i).rows (t.counts.rows + 1) (t.counts.rows + 1))

short_none : (f : ℕ) (must : Bool) (s p t i : ℕ) → eqb s short ≡ false → short_of f must s p t i ≡ f
unfolding short_of
short_none f must s p t i e = rw e (go (eqb f 0) must)
  where
    go : (a c : Bool) → cond (a && c && false) (fault p t i) f ≡ f
    go true true = refl
    go true false = refl
    go false c = refl

-- a void group j is held as the group i without its inside, which was taken for kept
without-void : (t : Held) (i j : Item) → i.stand ≡ kept → j.stand ≡ void → i.parent ≡ j.parent → i.typ ≡ j.typ → i.inst ≡ j.inst → value_place i ≡ value_place j → i.len ≡ j.len
    → without t i ≡ one t j
unfolding one count counted
without-void t i j s s' p y q v l =
    let f = t.counts.short in
    rw (
      short_none f i.must i.stand i.place i.typ i.inst (rw s),
      short_none f j.must j.stand j.place j.typ j.inst (rw s'),
      void-own t.counts.rows t.rows i j s s' p y q v l,
      ne_eqb j.stand kept (λ z. omega (arith, s')),
    )

module _ {s : Draft} {t : Held} (x : Like s t) (i : Item) where
  counts-one : count s.counts i ≡ count t.counts i
  counts-one = ap (λ (c : Counts). count c i) x.counts

  rows-one : put_row s.rows s.counts.rows i ≡ put_row t.rows t.counts.rows i
  rows-one = rw (x.counts, x.rows)

  like_one : i.inside ≡ 0 → Like (one_draft s i) (one t i)
  unfolding one_draft one count counted
  like_one e =
      rw (eq-eqb i.inside 0 e)
      (record { counts = counts-one; rows = rows-one; free = x.free; clean = clean-put t.counts.rows t.rows i x.clean })

  module _ (g : ℕ) (e : i.inside ≡ suc g) where
    like-enter : limited_level (suc g) ≡ false → Like (one_draft s i) (one t i)
    unfolding one_draft one count counted
    like-enter w =
        rw (ne_eqb i.inside 0 (λ z. omega (arith, e)))
        (record { counts = counts-one; rows = rows-one; free = rw e w; clean = clean-put t.counts.rows t.rows i x.clean })

    watch-enter : limited_level (suc g) ≡ true → Watched (one_draft s i) (one t i) (without t i)
    unfolding one_draft one count counted
    watch-enter w =
        rw (ne_eqb i.inside 0 (λ z. omega (arith, e)))
        (record {
          counts = counts-one;
          rows = rows-one;
          limited = rw e w;
          back = rw x.counts;
          least = omega arith;
          goes = refl;
          clean = clean-put t.counts.rows t.rows i x.clean;
          clean_back = clean-void (t.counts.rows + 1) (put_row t.rows t.counts.rows i) (clean-put t.counts.rows t.rows i x.clean);
        })

    no_apns : (one_draft s i).apns ≡ 0
    unfolding one_draft
    no_apns = rw (ne_eqb i.inside 0 (λ z. omega (arith, e)))

module _ {s : Draft} {t r : Held} (x : Watched s t r) (i : Item) (e : i.inside ≡ 0) where
  watched-one : Watched (one_draft s i) (one t i) r
  unfolding one_draft one count counted
  watched-one =
      rw (eq-eqb i.inside 0 e)
      (record {
        counts = ap (λ (c : Counts). count c i) x.counts;
        rows = rw (x.counts, x.rows);
        limited = x.limited;
        back = x.back;
        least = omega (arith, x.least);
        goes = void-one t.counts.rows t.rows i r.counts.rows x.least x.clean ∙ x.goes;
        clean = clean-put t.counts.rows t.rows i x.clean;
        clean_back = x.clean_back;
      })

  one-apns : (one_draft s i).apns ≡ s.apns + apns_of i.typ i.inst
  unfolding one_draft
  one-apns = rw (eq-eqb i.inside 0 e)

module _ (k v : ℕ) (m : List ℕ) (o : ℕ) {s : Draft} {t : Held} where
  like-shut : Like s t → Like (shut_draft k s v m o) (shut k t v m o)
  unfolding shut_draft shut closed
  like-shut x = rw x.free (record { counts = rw x.counts; rows = x.rows; free = refl; clean = record { none = x.clean.none } })

  watched-shut : {r : Held} → Watched s t r → Like (shut_draft k s v m o) (cond (ltb most_apns s.apns) r (shut k t v m o))
  unfolding shut_draft shut closed
  watched-shut {r} x = rw x.limited (go (ltb most_apns s.apns))
    where
      go : (c : Bool) → Like (cond c (plain s.back (voided s.rows s.back.rows s.counts.rows)) (plain (closed s.counts (lack_of book k v m o)) s.rows))
          (cond c r (held (closed t.counts (lack_of book k v m o)) t.rows))
      go true = record { counts = x.back; rows = rw (x.rows, x.back, x.counts) x.goes; free = refl; clean = x.clean_back }
      go false = record { counts = rw x.counts; rows = x.rows; free = refl; clean = record { none = x.clean.none } }

-- ---- counting

crowds : (xs : List ℕ) (n : ℕ) → 0 < length xs → (seen xs).whole ≡ true → crowd_from n xs ≡ crowd_from (n + apns_of (seen xs).typ (seen xs).inst) (drop (element_header + (seen xs).len) xs)
unfolding seen
crowds xs n pos w = crowd-more n xs pos w

whole-crowd : (xs : List ℕ) → crowd_from 0 xs ≡ crowd xs
unfolding crowd
whole-crowd xs = refl

cut-crowd : (xs : List ℕ) (n : ℕ) → 0 < length xs → (seen xs).whole ≡ false → crowd_from n xs ≡ false
unfolding seen
cut-crowd xs n pos w = crowd-cut n xs pos w

items-apns : (k v : ℕ) (m : List ℕ) (p at : ℕ) (h : Element) (n : ℕ) → n + apns_of (item_of book k v m p at h).typ (item_of book k v m p at h).inst ≡ n + apns_of h.typ h.inst
unfolding item_of
items-apns k v m p at h n = refl

-- ---- a walk on either side

module _ (k : ℕ) where
  abbrev drafts : ℕ → List ℕ → ℕ → ℕ → ℕ → List ℕ → Draft → Out Draft
  drafts = walk (loose book) k Draft one_draft (shut_draft k) draft_rows

  abbrev holds : ℕ → List ℕ → ℕ → ℕ → ℕ → List ℕ → Held → Out Held
  holds = walk book k Held one (shut k) number

  abbrev drafts_in : ℕ → ℕ → List ℕ → Draft → Out Draft
  drafts_in = inside (loose book) k Draft one_draft (shut_draft k) draft_rows

  abbrev holds_in : ℕ → ℕ → List ℕ → Held → Out Held
  holds_in = inside book k Held one (shut k) number

  module _ (v : ℕ) (m : List ℕ) (p o at : ℕ) {xs : List ℕ} (h : Element) (a : At xs h) (pos : 0 < length xs) where
    abbrev value : List ℕ
    value = take h.len (drop element_header xs)

    abbrev behind : List ℕ
    behind = drop (element_header + h.len) xs

    abbrev on : Draft → Out Draft
    on s = drafts v (marked book k v m h) p o (at + element_header + h.len) behind s

    abbrev onward : Held → Out Held
    onward t = holds v (marked book k v m h) p o (at + element_header + h.len) behind t

    -- the element before its inside is there, and as it is
    abbrev early : Item
    early = item_of book k v m p at (blind h)

    abbrev item : Item
    item = item_of book k v m p at h

    more-drafts : (s : Draft) → drafts v m p o at xs s ≡ after (drafts_in (entered book k v m (blind h)) at value (one_draft s early)) (λ t. on t)
    more-drafts s =
        walk_more (loose book) k Draft one_draft (shut_draft k) draft_rows v m p o at xs s pos (rw a.is a.whole)
        ∙ rw (a.is, loose-entered book k v h m, loose-item book k v h m p at, loose-marked book k v h m, marks-blind book k v m h)

    more-holds : (t : Held) → holds v m p o at xs t ≡ after (holds_in (entered book k v m h) at value (one t item)) (λ r. onward r)
    more-holds t = walk_more book k Held one (shut k) number v m p o at xs t pos (rw a.is a.whole) ∙ rw a.is

    inside_is : item.inside ≡ entered book k v m h
    unfolding item_of
    inside_is = refl

    early-is : early.inside ≡ entered book k v m (blind h)
    unfolding item_of
    early-is = refl

  -- ---- the inside of a watched group: no group stands in it

  module _ (v : ℕ) (f : Flat book v) where
    flat-kept : (m : List ℕ) (h : Element) → eqb (standing book k v m h) void ≡ false
    flat-kept m h = ne_eqb (standing book k v m h) void (λ z.
        let w = void-enters book book-sound book-flat k v m h z in
        omega (arith, w.1, flat-alone book k v m (blind h) f))

    abbrev Under : ℕ → Type 0
    Under n =
        (m : List ℕ) (p o at : ℕ) (xs : List ℕ) (s : Draft) (t r : Held) → length xs ≤ n → Watched s t r
        → Ends (crowd_from s.apns xs) r (drafts v m p o at xs s) (holds v m p o at xs t)

    -- an element of it
    flat-more : (n : ℕ) → Under n → (m : List ℕ) (p o at : ℕ) (xs : List ℕ) (s : Draft) (t r : Held) → length xs ≤ suc n → 0 < length xs → (seen xs).whole ≡ true → Watched s t r
        → Ends (crowd_from s.apns xs) r (drafts v m p o at xs s) (holds v m p o at xs t)
    flat-more n rec m p o at xs s t r l pos w x =
        let h = seen xs in
        let a : At xs h = record { is = refl; whole = w } in
        let i = item_of book k v m p at h in
        let b : entered book k v m (blind h) ≡ 0 = flat-alone book k v m (blind h) f in
        let e : entered book k v m h ≡ 0 = flat-alone book k v m h f in
        let same : item_of book k v m p at (blind h) ≡ i = item-blind book k v m h (flat-kept m h) p at in
        let left : drafts v m p o at xs s ≡ on v m p o at h a pos (one_draft s i)
        = more-drafts v m p o at h a pos s ∙ rw (b, in_none (loose book) k Draft one_draft (shut_draft k) draft_rows at (value v m p o at h a pos) (one_draft s (item_of book k v m p at (blind h))), same) in
        let right : holds v m p o at xs t ≡ onward v m p o at h a pos (one t i)
        = more-holds v m p o at h a pos t ∙ rw (e, in_none book k Held one (shut k) number at (value v m p o at h a pos) (one t i)) in
        let z : i.inside ≡ 0 = inside_is v m p o at h a pos ∙ e in
        let c : crowd_from s.apns xs ≡ crowd_from (one_draft s i).apns (drop (element_header + h.len) xs)
        = crowds xs s.apns pos w ∙ ap (λ (q : ℕ). crowd_from q (drop (element_header + h.len) xs)) (sym (one-apns x i z ∙ items-apns k v m p at h s.apns)) in
        rw (left, right, c)
        (rec (marked book k v m h) p o (at + element_header + h.len) (drop (element_header + h.len) xs) (one_draft s i) (one t i) r
        (omega (arith, rest_shorter h.len xs pos)) (watched-one x i z))

    flat-none : (m : List ℕ) (p o at : ℕ) (s : Draft) (t r : Held) → Watched s t r → Ends (crowd_from s.apns []) r (drafts v m p o at [] s) (holds v m p o at [] t)
    flat-none m p o at s t r x =
        rw (walk_nil (loose book) k Draft one_draft (shut_draft k) draft_rows v m p o at [] s refl, walk_nil book k Held one (shut k) number v m p o at [] t refl, crowd-none s.apns [] refl)
        (watched-shut k v m o x)

    flat-by : (n : ℕ) → Under n
    flat-by zero m p o at [] s t r l x = flat-none m p o at s t r x
    flat-by (suc n) m p o at [] s t r l x = flat-none m p o at s t r x
    flat-by zero m p o at (y ∷ ys) s t r l x = absurd (omega arith)
    flat-by (suc n) m p o at (y ∷ ys) s t r l x =
        go (seen (y ∷ ys)).whole refl (λ w. flat-more n (λ m' p' o' at' xs' s' t' r' l' x'. flat-by n m' p' o' at' xs' s' t' r' l' x') m p o at (y ∷ ys) s t r l (omega arith) w x)
      where
        go : (c : Bool) → (seen (y ∷ ys)).whole ≡ c → ((seen (y ∷ ys)).whole ≡ true → Ends (crowd_from s.apns (y ∷ ys)) r (drafts v m p o at (y ∷ ys) s) (holds v m p o at (y ∷ ys) t))
            → Ends (crowd_from s.apns (y ∷ ys)) r (drafts v m p o at (y ∷ ys) s) (holds v m p o at (y ∷ ys) t)
        go true w more = more w
        go false w more =
            rw (walk-cut (loose book) k Draft one_draft (shut_draft k) draft_rows v m p o at (y ∷ ys) s (omega arith) w, walk-cut book k Held one (shut k) number v m p o at (y ∷ ys) t (omega arith) w)
            (refl, cut-crowd (y ∷ ys) s.apns (omega arith) w)

    flat-late : (m : List ℕ) (p o at : ℕ) (xs : List ℕ) (s : Draft) (t r : Held) → Watched s t r → Ends (crowd_from s.apns xs) r (drafts v m p o at xs s) (holds v m p o at xs t)
    flat-late m p o at xs s t r x = flat-by (length xs) m p o at xs s t r (omega arith) x

  -- ---- a run of any level

  -- the value of an element with limits holds too much where the rules say so
  crowd-is : (v : ℕ) (m : List ℕ) {xs : List ℕ} (h : Element) → At xs h → is_listed book k v h ≡ true → is_free (line_in book k v h) ≡ false
      → crowd (take h.len (drop element_header xs)) ≡ is_over book k v h
  crowd-is v m {xs} h a y e =
      let o : not (is_free (line_in book k v h)) && crowd (take h.len (drop element_header xs)) ≡ exceeds (line_in book k v h).limits (frames_of (take h.len (drop element_header xs)))
      = over-is v (line_number book k v h) (ltb-true _ _ y) (take h.len (drop element_header xs)) in
      (rw e at o) ∙ ap (exceeds (line_in book k v h).limits) (sym (at-within a))

  -- a group that is entered early, and whether it is watched
  watched-is : (v : ℕ) (m : List ℕ) (h : Element) (g : ℕ) → entered book k v m (blind h) ≡ suc g → limited_level (suc g) ≡ not (is_free (line_in book k v h))
  watched-is v m h g e =
      let w = limits-watched k v m (blind h) (λ z. omega (arith, e)) in
      let s : standing book k v m (blind h) ≡ kept = entered-kept book k v m (blind h) (omega (arith, e)) in
      ap limited_level (sym e) ∙ sym w ∙ rw (eq-eqb (standing book k v m (blind h)) kept s)

  kept_under : (v : ℕ) (m : List ℕ) (h : Element) (s : ℕ) → Case book k v m h s → s ≡ kept → (is_over book k v h ≡ false)
  kept_under v m h s (is_unexpected a) z = absurd (omega arith)
  kept_under v m h s (is_repeated a c d) z = absurd (omega arith)
  kept_under v m h s (is-short a c d) z = absurd (omega arith)
  kept_under v m h s (is-kept a c d o) z = o
  kept_under v m h s (is_void a c d o) z = absurd (omega arith)

  -- what is held of a void group: nothing of its inside
  without_is : (v : ℕ) (m : List ℕ) (p at : ℕ) (h : Element) (t : Held) → standing book k v m h ≡ void → standing book k v m (blind h) ≡ kept
      → without t (item_of book k v m p at (blind h)) ≡ one t (item_of book k v m p at h)
  unfolding item_of
  without_is v m p at h t z y = without-void t (item_of book k v m p at (blind h)) (item_of book k v m p at h) y z refl refl refl refl refl

  abbrev Below : ℕ → Type 0
  Below n =
      (v : ℕ) (m : List ℕ) (p o at : ℕ) (xs : List ℕ) (s : Draft) (t : Held) → length xs ≤ n → Like s t → Agrees (drafts v m p o at xs s) (holds v m p o at xs t)

  module _ (n : ℕ) (rec : Below n) (v : ℕ) (m : List ℕ) (p o at : ℕ) (xs : List ℕ) (s : Draft) (t : Held) (l : length xs ≤ suc n) (pos : 0 < length xs) (w : (seen xs).whole ≡ true) (x : Like s t) where
    abbrev here : Element
    here = seen xs

    stands : At xs here
    stands = record { is = refl; whole = w }

    abbrev own : List ℕ
    own = take here.len (drop element_header xs)

    abbrev rest : List ℕ
    rest = drop (element_header + here.len) xs

    abbrev next : ℕ
    next = at + element_header + here.len

    -- what follows the element
    goes_on : (a : Draft) (b : Held) → Like a b → Agrees (drafts v (marked book k v m here) p o next rest a) (holds v (marked book k v m here) p o next rest b)
    goes_on a b y = rec v (marked book k v m here) p o next rest a b (omega (arith, rest_shorter here.len xs pos)) y

    abbrev it : Item
    it = item_of book k v m p at here

    abbrev soon : Item
    soon = item_of book k v m p at (blind here)

    soon-inside : soon.inside ≡ entered book k v m (blind here)
    soon-inside = early-is v m p o at here stands pos

    -- a group that is entered early and watched: its inside, and whether it goes back
    module _ (g : ℕ) (e : entered book k v m (blind here) ≡ suc g) (lim : is_free (line_in book k v here) ≡ false) where
      watch : limited_level (suc g) ≡ true
      watch = watched-is v m here g e ∙ rw lim

      flat : Flat book (suc g)
      flat =
          let s : standing book k v m (blind here) ≡ kept = entered-kept book k v m (blind here) (omega (arith, e)) in
          let i : (line_in book k v here).inside ≡ suc g = sym (entered-inside book k v m (blind here) s) ∙ e in
          rw i at (limited-flat book book-sound book-flat k v here lim)

      abbrev after-it : Draft
      after-it = one_draft s soon

      under : Ends (is_over book k v here) (without t soon) (drafts_in (suc g) at own after-it)
          (holds (suc g) fresh (draft_rows after-it) at (at + element_header) own (one t soon))
      under =
          let i = soon-inside ∙ e in
          let c : crowd_from after-it.apns own ≡ is_over book k v here = rw (no_apns x soon g i) (whole-crowd own ∙ crowd-is v m here stands (limited-group book book-sound k v here lim).0 lim) in
          rw (in_some (loose book) k Draft one_draft (shut_draft k) draft_rows g at own after-it, ← c)
          (flat-late (suc g) flat fresh (draft_rows after-it) at (at + element_header) own after-it (one t soon) (without t soon) (watch-enter x soon g i watch))

    by-void : standing book k v m here ≡ void → Agrees (drafts v m p o at xs s) (holds v m p o at xs t)
    by-void z =
        let e = void-enters book book-sound book-flat k v m here z in
        let lim : is_free (line_in book k v here) ≡ false = void-limited book book-sound k v m here z in
        let y : standing book k v m (blind here) ≡ kept = stands-blind book k v m here ∙ rw z in
        let c : is_over book k v here ≡ true = void-over book book-sound k v m here z in
        let u = ends-back (without t soon) (drafts_in (suc e.0) at own (one_draft s soon)) _ (rw c at (under e.0 e.1 lim)) in
        let left : drafts v m p o at xs s ≡ drafts v (marked book k v m here) p o next rest u.left
        = more-drafts v m p o at here stands pos s
        ∙ ap (λ (q : ℕ). after (drafts_in q at own (one_draft s soon)) (λ a. drafts v (marked book k v m here) p o next rest a)) e.1
        ∙ ap (λ (q : Out Draft). after q (λ a. drafts v (marked book k v m here) p o next rest a)) u.is in
        let right : holds v m p o at xs t ≡ holds v (marked book k v m here) p o next rest (one t it)
        = more-holds v m p o at here stands pos t ∙ rw (e.3, in_none book k Held one (shut k) number at own (one t it)) in
        rw (left, right) (goes_on u.left (one t it) (subst (λ (q : Held). Like u.left q) (without_is v m p at here t z y) u.like))

    module _ (z : eqb (standing book k v m here) void ≡ false) where
      same_item : soon ≡ it
      same_item = item-blind book k v m here z p at

      same-level : entered book k v m (blind here) ≡ entered book k v m here
      same-level = entered-blind book k v m here z

      it-inside : it.inside ≡ entered book k v m here
      it-inside = inside_is v m p o at here stands pos

      by-alone : entered book k v m here ≡ 0 → Agrees (drafts v m p o at xs s) (holds v m p o at xs t)
      by-alone e =
          let left : drafts v m p o at xs s ≡ drafts v (marked book k v m here) p o next rest (one_draft s it)
          = more-drafts v m p o at here stands pos s ∙ rw (same-level, e, in_none (loose book) k Draft one_draft (shut_draft k) draft_rows at own (one_draft s soon), same_item) in
          let right : holds v m p o at xs t ≡ holds v (marked book k v m here) p o next rest (one t it)
          = more-holds v m p o at here stands pos t ∙ rw (e, in_none book k Held one (shut k) number at own (one t it)) in
          rw (left, right) (goes_on (one_draft s it) (one t it) (like_one x it (it-inside ∙ e)))

      module _ (g : ℕ) (e : entered book k v m here ≡ suc g) where
        left_in : drafts v m p o at xs s ≡ after (drafts_in (suc g) at own (one_draft s it)) (λ a. drafts v (marked book k v m here) p o next rest a)
        left_in = more-drafts v m p o at here stands pos s ∙ rw (same-level, e, same_item)

        right-in : holds v m p o at xs t
            ≡ after (holds (suc g) fresh (number (one t it)) at (at + element_header) own (one t it)) (λ b. holds v (marked book k v m here) p o next rest b)
        right-in = more-holds v m p o at here stands pos t ∙ rw (e, in_some book k Held one (shut k) number g at own (one t it))

        -- the inside agrees, so all does
        both : Agrees (drafts_in (suc g) at own (one_draft s it)) (holds (suc g) fresh (number (one t it)) at (at + element_header) own (one t it))
            → Agrees (drafts v m p o at xs s) (holds v m p o at xs t)
        both y =
            rw (left_in, right-in)
            (after-agrees (drafts_in (suc g) at own (one_draft s it)) (holds (suc g) fresh (number (one t it)) at (at + element_header) own (one t it))
            (λ a. drafts v (marked book k v m here) p o next rest a) (λ b. holds v (marked book k v m here) p o next rest b) y goes_on)

        by-plain : is_free (line_in book k v here) ≡ true → Agrees (drafts v m p o at xs s) (holds v m p o at xs t)
        by-plain free =
            let q : limited_level (suc g) ≡ false = watched-is v m here g (same-level ∙ e) ∙ rw free in
            let y = like-enter x it g (it-inside ∙ e) q in
            let c : draft_rows (one_draft s it) ≡ number (one t it) = ap (λ (d : Counts). d.rows) y.counts in
            both
            (rw (in_some (loose book) k Draft one_draft (shut_draft k) draft_rows g at own (one_draft s it))
            (subst (λ (q : ℕ). Agrees (drafts (suc g) fresh (draft_rows (one_draft s it)) at (at + element_header) own (one_draft s it)) (holds (suc g) fresh q at (at + element_header) own (one t it))) c
            (rec (suc g) fresh (draft_rows (one_draft s it)) at (at + element_header) own (one_draft s it) (one t it) (omega (arith, inside_shorter here.len xs pos)) y)))

        by-watched : is_free (line_in book k v here) ≡ false → Agrees (drafts v m p o at xs s) (holds v m p o at xs t)
        by-watched lim =
            let k' : standing book k v m here ≡ kept = entered-kept book k v m here (omega (arith, e)) in
            let c : is_over book k v here ≡ false = kept_under v m here (standing book k v m here) (standing_case book k v m here) k' in
            let u = ends_stay (without t soon) (drafts_in (suc g) at own (one_draft s soon)) _ (rw c at (under g (same-level ∙ e) lim)) in
            let u' : Agrees (drafts_in (suc g) at own (one_draft s it)) (holds (suc g) fresh (draft_rows (one_draft s it)) at (at + element_header) own (one t it)) = rw same_item at u in
            let r : draft_rows (one_draft s it) ≡ number (one t it)
            = ap (λ (d : Counts). d.rows) (watch-enter x it g (it-inside ∙ e) (watch g (same-level ∙ e) lim)).counts in
            both (subst (λ (q : ℕ). Agrees (drafts_in (suc g) at own (one_draft s it)) (holds (suc g) fresh q at (at + element_header) own (one t it))) r u')

        by-group : (c : Bool) → is_free (line_in book k v here) ≡ c → Agrees (drafts v m p o at xs s) (holds v m p o at xs t)
        by-group true e = by-plain e
        by-group false e = by-watched e

      by_level : (g : ℕ) → entered book k v m here ≡ g → Agrees (drafts v m p o at xs s) (holds v m p o at xs t)
      by_level zero e = by-alone e
      by_level (suc g) e = by-group g e (is_free (line_in book k v here)) refl

    one-turn : (c : Bool) → eqb (standing book k v m here) void ≡ c → Agrees (drafts v m p o at xs s) (holds v m p o at xs t)
    one-turn true z = by-void (eqb-true _ _ z)
    one-turn false z = by_level z (entered book k v m here) refl

  late-none : (v : ℕ) (m : List ℕ) (p o at : ℕ) (s : Draft) (t : Held) → Like s t → Agrees (drafts v m p o at [] s) (holds v m p o at [] t)
  late-none v m p o at s t x =
      rw (walk_nil (loose book) k Draft one_draft (shut_draft k) draft_rows v m p o at [] s refl, walk_nil book k Held one (shut k) number v m p o at [] t refl)
      (like-shut k v m o x)

  late_by : (n : ℕ) → Below n
  late_by zero v m p o at [] s t l x = late-none v m p o at s t x
  late_by (suc n) v m p o at [] s t l x = late-none v m p o at s t x
  late_by zero v m p o at (y ∷ ys) s t l x = absurd (omega arith)
  late_by (suc n) v m p o at (y ∷ ys) s t l x =
      go (seen (y ∷ ys)).whole refl
      (λ w. one-turn n (λ v' m' p' o' at' xs' s' t' l' x'. late_by n v' m' p' o' at' xs' s' t' l' x') v m p o at (y ∷ ys) s t l (omega arith) w x (eqb (standing book k v m (seen (y ∷ ys))) void) refl)
    where
      go : (c : Bool) → (seen (y ∷ ys)).whole ≡ c → ((seen (y ∷ ys)).whole ≡ true → Agrees (drafts v m p o at (y ∷ ys) s) (holds v m p o at (y ∷ ys) t))
          → Agrees (drafts v m p o at (y ∷ ys) s) (holds v m p o at (y ∷ ys) t)
      go true w more = more w
      go false w more =
          rw (walk-cut (loose book) k Draft one_draft (shut_draft k) draft_rows v m p o at (y ∷ ys) s (omega arith) w, walk-cut book k Held one (shut k) number v m p o at (y ∷ ys) t (omega arith) w)
          refl

  pub late_is : (v : ℕ) (m : List ℕ) (p o at : ℕ) (xs : List ℕ) (s : Draft) (t : Held) → Like s t → Agrees (drafts v m p o at xs s) (holds v m p o at xs t)
  late_is v m p o at xs s t x = late_by (length xs) v m p o at xs s t (omega arith) x
