-- The steps as the code takes them are the steps: the array and the count are seen as the list of open levels. Assumes nothing.
--     settle_view   closing levels          take_view   one element          eat_view   one octet          body_view   the first octet of the elements
use mathlib.Core.Path.{◌≡◌, refl, sym, ap, ◌∙◌}
use mathlib.Core.Bool.{Bool, true, false, cond, ◌&&◌}
use mathlib.Core.List.{List, [], ◌∷◌, ◌++◌}
use Prim.Native.Nat.{ℕ, zero, suc, ◌+◌, ◌-◌, ◌≤◌, ◌<◌}
use native.Mathlib.Omega.{arith}
use native.Mathlib.Numerals.{add-one}
use borrow.Author.Tests.{ltb-true, ltb-false, eqb-true, eqb-false, lt-ltb, le-ltb, eq-eqb, ne_eqb}
use lib.Dec.{eqb, ltb}
use lib.ListN.{length, get_or, set, take, length-set, length-take}
use lib.Seq.{get_or-set_same, get_or-set_other, take-suc-set, take_all}
use Rattle.rules.specs.Framing.{octet, element_header, value_length, length_field, header_length}
use Rattle.rules.specs.Listings.{book}
use Rattle.rules.specs.Standing.{Item, item_of, entered}
use Rattle.rules.specs.Taking.{body_level}
use Rattle.rules.specs.Verdicts.{opening_checks, refuses, first}
use Rattle.rules.specs.Frames.{Element}
use Rattle.taking.specs.Lacks.{lack_of}
use Rattle.taking.specs.Frames.{apns_of}
use Rattle.taking.specs.Held.{held, one, no_counts, closed}
use Rattle.taking.specs.declared.Counts.{Counts}
use Rattle.pieces.specs.declared.Open.{Open}
use Rattle.pieces.specs.declared.Going.{Going}
use Rattle.pieces.specs.Depth.{deepest}
use Rattle.pieces.specs.Drafts.{limited_level, voided, back_to, Draft, draft, plain, back_by, one_draft, is_crowded, shut_draft, draft_rows}
use Rattle.pieces.specs.Steps.{Walking, stopped, going, gathered, onward, opened, settle, proceed, take_one, headed, gather, eat, begin}
use Rattle.pieces.specs.Feeding.{idle, body}
use Rattle.pieces.specs.Coded.{no_open, top_of, with_depth, with_have, stop, closed_by, close_top, close_tops, check_top, settle_top, beyond, into, with_watch, watched_by, placed_by, Fed, fed_with, draft_by, placed, taken_by, take_by, gather_by, pass_one, headed_by, eat_by, idle_by, entry_by, body_by}
use Rattle.pieces.specs.Fits.{Sized, Fits}
use Rattle.pieces.proofs.Fits.{not_three, gather-sized, apns-low, rows-one}

-- the n lowest levels, the innermost first
unfoldable pub stack_of : ℕ → List Open → List Open
stack_of zero fs = []
stack_of (suc n) fs = get_or fs n no_open ∷ stack_of n fs

unfoldable pub walking_of : Going → List ℕ → Walking Draft
walking_of w rows = cond w.stopped (stopped w.place (draft_by w rows)) (going (stack_of w.depth w.levels) w.place (take w.have w.some) w.pass (draft_by w rows))

pub stack_set : (n m : ℕ) (fs : List Open) (f : Open) → n ≤ m → stack_of n (set fs m f) ≡ stack_of n fs
unfolding stack_of
stack_set zero m fs f l = refl
stack_set (suc n) m fs f l = rw (get_or-set_other fs m n f no_open (λ e. absurd (omega arith)), stack_set n m fs f (omega arith))

pub stack-length : (n : ℕ) (fs : List Open) → length (stack_of n fs) ≡ n
unfolding stack_of
stack-length zero fs = refl
stack-length (suc n) fs = ap suc (stack-length n fs)

pub stack_top : (n : ℕ) (fs : List Open) (f : Open) → n < length fs → stack_of (suc n) (set fs n f) ≡ f ∷ stack_of n fs
unfolding stack_of
stack_top n fs f l = rw (get_or-set_same fs n f no_open l, stack_set n n fs f (omega arith))

-- ---- closing levels

module _ (k : ℕ) where
  abbrev settles : List Open → ℕ → List ℕ → ℕ → Draft → Walking Draft
  settles = settle book k Draft one_draft (shut_draft k) draft_rows deepest

  top-is : (w : Going) (d : ℕ) → w.depth ≡ suc d → top_of w ≡ get_or w.levels d no_open
  top-is w d e = let n : w.depth - 1 ≡ d = omega arith in rw n

  stack-none : (w : Going) → w.depth ≡ 0 → stack_of w.depth w.levels ≡ []
  unfolding stack_of
  stack-none w e = ap (λ (n : ℕ). stack_of n w.levels) e

  pub stack_some : (w : Going) (d : ℕ) → w.depth ≡ suc d → stack_of w.depth w.levels ≡ get_or w.levels d no_open ∷ stack_of d w.levels
  unfolding stack_of
  stack_some w d e = ap (λ (n : ℕ). stack_of n w.levels) e

  stay_none : (n : ℕ) (w : Going) → w.depth ≡ 0 → close_tops n k w ≡ w
  unfolding close_tops close_top
  stay_none zero w e = refl
  stay_none (suc n) w e = rw (eq-eqb w.depth 0 e) (stay_none n w e)

  stay-some : (n : ℕ) (w : Going) → eqb w.depth 0 ≡ false → eqb (top_of w).left 0 ≡ false → close_tops n k w ≡ w
  unfolding close_tops close_top
  stay-some zero w e l = refl
  stay-some (suc n) w e l = rw (e, l) (stay-some n w e l)

  -- what is held at the end of the innermost level
  abbrev shut_by : Going → ℕ → List ℕ → Draft
  shut_by w d rows = shut_draft k (draft_by w rows) (get_or w.levels d no_open).level (get_or w.levels d no_open).marks (get_or w.levels d no_open).home

  abbrev shut_counts : Going → ℕ → Counts
  shut_counts w d =
      cond (is_crowded w.limited w.apns) w.back (closed w.counts (lack_of book k (get_or w.levels d no_open).level (get_or w.levels d no_open).marks (get_or w.levels d no_open).home))

  abbrev shut_top : Going → ℕ → Going
  shut_top w d = with_depth w d (shut_counts w d)

  shut_one : (w : Going) (d : ℕ) → w.depth ≡ suc d → (get_or w.levels d no_open).left ≡ 0 → close_top k w ≡ shut_top w d
  unfolding close_top
  shut_one w d e l =
      let n : w.depth - 1 ≡ d = omega arith in
      rw (ne_eqb w.depth 0 (λ z. omega arith), n, eq-eqb (get_or w.levels d no_open).left 0 l)

  -- once no level is watched, rows neither come nor go
  rows_same : (n : ℕ) (w : Going) → w.limited ≡ false → (check_top (close_tops n k w)).counts.rows ≡ w.counts.rows
  unfolding close_tops close_top check_top with_have stop with_depth closed
  rows_same zero w e = go (eqb w.depth 0) (ltb (top_of w).left element_header)
    where
      go : (a c : Bool) → (cond a (with_have w 0) (cond c (stop w) w)).counts.rows ≡ w.counts.rows
      go true c = refl
      go false true = refl
      go false false = refl
  rows_same (suc n) w e = go (eqb w.depth 0) (eqb (top_of w).left 0) (λ v. rows_same n v)
    where
      go : (a c : Bool) → ((v : Going) → v.limited ≡ false → (check_top (close_tops n k v)).counts.rows ≡ v.counts.rows)
          → (check_top (close_tops n k (cond a w (cond c (with_depth w (w.depth - 1) (closed_by k w)) w)))).counts.rows ≡ w.counts.rows
      go true c r = r w e
      go false false r = r w e
      go false true r = r (with_depth w (w.depth - 1) (closed_by k w)) refl ∙ rw e

  abbrev View : Going → Going → List ℕ → Type 0
  View w w' rows =
      walking_of w' (back_to w'.counts.rows w.counts.rows rows) ≡ settles (stack_of w.depth w.levels) w.place (take w.have w.some) w.pass (draft_by w rows)

  -- as many rows as before
  stay-back : (n : ℕ) (rows : List ℕ) → back_to n n rows ≡ rows
  unfolding back_to
  stay-back n rows = rw (le-ltb n n (omega arith))

  none_view : (n : ℕ) (w : Going) (rows : List ℕ) → w.depth ≡ 0 → w.stopped ≡ false → View w (check_top (close_tops n k w)) rows
  unfolding walking_of check_top with_have settle stack_of
  none_view n w rows e r = rw (stay_none n w e, eq-eqb w.depth 0 e, stack-none w e, r, stay-back w.counts.rows rows)

  some_view : (n d : ℕ) (w : Going) (rows : List ℕ) → w.depth ≡ suc d → w.stopped ≡ false → eqb (get_or w.levels d no_open).left 0 ≡ false → View w (check_top (close_tops n k w)) rows
  unfolding walking_of settle stack_of check_top stop
  some_view n d w rows e r z =
      let t = top-is w d e in
      rw (stay-some n w (ne_eqb w.depth 0 (λ y. omega arith)) (rw t z), ne_eqb w.depth 0 (λ y. omega arith), t, stack_some w d e, z)
      (go (ltb (get_or w.levels d no_open).left element_header))
    where
      go : (c : Bool) → walking_of (cond c (stop w) w) (back_to (cond c (stop w) w).counts.rows w.counts.rows rows)
          ≡ cond c (stopped w.place (draft_by w rows)) (going (get_or w.levels d no_open ∷ stack_of d w.levels) w.place (take w.have w.some) w.pass (draft_by w rows))
      go true = rw (stay-back w.counts.rows rows)
      go false = rw (stay-back w.counts.rows rows, r, stack_some w d e)

  -- what goes back goes back at once
  abbrev shut_rows : Going → ℕ → List ℕ → List ℕ
  shut_rows w d rows = back_to (shut_counts w d).rows w.counts.rows rows

  shut-draft : (w : Going) (d : ℕ) (rows : List ℕ) → w.back.rows + w.apns ≤ w.counts.rows → shut_by w d rows ≡ draft_by (shut_top w d) (shut_rows w d rows)
  unfolding shut_draft with_depth back_to closed
  shut-draft w d rows o = go w.limited (ltb 10 w.apns) refl
    where
      l : ℕ
      l = lack_of book k (get_or w.levels d no_open).level (get_or w.levels d no_open).marks (get_or w.levels d no_open).home

      go : (a c : Bool) → ltb 10 w.apns ≡ c
          → cond (a && c) (plain w.back (voided rows w.back.rows w.counts.rows)) (plain (closed w.counts l) rows)
          ≡ plain (cond (a && c) w.back (closed w.counts l))
          (cond (ltb (cond (a && c) w.back (closed w.counts l)).rows w.counts.rows) (voided rows (cond (a && c) w.back (closed w.counts l)).rows w.counts.rows) rows)
      go true true e = let b : 10 < w.apns = ltb-true _ _ e in rw (lt-ltb w.back.rows w.counts.rows (omega arith))
      go true false e = rw (le-ltb w.counts.rows w.counts.rows (omega arith))
      go false c e = rw (le-ltb w.counts.rows w.counts.rows (omega arith))

  shut_view : (n d : ℕ) (w : Going) (rows : List ℕ) → w.back.rows + w.apns ≤ w.counts.rows → w.depth ≡ suc d → w.stopped ≡ false → (get_or w.levels d no_open).left ≡ 0
      → View (shut_top w d) (check_top (close_tops n k (shut_top w d))) (shut_rows w d rows) → View w (check_top (close_tops (suc n) k w)) rows
  unfolding settle stack_of close_tops with_depth
  shut_view n d w rows o e r z v =
      rw (shut_one w d e z, stack_some w d e, eq-eqb (get_or w.levels d no_open).left 0 z, shut-draft w d rows o)
      (rw (rows_same n (shut_top w d) refl) (rw (rows_same n (shut_top w d) refl, stay-back (shut_counts w d).rows (shut_rows w d rows)) at v))

  pub view_by : (n : ℕ) (w : Going) (rows : List ℕ) → w.back.rows + w.apns ≤ w.counts.rows → w.depth ≤ n → w.stopped ≡ false → View w (check_top (close_tops n k w)) rows
  unfolding with_depth
  view_by zero w rows o l r = none_view zero w rows (omega arith) r
  view_by (suc n) w rows o l r =
      go w.depth refl (λ d e. view_by n (shut_top w d) (shut_rows w d rows) (omega arith) (omega arith) r)
    where
      pick : (d : ℕ) → w.depth ≡ suc d → (c : Bool) → eqb (get_or w.levels d no_open).left 0 ≡ c
          → View (shut_top w d) (check_top (close_tops n k (shut_top w d))) (shut_rows w d rows) → View w (check_top (close_tops (suc n) k w)) rows
      pick d e true z v = shut_view n d w rows o e r (eqb-true _ _ z) v
      pick d e false z v = some_view (suc n) d w rows e r z

      go : (d : ℕ) → w.depth ≡ d → ((d : ℕ) → w.depth ≡ suc d → View (shut_top w d) (check_top (close_tops n k (shut_top w d))) (shut_rows w d rows)) → View w (check_top (close_tops (suc n) k w)) rows
      go zero e v = none_view (suc n) w rows e r
      go (suc d) e v = pick d e (eqb (get_or w.levels d no_open).left 0) refl (v d e)

  pub settle_view : (w : Going) (rows : List ℕ) → w.back.rows + w.apns ≤ w.counts.rows → w.depth ≤ deepest → w.stopped ≡ false → View w (settle_top k w) rows
  unfolding settle_top
  settle_view w rows o l r = view_by deepest w rows o l r

  -- ---- one element

  module _ (w : Going) (more rows : List ℕ) (z : Sized k w) (d : ℕ) (e : w.depth ≡ suc d) (few : length more ≤ 1) where
    abbrev h : Element
    h = gathered w.some more

    abbrev f : Open
    f = get_or w.levels d no_open

    abbrev item : Item
    item = item_of book k f.level f.marks f.parent w.place h

    -- what is held after it, but for what is watched
    abbrev c : Counts
    c = (one (held w.counts rows) item).counts

    abbrev rs : List ℕ
    rs = (one (held w.counts rows) item).rows

    abbrev n : ℕ
    n = apns_of h.typ h.inst

    abbrev s : Draft
    s = one_draft (draft_by w rows) item

    rows_next : c.rows ≡ w.counts.rows + 1
    rows_next = rows-one (held w.counts rows) item

    s-none : entered book k f.level f.marks h ≡ 0 → s ≡ draft c rs w.limited (w.apns + n) w.back
    unfolding one_draft item_of one
    s-none e = rw (eq-eqb _ 0 e)

    s-some : (g : ℕ) → entered book k f.level f.marks h ≡ suc g → s ≡ draft c rs (limited_level (suc g)) 0 (back_by w.counts c)
    unfolding one_draft item_of one
    s-some g e = rw (e, ne_eqb (suc g) 0 (λ y. omega arith))

    abbrev on : Open
    on = onward book k f h

    abbrev fs : List Open
    fs = stack_of d w.levels

    top_in : d < length w.levels
    top_in = omega (arith, z.slots, z.deep)

    stack-on : stack_of w.depth (set w.levels (w.depth - 1) on) ≡ on ∷ fs
    stack-on =
        let n : suc d - 1 ≡ d = omega arith in
        ap (λ (j : ℕ). stack_of j (set w.levels (j - 1) on)) e ∙ rw n (stack_top d w.levels on top_in)

    -- whatever is watched
    module _ (limited : Bool) (m : ℕ) (back : Counts) (own : back.rows + m ≤ c.rows) where
      abbrev past : Going
      past = beyond (with_watch w limited m back) on h.len (length more) c

      beyond_view : walking_of (settle_top k past) (back_to (settle_top k past).counts.rows c.rows rs)
          ≡ settles (on ∷ fs) (w.place + element_header + h.len) [] (h.len - length more) (draft c rs limited m back)
      unfolding beyond with_watch
      beyond_view = settle_view past rs own z.deep refl ∙ rw stack-on

    more-there : take (length more) (set w.some 0 (octet more 0)) ≡ more
    more-there = go more w.some few z.bytes
      where
        go : (more some : List ℕ) → length more ≤ 1 → length some ≡ 4 → take (length more) (set some 0 (octet more 0)) ≡ more
        go [] some a b = refl
        go (x ∷ []) [] a b = absurd (omega arith)
        go (x ∷ []) (y ∷ some) a b = refl
        go (x ∷ y ∷ more) some a b = absurd (omega arith)

    stack_in : (inn : Open) → w.depth < deepest → stack_of (w.depth + 1) (set (set w.levels (w.depth - 1) on) w.depth inn) ≡ inn ∷ on ∷ fs
    stack_in inn l =
        let n : suc d - 1 ≡ d = omega arith in
        let p : w.depth + 1 ≡ suc (suc d) = omega arith in
        ap (λ (j : ℕ). stack_of j (set (set w.levels (w.depth - 1) on) w.depth inn)) p
        ∙ ap (λ (j : ℕ). stack_of (suc (suc d)) (set (set w.levels (j - 1) on) j inn)) e
        ∙ rw n (stack_top (suc d) (set w.levels d on) inn (rw (length-set w.levels d on) (omega (arith, z.slots)))
        ∙ ap (λ (t : List Open). inn ∷ t) (stack_top d w.levels on top_in))

    module _ (limited : Bool) (m : ℕ) (back : Counts) (own : back.rows + m ≤ c.rows) (g : ℕ) (l : w.depth < deepest) where
      abbrev within : Going
      within = into (with_watch w limited m back) on g h.len (octet more 0) (length more) c

      into_view : walking_of (settle_top k within) (back_to (settle_top k within).counts.rows c.rows rs)
          ≡ settles (opened g c.rows w.place h.len ∷ on ∷ fs) (w.place + element_header) more 0 (draft c rs limited m back)
      unfolding into with_watch
      into_view = settle_view within rs own (omega arith) refl ∙ rw (stack_in (opened g c.rows w.place h.len) l, more-there)

    depth_is : length (on ∷ fs) ≡ w.depth
    depth_is = ap suc (stack-length d w.levels) ∙ sym e

    -- with the innermost level as the list has it
    abbrev placing : ℕ → Going
    placing g = placed_by (watched_by w g (limited_level g) n c) on g h.len (octet more 0) (length more) c

    abbrev Placed : ℕ → Type 0
    Placed g =
        walking_of (settle_top k (placing g)) (back_to (settle_top k (placing g)).counts.rows c.rows rs)
        ≡ proceed book k Draft one_draft (shut_draft k) draft_rows deepest g on fs w.place h more s

    place_none : entered book k f.level f.marks h ≡ 0 → Placed 0
    unfolding proceed watched_by
    place_none e = rw (s-none e) (beyond_view w.limited (w.apns + n) w.back (omega (arith, z.owns, rows_next, apns-low h.typ h.inst)))

    place-some : (g : ℕ) → entered book k f.level f.marks h ≡ suc g → Placed (suc g)
    unfolding proceed watched_by with_watch
    place-some g e = rw (ne_eqb (suc g) 0 (λ y. omega arith), s-some g e, depth_is) (go (ltb w.depth deepest) refl)
      where
        v : Going
        v = with_watch w (limited_level (suc g)) 0 (back_by w.counts c)

        q : Draft
        q = draft c rs (limited_level (suc g)) 0 (back_by w.counts c)

        go : (a : Bool) → ltb w.depth deepest ≡ a
            → walking_of (settle_top k (cond a (into v on (suc g) h.len (octet more 0) (length more) c) (beyond v on h.len (length more) c)))
            (back_to (settle_top k (cond a (into v on (suc g) h.len (octet more 0) (length more) c) (beyond v on h.len (length more) c))).counts.rows c.rows rs)
            ≡ cond a (settles (opened (suc g) c.rows w.place h.len ∷ on ∷ fs) (w.place + element_header) more 0 q)
            (settles (on ∷ fs) (w.place + element_header + h.len) [] (h.len - length more) q)
        go true a = into_view (limited_level (suc g)) 0 (back_by w.counts c) (omega arith) (suc g) (ltb-true _ _ a)
        go false a = beyond_view (limited_level (suc g)) 0 (back_by w.counts c) (omega arith)

    place_view : (g : ℕ) → entered book k f.level f.marks h ≡ g → Placed g
    place_view zero e = place_none e
    place_view (suc g) e = place-some g e

    pub take_view : walking_of (take_by k w (octet more 0) (length more) rows).going (take_by k w (octet more 0) (length more) rows).rows
        ≡ take_one book k Draft one_draft (shut_draft k) draft_rows deepest f fs w.place h more (draft_by w rows)
    unfolding take_by taken_by placed take_one
    take_view = let j : w.depth - 1 ≡ d = omega arith in rw j (place_view (entered book k f.level f.marks h) refl)

  -- ---- one octet

  four-all : (w : Going) → Sized k w → w.have ≡ 4 → take w.have w.some ≡ w.some
  four-all w z e = take_all w.have w.some (omega (arith, z.bytes))

  stop_view : (w : Going) (rows : List ℕ) → walking_of (stop w) rows ≡ stopped w.place (draft_by w rows)
  unfolding walking_of stop
  stop_view w rows = refl

  -- not stopped, with a level open and nothing to pass over
  pub waits_view : (w : Going) (rows : List ℕ) (d : ℕ) → w.depth ≡ suc d → w.stopped ≡ false → w.pass ≡ 0
      → walking_of w rows ≡ going (get_or w.levels d no_open ∷ stack_of d w.levels) w.place (take w.have w.some) 0 (draft_by w rows)
  unfolding walking_of
  waits_view w rows d e r p = rw (r, stack_some w d e, p)

  -- the header is whole
  module _ (w : Going) (rows : List ℕ) (z : Sized k w) (d : ℕ) (e : w.depth ≡ suc d) (r : w.stopped ≡ false) (n : w.have ≡ 4) (p : w.pass ≡ 0) where
    abbrev top : Open
    top = get_or w.levels d no_open

    headed-by : (a c : Bool)
        → walking_of (cond a (fed_with (stop w) rows) (cond c (take_by k w 0 0 rows) (fed_with w rows))).going (cond a (fed_with (stop w) rows) (cond c (take_by k w 0 0 rows) (fed_with w rows))).rows
        ≡ cond a (stopped w.place (draft_by w rows))
        (cond c (take_one book k Draft one_draft (shut_draft k) draft_rows deepest top (stack_of d w.levels) w.place (gathered w.some []) [] (draft_by w rows))
        (going (top ∷ stack_of d w.levels) w.place w.some 0 (draft_by w rows)))
    headed-by true c = stop_view w rows
    headed-by false true = take_view w [] rows z d e (omega arith)
    headed-by false false = waits_view w rows d e r p ∙ rw (four-all w z n)

    headed_view : walking_of (headed_by k w rows).going (headed_by k w rows).rows
        ≡ headed book k Draft one_draft (shut_draft k) draft_rows deepest top (stack_of d w.levels) w.place w.some (draft_by w rows)
    unfolding headed_by headed
    headed_view = let j : w.depth - 1 ≡ d = omega arith in
        rw j (headed-by (ltb top.left (element_header + value_length w.some)) (eqb (value_length w.some) 0))

  -- one more octet of it
  gather-some : (w : Going) (x : ℕ) → Sized k w → w.have ≤ 3 → take (w.have + 1) (set w.some w.have x) ≡ take w.have w.some ++ (x ∷ [])
  gather-some w x z l = rw (add-one w.have) (take-suc-set w.some w.have x (omega (arith, z.bytes)))

  module _ (w : Going) (x : ℕ) (rows : List ℕ) (z : Fits k w) (d : ℕ) (e : w.depth ≡ suc d) (r : w.stopped ≡ false) (p : w.pass ≡ 0) where
    abbrev stack : List Open
    stack = stack_of d w.levels

    abbrev inner : Open
    inner = get_or w.levels d no_open

    size : length (take w.have w.some) ≡ w.have
    size = simp length-take (omega (arith, z.sized.bytes, z.sized.have))

    fewer_view : w.have ≤ 3 → walking_of (gather_by w x) rows ≡ going (inner ∷ stack) w.place (take w.have w.some ++ (x ∷ [])) 0 (draft_by w rows)
    unfolding gather_by
    fewer_view l = waits_view (gather_by w x) rows d e r p ∙ rw (gather-some w x z.sized l)

    three_view : w.have ≡ 3 → walking_of (headed_by k (gather_by w x) rows).going (headed_by k (gather_by w x) rows).rows
        ≡ headed book k Draft one_draft (shut_draft k) draft_rows deepest inner stack w.place (take w.have w.some ++ (x ∷ [])) (draft_by w rows)
    unfolding gather_by
    three_view n =
        let l : w.have ≤ 3 = omega arith in
        let g = gather-sized k w z.sized x l in
        headed_view (gather_by w x) rows g d e r (omega arith) p
        ∙ ap (λ (q : List ℕ). headed book k Draft one_draft (shut_draft k) draft_rows deepest inner stack w.place q (draft_by w rows))
        (sym (four-all (gather_by w x) g (omega arith)) ∙ gather-some w x z.sized l)

    four_view : w.have ≡ 4 → walking_of (take_by k w x 1 rows).going (take_by k w x 1 rows).rows
        ≡ take_one book k Draft one_draft (shut_draft k) draft_rows deepest inner stack w.place (gathered (take w.have w.some) (x ∷ [])) (x ∷ []) (draft_by w rows)
    four_view n = take_view w (x ∷ []) rows z.sized d e (omega arith) ∙ rw (four-all w z.sized n)

    gather_view : walking_of
        (cond (ltb w.have 3) (fed_with (gather_by w x) rows) (cond (eqb w.have 3) (headed_by k (gather_by w x) rows) (take_by k w x 1 rows))).going
        (cond (ltb w.have 3) (fed_with (gather_by w x) rows) (cond (eqb w.have 3) (headed_by k (gather_by w x) rows) (take_by k w x 1 rows))).rows
        ≡ gather book k Draft one_draft (shut_draft k) draft_rows deepest inner stack w.place (take w.have w.some) (draft_by w rows) x
    unfolding gather
    gather_view = rw size (go (ltb w.have 3) (eqb w.have 3) refl refl)
      where
        go : (a c : Bool) → ltb w.have 3 ≡ a → eqb w.have 3 ≡ c
            → walking_of (cond a (fed_with (gather_by w x) rows) (cond c (headed_by k (gather_by w x) rows) (take_by k w x 1 rows))).going
            (cond a (fed_with (gather_by w x) rows) (cond c (headed_by k (gather_by w x) rows) (take_by k w x 1 rows))).rows
            ≡ cond a (going (inner ∷ stack) w.place (take w.have w.some ++ (x ∷ [])) 0 (draft_by w rows))
            (cond c (headed book k Draft one_draft (shut_draft k) draft_rows deepest inner stack w.place (take w.have w.some ++ (x ∷ [])) (draft_by w rows))
            (take_one book k Draft one_draft (shut_draft k) draft_rows deepest inner stack w.place (gathered (take w.have w.some) (x ∷ [])) (x ∷ []) (draft_by w rows)))
        go true c u v = let l : w.have < 3 = ltb-true _ _ u in fewer_view (omega arith)
        go false true u v = three_view (eqb-true _ _ v)
        go false false u v = four_view (not_three w.have (ltb-false _ _ u) z.sized.have (eqb-false _ _ v))

  abbrev eats : Walking Draft → ℕ → Walking Draft
  eats = eat book k Draft one_draft (shut_draft k) draft_rows deepest

  module _ (w : Going) (rows : List ℕ) where
    stopped_view : w.stopped ≡ true → walking_of w rows ≡ stopped w.place (draft_by w rows)
    unfolding walking_of
    stopped_view r = rw r

    going_view : w.stopped ≡ false → walking_of w rows ≡ going (stack_of w.depth w.levels) w.place (take w.have w.some) w.pass (draft_by w rows)
    unfolding walking_of
    going_view r = rw r

    pass_view : w.stopped ≡ false → (n : ℕ) → w.pass ≡ suc n
        → walking_of (pass_one w) rows ≡ going (stack_of w.depth w.levels) w.place (take w.have w.some) n (draft_by w rows)
    unfolding walking_of pass_one
    pass_view r n p = let q : w.pass - 1 ≡ n = omega arith in rw (r, q)

    module _ (x : ℕ) (z : Fits k w) where
      abbrev Ate : Fed → Type 0
      Ate b = walking_of b.going b.rows ≡ eats (walking_of w rows) x

      ate_stopped : w.stopped ≡ true → Ate (fed_with w rows)
      unfolding eat
      ate_stopped r = stopped_view r ∙ sym (ap (λ (t : Walking Draft). eats t x) (stopped_view r))

      ate_pass : w.stopped ≡ false → (n : ℕ) → w.pass ≡ suc n → Ate (fed_with (pass_one w) rows)
      unfolding eat
      ate_pass r n p =
          pass_view r n p
          ∙ sym (ap (λ (t : Walking Draft). eats t x) (going_view r)
          ∙ ap (λ (j : ℕ). eats (going (stack_of w.depth w.levels) w.place (take w.have w.some) j (draft_by w rows)) x) p)

      ate_none : w.stopped ≡ false → w.pass ≡ 0 → w.depth ≡ 0 → Ate (fed_with w rows)
      unfolding eat
      ate_none r p e =
          let v : walking_of w rows ≡ going [] w.place (take w.have w.some) 0 (draft_by w rows)
          = going_view r ∙ rw (stack-none w e, p) in
          v ∙ sym (ap (λ (t : Walking Draft). eats t x) v)

      ate_some : w.stopped ≡ false → w.pass ≡ 0 → (d : ℕ) → w.depth ≡ suc d
          → Ate (cond (ltb w.have 3) (fed_with (gather_by w x) rows) (cond (eqb w.have 3) (headed_by k (gather_by w x) rows) (take_by k w x 1 rows)))
      unfolding eat
      ate_some r p d e = gather_view w x rows z d e r p ∙ sym (ap (λ (t : Walking Draft). eats t x) (waits_view w rows d e r p))

      pub eat_view : Ate (eat_by k w x rows)
      unfolding eat_by
      eat_view = go w.stopped w.pass w.depth refl refl refl
        where
          go : (a : Bool) (n d : ℕ) → w.stopped ≡ a → w.pass ≡ n → w.depth ≡ d
              → Ate (cond a (fed_with w rows) (cond (ltb 0 n) (fed_with (pass_one w) rows) (cond (eqb d 0) (fed_with w rows)
              (cond (ltb w.have 3) (fed_with (gather_by w x) rows) (cond (eqb w.have 3) (headed_by k (gather_by w x) rows) (take_by k w x 1 rows))))))
          go true n d r p e = ate_stopped r
          go false (suc n) d r p e = rw (lt-ltb 0 (suc n) (omega arith)) (ate_pass r n p)
          go false zero zero r p e = ate_none r p e
          go false zero (suc d) r p e = rw (ne_eqb (suc d) 0 (λ y. omega arith)) (ate_some r p d e)

  -- ---- the first octet of the elements

  -- no row goes back before there is one
  entry-back : (h rows : List ℕ) → back_to (settle_top k (entry_by h)).counts.rows 0 rows ≡ rows
  unfolding settle_top entry_by
  entry-back h rows = ap (λ (n : ℕ). back_to n 0 rows) (rows_same deepest (entry_by h) refl) ∙ stay-back 0 rows

  pub body_view : (h rows : List ℕ) → walking_of (body_by k h) rows ≡ body k h (plain no_counts rows)
  unfolding body_by body begin idle_by entry_by walking_of stack_of
  body_view h rows = go (refuses (first (opening_checks book k h (length_field h + 4))))
    where
      go : (a : Bool) → walking_of (cond a (idle_by no_counts) (settle_top k (entry_by h))) rows
          ≡ cond a (idle k (plain no_counts rows)) (settles (opened (body_level book h) 0 0 (length_field h + 4 - header_length h) ∷ []) (header_length h) [] 0 (plain no_counts rows))
      go true = refl
      go false = ap (walking_of (settle_top k (entry_by h))) (sym (entry-back h rows)) ∙ settle_view (entry_by h) rows (omega arith) (omega arith) refl
