-- From what IsCut says, the derivation that the message is cut at q. The walk goes on as in Rebuilding while it stands before q; a group that ends by q
-- is whole, one that q stands in is entered; and where the walk comes to q, it stands at the level that is cut there. Assumes nothing.
use mathlib.Core.Path.{◌≡◌, refl, ap, subst, ◌∙◌}
use mathlib.Core.Logic.{◌⊎◌, inl, inr, ◌≢◌}
use mathlib.Core.Bool.{Bool, true, false}
use mathlib.Core.List.{List}
use Prim.Native.Nat.{ℕ, zero, suc, ◌+◌, ◌-◌, ◌≤◌, ◌<◌}
use native.Mathlib.Omega.{arith}
use native.Mathlib.Decide.{dec_lt, ℕ_discrete}
use lib.ListN.{length, take, drop}
use Rattle.rules.specs.Framing.{octet, two_octets, element_header, value_length, head_of, header_length}
use Rattle.rules.specs.Listings.{Book}
use Rattle.rules.specs.Standing.{fresh, marked, entered}
use Rattle.rules.specs.Taking.{body_level}
use Rattle.rules.specs.Met.{CutAt, here, later, within, behind}
use Rattle.rules.specs.Sound.{sound}
use Rattle.rules.specs.Frames.{seen}
use Rattle.rules.specs.Values.{row_parent, row_place}
use Rattle.rules.proofs.Heads.{head-room}
use Rattle.rules.proofs.Walks.{inside_shorter, rest_shorter}
use Rattle.tables.specs.Words.{rows, row_start, row_end, RowOver, IsLevel, level_from, level_to}
use Rattle.tables.specs.IsTable.{IsRows}
use Rattle.verdicts.specs.IsCut.{CutHere, IsCut}
use Rattle.tables.proofs.Faithful.{sub-octet}
use Rattle.tables.proofs.Trees.{start_is, backward, in_row, laminar, inner, past, in_message}
use Rattle.verdicts.proofs.Rebuilding.{whole_element, Ready, Built, build, the_place, not-level, group-here, alone-ready, inside-ready, inner-parent, group-ready}
use Rattle.verdicts.proofs.Rebuilding.{here as row_at}
use Rattle.verdicts.proofs.Body.{in_body, body-ready}

module _ (b : Book) (fine : sound b ≡ true) (k : ℕ) (m t : List ℕ) (q : ℕ) (c : IsCut b k m t q) where
  abbrev x : IsRows b k m t
  x = c.right

  -- ---- rows over q

  abbrev Climb : ℕ → ℕ → Type 0
  Climb p f = (d : ℕ) → d < f → p ≤ d → d < rows t → row_start t d ≤ q → q < row_end t d → (r : ℕ) × RowOver t p q r

  climb-step : (p : ℕ) → q < level_to m t p → (f : ℕ) → Climb p f → (d : ℕ) → d < suc f → p ≤ d → d < rows t → row_start t d ≤ q → q < row_end t d
      → (o : ℕ) → row_parent t d ≡ o → Dec (o ≡ p) → Dec (p < o) → (r : ℕ) × RowOver t p q r
  climb-step p top f rec d h l there a e o w (yes z) u = (d, record { there = there; parent = w ∙ z; begins = a; ends = e })
  climb-step p top f rec d h l there a e zero w (no z) (yes u) = absurd (omega arith)
  climb-step p top f rec d h l there a e (suc o) w (no z) (yes u) =
      let back : suc o ≤ d = rw w at (backward b k m t x d there) in
      let i = in_row b k m t x d o there w in
      rec o (omega arith) (omega arith) (omega arith) (omega (arith, i.begins, a, start_is b k m t x o (omega arith))) (omega (arith, i.ends, e))
  climb-step zero top f rec d h l there a e o w (no z) (no u) = absurd (z (omega arith))
  climb-step (suc p) top f rec d h l there a e o w (no z) (no u) = absurd (omega (arith, laminar b k m t x p d l there (omega (arith, w)), a, top))

  climb : (p : ℕ) → q < level_to m t p → (f : ℕ) → Climb p f
  climb p top zero d h l there a e = absurd (omega arith)
  climb p top (suc f) d h l there a e =
      climb-step p top f (λ d' h' l' t' a' e'. climb p top f d' h' l' t' a' e') d h l there a e (row_parent t d) refl (ℕ_discrete (row_parent t d) p) (dec_lt p (row_parent t d))

  -- a row over q, of which p or a row of p is a parent or a parent's parent and so on, has such a row of p itself
  up : (p d : ℕ) → q < level_to m t p → p ≤ d → d < rows t → row_start t d ≤ q → q < row_end t d → (r : ℕ) × RowOver t p q r
  up p d top l there a e = climb p top (suc d) d (omega arith) l there a e

  abbrev cutting : CutHere m t q c.cut_here.0
  cutting = c.cut_here.1

  none_over : (d : ℕ) → c.cut_here.0 ≤ d → d < rows t → row_start t d ≤ q → q < row_end t d → ⊥
  none_over d l there a e = let r = up c.cut_here.0 d cutting.ends l there a e in cutting.no_row r.0 r.1

  -- ---- the walk

  record Stands (v p n at : ℕ) (xs ms : List ℕ) : Type 0 where
    ready : Ready b fine k m t x q c.covers v p n at xs ms
    from : level_from m t p ≤ at
    low : at ≤ q
    high : q < level_to m t p
    closed : (y : ℕ) → y < n → y < rows t → row_parent t y ≡ p → row_end t y ≤ at

  -- at q: the level is the one that is cut
  same-level : (v p n at : ℕ) (xs ms : List ℕ) → Stands v p n at xs ms → at ≡ q → p ≡ c.cut_here.0
  same-level v p n at xs ms s e = go (ℕ_discrete p c.cut_here.0) (dec_lt p c.cut_here.0) c.cut_here.0 refl p refl
    where
      over-own : (r : ℕ) → RowOver t p q r → ⊥
      over-own r o = by (dec_lt r n)
        where
          by : Dec (r < n) → ⊥
          by (yes l) = omega (arith, s.closed r l o.there o.parent, e, o.ends)
          by (no l) = omega (arith, s.ready.later r (omega arith) o.there, e, c.before r o.there)

      below : (d : ℕ) → c.cut_here.0 ≡ suc d → p ≤ d → ⊥
      below d w l =
          let lv : IsLevel t (suc d) = rw w at cutting.level in
          let a : row_place t d ≤ q = rw w at cutting.begins in
          let z : q < row_end t d = rw w at cutting.ends in
          let r = up p d s.high l lv.there (omega (arith, a, start_is b k m t x d lv.there)) z in
          over-own r.0 r.1

      above : (d : ℕ) → p ≡ suc d → c.cut_here.0 ≤ d → ⊥
      above d w l =
          let lv : IsLevel t (suc d) = rw w at s.ready.level in
          let a : row_place t d ≤ at = rw w at s.from in
          let z : q < row_end t d = rw w at s.high in
          none_over d l lv.there (omega (arith, a, e, start_is b k m t x d lv.there)) z

      go : Dec (p ≡ c.cut_here.0) → Dec (p < c.cut_here.0) → (o : ℕ) → c.cut_here.0 ≡ o → (u : ℕ) → p ≡ u → p ≡ c.cut_here.0
      go (yes z) l o w u y = z
      go (no z) (yes l) zero w u y = absurd (omega arith)
      go (no z) (yes l) (suc d) w u y = absurd (below d w (omega arith))
      go (no z) (no l) o w zero y = absurd (z (omega arith))
      go (no z) (no l) o w (suc d) y = absurd (above d y (omega arith))

  not-whole : (v p n at : ℕ) (xs ms : List ℕ) → Stands v p n at xs ms → at ≡ q → (head_of xs).whole ≡ false
  not-whole v p n at xs ms s e = go (head_of xs).whole refl
    where
      long : (level_to m t p < at + element_header) ⊎ (level_to m t p < at + element_header + two_octets m (at + 1))
      long = rw (e, same-level v p n at xs ms s e) cutting.too_long

      no_room : element_header ≤ length xs → value_length xs ≤ length xs - element_header → (level_to m t p < at + element_header) ⊎ (level_to m t p < at + element_header + two_octets m (at + 1)) → ⊥
      no_room a o (inl l) = omega (arith, a, l, s.ready.ends_at)
      no_room a o (inr l) =
          let z : at + 2 ≡ at + 1 + 1 = omega arith in
          let o₁ : octet xs 1 ≡ octet m (at + 1) = sub-octet m at xs s.ready.sub 1 (omega (arith, a)) in
          let o₂ : octet xs 2 ≡ octet m (at + 1 + 1) = rw z at (sub-octet m at xs s.ready.sub 2 (omega (arith, a))) in
          omega (arith, a, o, l, s.ready.ends_at, o₁, o₂)

      go : (w : Bool) → (head_of xs).whole ≡ w → (head_of xs).whole ≡ false
      go false w = w
      go true w = let r = head-room xs w in absurd (no_room r.header r.value long)

  -- ---- before q: one row more

  module _ (v p n at : ℕ) (xs ms : List ℕ) (s : Stands v p n at xs ms) (pos : 0 < length xs) (bef : at < q) where
    abbrev w : Ready b fine k m t x q c.covers v p n at xs ms
    w = s.ready

    there : n < rows t
    there = (w.next pos bef).there

    end_is : row_end t n ≡ at + element_header + (whole_element xs).len
    end_is = (row_at b fine k m t x q c.covers v p n at xs ms w pos bef).end_is

    start-at : row_start t n ≡ at
    start-at = (w.next pos bef).start

    -- q in the row: the level that is cut is the row's own, or one of a row in it
    in_it : q < row_end t n → (o : ℕ) → c.cut_here.0 ≡ o → Dec (n < o) → (row_place t n ≤ q) × IsLevel t (suc n)
    in_it e o z (no l) = absurd (none_over n (omega arith) there (omega (arith, start-at, bef)) e)
    in_it e zero z (yes l) = absurd (omega arith)
    in_it e (suc d) z (yes l) = by (ℕ_discrete d n)
      where
        lv : IsLevel t (suc d)
        lv = rw z at cutting.level

        -- not entered, nothing behind it begins before q
        entered-row : (n < d) → IsLevel t (suc n)
        entered-row h = go (decide n)
          where
            decide : (y : ℕ) → Dec (0 < entered b k v ms (whole_element xs))
            decide y = dec_lt 0 (entered b k v ms (whole_element xs))

            go : Dec (0 < entered b k v ms (whole_element xs)) → IsLevel t (suc n)
            go (yes f) = let g = entered b k v ms (whole_element xs) - 1 in group-here b fine k m t x q c.covers v p n at xs ms w pos bef (entered b k v ms (whole_element xs) - 1) (omega arith)
            go (no f) =
                absurd (omega (arith, past b k m t x n d h lv.there (not-level b fine k m t x q c.covers v p n at xs ms w pos bef (omega arith)), c.before d lv.there, e))

        by : Dec (d ≡ n) → (row_place t n ≤ q) × IsLevel t (suc n)
        by (yes y) = let a : row_place t d ≤ q = rw z at cutting.begins in (rw (← y) a, rw (← y) lv)
        by (no y) = (omega (arith, inner b k m t x n d (omega arith) lv.there, c.before d lv.there), entered-row (omega arith))

    closed_on : (n' : ℕ) → ((y : ℕ) → n < y → y < n' → row_parent t y ≢ p) → (y : ℕ) → y < n' → y < rows t → row_parent t y ≡ p → row_end t y ≤ at + element_header + (whole_element xs).len
    closed_on n' none y l h e = go (dec_lt y n) (ℕ_discrete y n)
      where
        go : Dec (y < n) → Dec (y ≡ n) → row_end t y ≤ at + element_header + (whole_element xs).len
        go (yes f) g = omega (arith, s.closed y f h e)
        go (no f) (yes g) = let z : row_end t y ≡ row_end t n = ap (row_end t) g in omega (arith, z, end_is)
        go (no f) (no g) = absurd (none y (omega arith) l e)

    -- not entered: q is not in it
    alone-past : entered b k v ms (whole_element xs) ≡ 0 → row_end t n ≤ q
    alone-past e = go (dec_lt q (row_end t n))
      where
        go : Dec (q < row_end t n) → row_end t n ≤ q
        go (yes l) = absurd (not-level b fine k m t x q c.covers v p n at xs ms w pos bef e (in_it l c.cut_here.0 refl (dec_lt n c.cut_here.0)).1)
        go (no l) = omega arith

    alone-stands : entered b k v ms (whole_element xs) ≡ 0
        → Stands v p (n + 1) (at + element_header + (whole_element xs).len) (drop (element_header + (whole_element xs).len) xs) (marked b k v ms (whole_element xs))
    alone-stands e = record {
      ready = alone-ready b fine k m t x q c.covers v p n at xs ms w pos bef e;
      from = omega (arith, s.from);
      low = omega (arith, alone-past e, end_is);
      high = s.high;
      closed = closed_on (n + 1) (λ y a d. absurd (omega arith));
    }

    module _ (g : ℕ) (e : entered b k v ms (whole_element xs) ≡ suc g) where
      inside-stands : q < row_end t n → Stands (suc g) (n + 1) (n + 1) (at + element_header) (take (whole_element xs).len (drop element_header xs)) fresh
      inside-stands l =
          let z : n + 1 ≡ suc n = omega arith in
          let place = the_place b fine k m t x q c.covers v p n at xs ms w pos bef in record {
            ready = inside-ready b fine k m t x q c.covers v p n at xs ms w pos bef g e;
            from = rw z (omega (arith, place));
            low = omega (arith, (in_it l c.cut_here.0 refl (dec_lt n c.cut_here.0)).0, place);
            high = rw z l;
            closed = λ y f h u. absurd (omega (arith, backward b k m t x y h, u, f));
          }

      module _ (u : Built b fine k m t x q c.covers (suc g) (n + 1) (n + 1) (at + element_header) (take (whole_element xs).len (drop element_header xs)) fresh) where
        group-stands : row_end t n ≤ q
            → Stands v p (n + 1 + length u.es) (at + element_header + (whole_element xs).len) (drop (element_header + (whole_element xs).len) xs) (marked b k v ms (whole_element xs))
        group-stands l = record {
          ready = group-ready b fine k m t x q c.covers v p n at xs ms w pos bef g e u;
          from = omega (arith, s.from);
          low = omega (arith, l, end_is);
          high = s.high;
          closed = closed_on (n + 1 + length u.es) (inner-parent b fine k m t x q c.covers v p n at xs ms w pos bef g e u);
        }

  -- ---- all of it

  abbrev Cuts : ℕ → Type 0
  Cuts f = (v p n at : ℕ) (xs ms : List ℕ) → length xs ≤ f → Stands v p n at xs ms → CutAt b k v ms n at xs q

  step-group : (f : ℕ) → Cuts f → (v p n at : ℕ) (xs ms : List ℕ) → length xs ≤ suc f → (s : Stands v p n at xs ms) (pos : 0 < length xs) (bef : at < q)
      → (g : ℕ) → entered b k v ms (whole_element xs) ≡ suc g → Dec (q < row_end t n) → CutAt b k v ms n at xs q
  step-group f rec v p n at xs ms l s pos bef g e (yes h) =
      within (whole_element xs) g (row_at b fine k m t x q c.covers v p n at xs ms s.ready pos bef).at_head e
      (rec (suc g) (n + 1) (n + 1) (at + element_header) (take (whole_element xs).len (drop element_header xs)) fresh (omega (arith, inside_shorter (whole_element xs).len xs pos))
      (inside-stands v p n at xs ms s pos bef g e h))
  step-group f rec v p n at xs ms l s pos bef g e (no h) =
      let z : n + 1 ≡ suc n = omega arith in
      let u = build b fine k m t x q c.covers (suc g) (n + 1) (n + 1) (at + element_header) (take (whole_element xs).len (drop element_header xs)) fresh (rw z (omega arith))
      (inside-ready b fine k m t x q c.covers v p n at xs ms s.ready pos bef g e) in
      behind (whole_element xs) g (row_at b fine k m t x q c.covers v p n at xs ms s.ready pos bef).at_head e u.met
      (rec v p (n + 1 + length u.es) (at + element_header + (whole_element xs).len) (drop (element_header + (whole_element xs).len) xs) (marked b k v ms (whole_element xs))
      (omega (arith, rest_shorter (whole_element xs).len xs pos)) (group-stands v p n at xs ms s pos bef g e u (omega arith)))

  step : (f : ℕ) → Cuts f → (v p n at : ℕ) (xs ms : List ℕ) → length xs ≤ suc f → (s : Stands v p n at xs ms) (pos : 0 < length xs) (bef : at < q)
      → (g : ℕ) → entered b k v ms (whole_element xs) ≡ g → CutAt b k v ms n at xs q
  step f rec v p n at xs ms l s pos bef zero e =
      later (whole_element xs) (row_at b fine k m t x q c.covers v p n at xs ms s.ready pos bef).at_head e
      (rec v p (n + 1) (at + element_header + (whole_element xs).len) (drop (element_header + (whole_element xs).len) xs) (marked b k v ms (whole_element xs))
      (omega (arith, rest_shorter (whole_element xs).len xs pos)) (alone-stands v p n at xs ms s pos bef e))
  step f rec v p n at xs ms l s pos bef (suc g) e = step-group f rec v p n at xs ms l s pos bef g e (dec_lt q (row_end t n))

  at-q : (v p n at : ℕ) (xs ms : List ℕ) → Stands v p n at xs ms → 0 < length xs → at ≡ q → CutAt b k v ms n at xs q
  unfolding seen
  at-q v p n at xs ms s pos e = subst (λ (z : ℕ). CutAt b k v ms n at xs z) e (here pos (not-whole v p n at xs ms s e))

  choose : (f : ℕ) → Cuts f → (v p n at : ℕ) (xs ms : List ℕ) → length xs ≤ suc f → Stands v p n at xs ms → 0 < length xs → Dec (at < q) → CutAt b k v ms n at xs q
  choose f rec v p n at xs ms l s pos (yes h) = step f rec v p n at xs ms l s pos h (entered b k v ms (whole_element xs)) refl
  choose f rec v p n at xs ms l s pos (no h) = at-q v p n at xs ms s pos (omega (arith, s.low))

  cuts : (f : ℕ) → Cuts f
  cuts zero v p n at xs ms l s = absurd (omega (arith, s.ready.ends_at, s.low, s.high))
  cuts (suc f) v p n at xs ms l s =
      choose f (λ v' p' n' at' ys ns a d. cuts f v' p' n' at' ys ns a d) v p n at xs ms l s (omega (arith, s.ready.ends_at, s.low, s.high)) (dec_lt at q)

  -- the body
  pub is_cut : CutAt b k (body_level b m) fresh 0 (header_length m) (drop (header_length m) m) q
  is_cut = cuts (length (drop (header_length m) m)) (body_level b m) 0 0 (header_length m) (drop (header_length m) m) fresh (omega arith) (record {
    ready = body-ready b fine k m t x q c.covers;
    from = omega arith;
    low = low;
    high = high;
    closed = λ y l. absurd (omega arith);
  })
    where
      -- the level that is cut lies in the message
      low : header_length m ≤ q
      low = go c.cut_here.0 refl
        where
          go : (o : ℕ) → c.cut_here.0 ≡ o → header_length m ≤ q
          go zero z = rw z at cutting.begins
          go (suc d) z =
              let lv : IsLevel t (suc d) = rw z at cutting.level in
              let a : row_place t d ≤ q = rw z at cutting.begins in
              omega (arith, a, in_body b fine k m t x q c.covers d lv.there, start_is b k m t x d lv.there)

      high : q < length m
      high = go c.cut_here.0 refl
        where
          go : (o : ℕ) → c.cut_here.0 ≡ o → q < length m
          go zero z = rw z at cutting.ends
          go (suc d) z =
              let lv : IsLevel t (suc d) = rw z at cutting.level in
              let a : q < row_end t d = rw z at cutting.ends in
              omega (arith, a, in_message b k m t x d lv.there)
