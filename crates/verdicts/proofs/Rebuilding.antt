-- Completeness: from what IsTable says of a table, the derivation of the message's elements, and the table's rows are theirs. One induction over what
-- a level has left, xs at the place `at`, with n rows behind: the next row of the level is row n (`Ready`). What the level has left and the rows
-- from n on then give the elements es of what is left, the rows from n to n + length es are theirs, and every row after them begins behind the level's
-- end (`Built`); that last is what lets the level around it go on. Assumes nothing.
use mathlib.Core.Path.{◌≡◌, refl, sym, ap, ◌∙◌}
use mathlib.Core.Logic.{◌≢◌}
use mathlib.Core.Bool.{true, cond}
use mathlib.Core.List.{List, [], ◌∷◌, ◌++◌}
use Prim.Native.Nat.{ℕ, zero, suc, ◌+◌, ◌-◌, ◌%◌, ◌≤◌, ◌<◌}
use native.Mathlib.Omega.{arith}
use native.Mathlib.Decide.{dec_lt, ℕ_discrete}
use borrow.Author.Tests.{eqb-false}
use lib.Dec.{eqb}
use lib.ListN.{length, take, drop, get_or, length-append, length-drop, get_or-append}
use lib.Seq.{get_or-append-add, take-take}
use Rattle.rules.specs.Sizes.{row_numbers}
use Rattle.rules.specs.Framing.{octet, element_header, value_length, head_of}
use Rattle.rules.specs.Listings.{Book, Line}
use Rattle.rules.specs.Standing.{Item, fresh, kept, item_of, line_in, standing, marked, entered}
use Rattle.rules.specs.Taking.{body_level}
use Rattle.rules.specs.Met.{At, Met, ends, alone, group}
use Rattle.rules.specs.Table.{row, no_item, nth}
use Rattle.rules.specs.Sound.{sound}
use Rattle.rules.specs.Values.{cell, row_parent, row_type, row_instance, row_place, row_length, row_standing}
use Rattle.rules.specs.Frames.{Element, element, seen, frames_of}
use Rattle.rules.proofs.Heads.{whole_head, room_whole, fits, rest-length, value-length}
use Rattle.rules.proofs.Walks.{inside_shorter, rest_shorter}
use Rattle.rules.proofs.Rows.{every-at}
use Rattle.rules.proofs.Places.{parents}
use Rattle.rules.proofs.Walked.{met-walked}
use Rattle.tables.specs.Levels.{line_at, level_of}
use Rattle.tables.specs.Words.{rows, row_start, row_end, KeptGroup, IsLevel, level_to, CoversTo}
use Rattle.tables.specs.IsTable.{IsRows}
use Rattle.tables.proofs.Marks.{same_first, Tells, tells-fresh, tells-past, tells-next, RowIs, stands}
use Rattle.tables.proofs.Standings.{stands-once, kept_iff}
use Rattle.tables.proofs.Levels.{level-next, level-group, group-level}
use Rattle.tables.proofs.Trees.{start_is, backward, inner, past}
use Rattle.tables.proofs.Tiling.{Next, opens, goes_on}
use Rattle.tables.proofs.Faithful.{Sub, sub-octet, sub-drop, sub-take}

-- ---- the rows of a table from n on are the elements es

pub record Matches (t : List ℕ) (n : ℕ) (es : List Item) : Type 0 where
  pub room : n + length es ≤ rows t
  pub same : (j : ℕ) → j < length es → (c : ℕ) → c < row_numbers → cell t (n + j) c ≡ get_or (row (nth es j)) c 0

matches_cons : (t : List ℕ) (n : ℕ) (i : Item) (es : List Item) → ((c : ℕ) → c < row_numbers → cell t n c ≡ get_or (row i) c 0) → Matches t (n + 1) es → Matches t n (i ∷ es)
matches_cons t n i es f a = record { room = omega (arith, a.room); same = go }
  where
    go : (j : ℕ) → j < suc (length es) → (c : ℕ) → c < row_numbers → cell t (n + j) c ≡ get_or (row (nth (i ∷ es) j)) c 0
    go zero l c h = let e : n + 0 ≡ n = omega arith in rw e (f c h)
    go (suc j) l c h = let e : n + suc j ≡ n + 1 + j = omega arith in rw e (a.same j (omega arith) c h)

matches_append : (t : List ℕ) (n : ℕ) (is es : List Item) → Matches t n is → Matches t (n + length is) es → Matches t n (is ++ es)
matches_append t n is es a d = record { room = omega (arith, d.room, length-append is es); same = λ j l c h. go j l c h (dec_lt j (length is)) }
  where
    go : (j : ℕ) → j < length (is ++ es) → (c : ℕ) → c < row_numbers → Dec (j < length is) → cell t (n + j) c ≡ get_or (row (nth (is ++ es) j)) c 0
    go j l c h (yes f) = a.same j f c h ∙ ap (λ (i : Item). get_or (row i) c 0) (sym (get_or-append is es no_item j f))
    go j l c h (no f) =
        let e : n + j ≡ n + length is + (j - length is) = omega arith in
        let z : j ≡ length is + (j - length is) = omega arith in
        let w : nth (is ++ es) j ≡ nth es (j - length is) = ap (nth (is ++ es)) z ∙ get_or-append-add is es (j - length is) no_item in
        rw e (d.same (j - length is) (omega (arith, length-append is es)) c h ∙ ap (λ (i : Item). get_or (row i) c 0) (sym w))

-- ---- an element that fits

abbrev pub whole_element : List ℕ → Element
whole_element xs = element (whole_head xs) (frames_of (take (value_length xs) (drop element_header xs)))

seen-whole : (xs : List ℕ) → head_of xs ≡ whole_head xs → seen xs ≡ whole_element xs
unfolding seen
seen-whole xs e = rw e

module _ (b : Book) (fine : sound b ≡ true) (k : ℕ) (m t : List ℕ) (x : IsRows b k m t) (q : ℕ) (covers : CoversTo m t q) where
  abbrev level_is : ℕ → ℕ
  level_is p = level_of b k (body_level b m) t p

  -- level, parent, rows behind, place and octets left, marks
  pub record Ready (v p n at : ℕ) (xs ms : List ℕ) : Type 0 where
    pub level : IsLevel t p
    pub lev : level_is p ≡ v
    pub ends_at : at + length xs ≡ level_to m t p
    pub sub : Sub m at xs
    pub under : p ≤ n
    pub room : n ≤ rows t
    pub next : 0 < length xs → at < q → Next t p at n
    pub later : (y : ℕ) → n ≤ y → y < rows t → at ≤ row_start t y
    pub tells : Tells b k v t p ms n

  pub record Built (v p n at : ℕ) (xs ms : List ℕ) : Type 0 where
    pub es : List Item
    pub met : Met b k v ms p n at xs es
    pub rows_are : Matches t n es
    pub behind : (y : ℕ) → n + length es ≤ y → y < rows t → level_to m t p ≤ row_start t y

  -- ---- the row at the head

  -- what is known of it
  pub record Here (v p n at : ℕ) (xs ms : List ℕ) (h : Element) : Type 0 where
    pub there : n < rows t
    pub at_head : At xs h
    pub is : RowIs m t p at n h
    pub stand : row_standing t n ≡ standing b k v ms h
    pub inside : level_is (suc n) ≡ entered b k v ms h
    pub end_is : row_end t n ≡ at + element_header + h.len

  module _ (v p n at : ℕ) (xs ms : List ℕ) (r : Ready v p n at xs ms) (pos : 0 < length xs) (bef : at < q) where
    abbrev nx : Next t p at n
    nx = r.next pos bef

    pub the_place : row_place t n ≡ at + element_header
    the_place = omega (arith, nx.start, start_is b k m t x n nx.there)

    pub the_end : row_end t n ≤ at + length xs
    the_end = let i : row_end t n ≤ level_to m t p = rw nx.parent at (x.inside n nx.there).ends in omega (arith, i, r.ends_at)

    o₀ : octet xs 0 ≡ octet m at
    o₀ = let z : at + 0 ≡ at = omega arith in rw z at (sub-octet m at xs r.sub 0 (omega arith))

    o₁ : octet xs 1 ≡ octet m (at + 1)
    o₁ = sub-octet m at xs r.sub 1 (omega (arith, the_place, the_end))

    o₂ : octet xs 2 ≡ octet m (at + 1 + 1)
    o₂ = let z : at + 2 ≡ at + 1 + 1 = omega arith in rw z at (sub-octet m at xs r.sub 2 (omega (arith, the_place, the_end)))

    o₃ : octet xs 3 ≡ octet m (at + 3)
    o₃ = sub-octet m at xs r.sub 3 (omega (arith, the_place, the_end))

    the_len : row_length t n ≡ value_length xs
    the_len = rw (o₁, o₂, ← nx.start) (x.faithful n nx.there).len

    pub head-here : head_of xs ≡ whole_head xs
    head-here = room_whole xs (omega (arith, the_place, the_end, the_len))

    row_here : RowIs m t p at n (whole_element xs)
    row_here = record {
      parent = nx.parent;
      typ = (x.faithful n nx.there).typ ∙ ap (octet m) nx.start ∙ sym o₀;
      inst = (x.faithful n nx.there).inst ∙ ap (λ (j : ℕ). octet m (j + 3) % 16) nx.start ∙ sym (ap (λ (j : ℕ). j % 16) o₃);
      place = the_place;
      len = the_len;
      first = ap (λ (l : ℕ). cond (eqb l 0) 0 (octet m (row_place t n))) the_len
          ∙ same_first (octet m (row_place t n)) (octet xs element_header) (eqb (value_length xs) 0)
          (λ c. ap (octet m) the_place ∙ sym (sub-octet m at xs r.sub element_header (omega (arith, eqb-false (value_length xs) 0 c, the_place, the_end, the_len))));
      within =
          let d : drop element_header xs ≡ take (length (drop element_header xs)) (drop (at + element_header) m) = sub-drop m at element_header (at + element_header) xs refl r.sub in
          let f : value_length xs ≤ length (drop element_header xs) = omega (arith, the_place, the_end, the_len, length-drop element_header xs) in
          ap (λ (c : ℕ). frames_of (take c (drop (row_place t n) m))) the_len ∙ ap (λ (c : ℕ). frames_of (take (value_length xs) (drop c m))) the_place
          ∙ ap frames_of (sym (ap (take (value_length xs)) d ∙ take-take (value_length xs) (length (drop element_header xs)) (drop (at + element_header) m) f));
    }

    abbrev h : Element
    h = whole_element xs

    stand-here : row_standing t n ≡ standing b k v ms h
    stand-here = stands-once b k m t n (x.standing n nx.there) (stands b k m t v p at n ms h r.tells r.lev row_here)

    line-here : line_at b k (level_is (row_parent t n)) (row_type t n) (row_instance t n) ≡ line_in b k v h
    line-here = rw (row_here.parent, r.lev, row_here.typ, row_here.inst)

    inside-here : level_is (suc n) ≡ entered b k v ms h
    unfolding entered
    inside-here =
        level-next b k (body_level b m) t n nx.there (backward b k m t x n nx.there)
        ∙ ap (λ (s : ℕ). cond (eqb s kept) (line_at b k (level_is (row_parent t n)) (row_type t n) (row_instance t n)).inside 0) stand-here
        ∙ ap (λ (l : Line). cond (eqb (standing b k v ms h) kept) l.inside 0) line-here

    cells_here : (c : ℕ) → c < row_numbers → cell t n c ≡ get_or (row (item_of b k v ms p at h)) c 0
    unfolding item_of
    cells_here zero l = row_here.parent
    cells_here (suc zero) l = row_here.typ
    cells_here (suc (suc zero)) l = row_here.inst
    cells_here (suc (suc (suc zero))) l = row_here.place
    cells_here (suc (suc (suc (suc zero)))) l = row_here.len
    cells_here (suc (suc (suc (suc (suc zero))))) l = stand-here
    cells_here (suc (suc (suc (suc (suc (suc c)))))) l = absurd (omega arith)

    pub here : Here v p n at xs ms h
    here = record {
      there = nx.there;
      at_head = record { is = seen-whole xs head-here; whole = refl };
      is = row_here;
      stand = stand-here;
      inside = inside-here;
      end_is = omega (arith, the_place, the_len);
    }

    -- ---- the row is not entered

    pub not-level : entered b k v ms h ≡ 0 → IsLevel t (suc n) → ⊥
    not-level e g =
        let l = ((kept_iff b k m t x n nx.there).0 g.stand).0 in
        omega (arith, group-level b fine k (body_level b m) t n nx.there (backward b k m t x n nx.there) l g, inside-here, e)

    -- the next row of the level, where no row from n' on begins before the end of row n
    next_row : (n' : ℕ) → ((y : ℕ) → n' ≤ y → y < rows t → row_end t n ≤ row_start t y) → ((y : ℕ) → n < y → y < n' → row_parent t y ≢ p)
        → 0 < length (drop (element_header + h.len) xs) → at + element_header + h.len < q → Next t p (at + element_header + h.len) n'
    next_row n' far none some near = go (goes_on b k m t x q covers n nx.there (rw nx.parent (omega (arith, here.end_is, rest-length xs h.len (fits here.at_head), r.ends_at, some))) (omega (arith, here.end_is, near)))
      where
        go : (y : ℕ) × (n < y) × Next t (row_parent t n) (row_end t n) y → Next t p (at + element_header + h.len) n'
        go (y, l, w) = by (dec_lt y n') (ℕ_discrete y n')
          where
            by : Dec (y < n') → Dec (y ≡ n') → Next t p (at + element_header + h.len) n'
            by (yes d) e = absurd (none y l d (w.parent ∙ nx.parent))
            by (no d) (yes e) =
                let z : Next t p (at + element_header + h.len) y = record { there = w.there; parent = w.parent ∙ nx.parent; start = omega (arith, w.start, here.end_is) } in rw e at z
            by (no d) (no e) =
                absurd (omega (arith, x.order n' y (omega arith) w.there, far n' (omega arith) (omega (arith, w.there)), w.start, start_is b k m t x n' (omega (arith, w.there)), start_is b k m t x y w.there))

    rest-ready : (n' : ℕ) → n + 1 ≤ n' → n' ≤ rows t → ((y : ℕ) → n' ≤ y → y < rows t → row_end t n ≤ row_start t y) → ((y : ℕ) → n < y → y < n' → row_parent t y ≢ p)
        → Ready v p n' (at + element_header + h.len) (drop (element_header + h.len) xs) (marked b k v ms h)
    rest-ready n' l room far none = record {
      level = r.level;
      lev = r.lev;
      ends_at = omega (arith, rest-length xs h.len (fits here.at_head), r.ends_at);
      sub = sub-drop m at (element_header + h.len) (at + element_header + h.len) xs (omega arith) r.sub;
      under = omega (arith, r.under);
      room = room;
      next = next_row n' far none;
      later = λ y a c. omega (arith, far y a c, here.end_is);
      tells = tells-past b fine k v t p (marked b k v ms h) (n + 1) n' l (λ y a c. none y (omega arith) c) (tells-next b fine k v t p ms n h row_here.parent row_here.typ row_here.inst r.tells);
    }

    pub alone-ready : entered b k v ms h ≡ 0 → Ready v p (n + 1) (at + element_header + h.len) (drop (element_header + h.len) xs) (marked b k v ms h)
    alone-ready e = rest-ready (n + 1) (omega arith) (omega (arith, nx.there)) (λ y a c. past b k m t x n y (omega arith) c (not-level e)) (λ y a c. absurd (omega arith))

    alone-built : entered b k v ms h ≡ 0 → Built v p (n + 1) (at + element_header + h.len) (drop (element_header + h.len) xs) (marked b k v ms h) → Built v p n at xs ms
    alone-built e s = record {
      es = item_of b k v ms p at h ∷ s.es;
      met = alone h here.at_head e s.met;
      rows_are = matches_cons t n (item_of b k v ms p at h) s.es cells_here s.rows_are;
      behind = λ y a c. s.behind y (omega arith) c;
    }

    -- ---- the row is entered

    module _ (g : ℕ) (e : entered b k v ms h ≡ suc g) where
      pub group-here : KeptGroup t n
      group-here = level-group b fine k (body_level b m) t n nx.there (backward b k m t x n nx.there) (omega (arith, inside-here, e))

      first-row : 0 < length (take h.len (drop element_header xs)) → at + element_header < q → Next t (suc n) (at + element_header) (suc n)
      first-row some near =
          go (opens b k m t x q covers (suc n) group-here (omega (arith, value-length xs h.len (fits here.at_head), some, the_place, here.end_is))
          (omega (arith, the_place, near)))
        where
          go : (y : ℕ) × Next t (suc n) (row_place t n) y → Next t (suc n) (at + element_header) (suc n)
          go (y, w) = by (ℕ_discrete y (suc n))
            where
              back : suc n ≤ y
              back = rw w.parent at (backward b k m t x y w.there)

              by : Dec (y ≡ suc n) → Next t (suc n) (at + element_header) (suc n)
              by (yes d) = let z : Next t (suc n) (at + element_header) y = record { there = w.there; parent = w.parent; start = omega (arith, w.start, the_place) } in rw d at z
              by (no d) =
                  absurd (omega (arith, x.order (suc n) y (omega (arith, back)) w.there, inner b k m t x n (suc n) (omega arith) (omega (arith, w.there, back)), w.start, start_is b k m t x (suc n) (omega (arith, w.there, back)), start_is b k m t x y w.there))

      pub inside-ready : Ready (suc g) (n + 1) (n + 1) (at + element_header) (take h.len (drop element_header xs)) fresh
      inside-ready =
          let z : n + 1 ≡ suc n = omega arith in
          rw z (record {
            level = group-here;
            lev = inside-here ∙ e;
            ends_at = omega (arith, value-length xs h.len (fits here.at_head), here.end_is);
            sub = sub-take m (at + element_header) h.len (drop element_header xs) (omega (arith, fits here.at_head, length-drop element_header xs)) (sub-drop m at element_header (at + element_header) xs (omega arith) r.sub);
            under = omega arith;
            room = nx.there;
            next = first-row;
            later = λ y a c. omega (arith, inner b k m t x n y (omega arith) c, the_place);
            tells = tells-fresh b fine k (suc g) t (suc n) (suc n) (λ y l w. omega (arith, backward b k m t x y (omega (arith, nx.there)), w));
          })

      module _ (s : Built (suc g) (n + 1) (n + 1) (at + element_header) (take h.len (drop element_header xs)) fresh) where
        pub inner-parent : (y : ℕ) → n < y → y < n + 1 + length s.es → row_parent t y ≢ p
        inner-parent y a c w =
            let j = y - (n + 1) in
            let u : n + 1 + (y - (n + 1)) ≡ y = omega arith in
            let d : row_parent t y ≡ (nth s.es (y - (n + 1))).parent = rw u at (s.rows_are.same (y - (n + 1)) (omega arith) 0 (omega arith)) in
            let o = every-at (λ i. n + 1 ≤ i.parent) s.es (parents (met-walked s.met) (omega arith)) (y - (n + 1)) (omega arith) in
            omega (arith, d, o, w, r.under)

        far : (y : ℕ) → n + 1 + length s.es ≤ y → y < rows t → row_end t n ≤ row_start t y
        far y a c = let z : n + 1 ≡ suc n = omega arith in let w : level_to m t (suc n) ≤ row_start t y = rw z at (s.behind y a c) in w

        pub group-ready : Ready v p (n + 1 + length s.es) (at + element_header + h.len) (drop (element_header + h.len) xs) (marked b k v ms h)
        group-ready = rest-ready (n + 1 + length s.es) (omega arith) s.rows_are.room far inner-parent

        group-built : Built v p (n + 1 + length s.es) (at + element_header + h.len) (drop (element_header + h.len) xs) (marked b k v ms h) → Built v p n at xs ms
        group-built u = record {
          es = item_of b k v ms p at h ∷ (s.es ++ u.es);
          met = group h g here.at_head e s.met u.met;
          rows_are = matches_cons t n (item_of b k v ms p at h) (s.es ++ u.es) cells_here (matches_append t (n + 1) s.es u.es s.rows_are u.rows_are);
          behind = λ y a c. u.behind y (omega (arith, a, length-append s.es u.es)) c;
        }

  -- ---- all of a level

  abbrev Builds : ℕ → Type 0
  Builds f = (v p n at : ℕ) (xs ms : List ℕ) → length xs ≤ f → level_to m t p ≤ q → Ready v p n at xs ms → Built v p n at xs ms

  built-none : (v p n at : ℕ) (ms : List ℕ) → Ready v p n at [] ms → Built v p n at [] ms
  built-none v p n at ms r = record {
    es = [];
    met = ends;
    rows_are = record { room = omega (arith, r.room); same = λ j l c h. absurd (omega arith) };
    behind = λ y a c. omega (arith, r.later y (omega arith) c, r.ends_at);
  }

  step : (f : ℕ) → Builds f → (v p n at : ℕ) (xs ms : List ℕ) → length xs ≤ suc f → (pos : 0 < length xs) (bef : at < q) → level_to m t p ≤ q → Ready v p n at xs ms
      → (g : ℕ) → entered b k v ms (whole_element xs) ≡ g → Built v p n at xs ms
  step f rec v p n at xs ms l pos bef z r zero e =
      alone-built v p n at xs ms r pos bef e
      (rec v p (n + 1) (at + element_header + (whole_element xs).len) (drop (element_header + (whole_element xs).len) xs) (marked b k v ms (whole_element xs))
      (omega (arith, rest_shorter (whole_element xs).len xs pos)) z (alone-ready v p n at xs ms r pos bef e))
  step f rec v p n at xs ms l pos bef z r (suc g) e =
      let y : n + 1 ≡ suc n = omega arith in
      let s = rec (suc g) (n + 1) (n + 1) (at + element_header) (take (whole_element xs).len (drop element_header xs)) fresh
      (omega (arith, inside_shorter (whole_element xs).len xs pos)) (rw y (omega (arith, the_end v p n at xs ms r pos bef, r.ends_at, z))) (inside-ready v p n at xs ms r pos bef g e) in
      group-built v p n at xs ms r pos bef g e s
      (rec v p (n + 1 + length s.es) (at + element_header + (whole_element xs).len) (drop (element_header + (whole_element xs).len) xs) (marked b k v ms (whole_element xs))
      (omega (arith, rest_shorter (whole_element xs).len xs pos)) z (group-ready v p n at xs ms r pos bef g e s))

  builds : (f : ℕ) → Builds f
  builds zero v p n at [] ms l z r = built-none v p n at ms r
  builds (suc f) v p n at [] ms l z r = built-none v p n at ms r
  builds zero v p n at (o ∷ xs) ms l z r = absurd (omega arith)
  builds (suc f) v p n at (o ∷ xs) ms l z r =
      step f (λ v' p' n' at' ys ns c w u. builds f v' p' n' at' ys ns c w u) v p n at (o ∷ xs) ms l (omega arith) (omega (arith, r.ends_at, z)) z r
      (entered b k v ms (whole_element (o ∷ xs))) refl

  -- the level ends before q
  pub build : (v p n at : ℕ) (xs ms : List ℕ) → level_to m t p ≤ q → Ready v p n at xs ms → Built v p n at xs ms
  build v p n at xs ms z r = builds (length xs) v p n at xs ms (omega arith) z r
