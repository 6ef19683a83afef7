-- A message that is cut at q has rows as IsCut says: those walked before the cut. Where the walk stops, its level has no row over q, since the level's
-- rows have ended there (`closed`), and its inside is what the walk had left. Assumes nothing.
use mathlib.Core.Path.{◌≡◌, sym, ap, ◌∙◌}
use mathlib.Core.Logic.{◌⊎◌, inl, inr, ◌≢◌}
use mathlib.Core.Bool.{true, false}
use mathlib.Core.List.{List, [], ◌++◌}
use Prim.Native.Nat.{ℕ, zero, suc, ◌+◌, ◌≤◌, ◌<◌}
use native.Mathlib.Omega.{arith}
use native.Mathlib.Decide.{dec_lt, ℕ_discrete}
use lib.ListN.{length, drop, length-append, length-drop}
use Rattle.rules.specs.Framing.{octet, two_octets, element_header, value_length, head_of, header_length, message_type}
use Rattle.rules.specs.Listings.{Book, is_message}
use Rattle.rules.specs.Standing.{Item, fresh, item_of, value_end}
use Rattle.rules.specs.Taking.{body_level}
use Rattle.rules.specs.Sound.{sound}
use Rattle.rules.specs.Frames.{seen}
use Rattle.rules.specs.Values.{row_parent, row_place}
use Rattle.rules.specs.declared.Head.{Head}
use Rattle.rules.proofs.Heads.{whole_head, room_whole, fits, rest-length, value-length}
use Rattle.rules.specs.Table.{nth}
use Rattle.rules.proofs.Rows.{every-at}
use Rattle.rules.proofs.Places.{parents, Stand, stand-head, stand-tail, stand-left, stand-right}
use Rattle.tables.specs.Words.{rows, row_end, IsLevel, level_from, level_to, CoversTo}
use Rattle.verdicts.specs.IsCut.{CutHere, IsCut}
use Rattle.rules.proofs.Walked.{met-walked}
use Rattle.tables.proofs.Faithful.{Sub, sub-octet, sub-body, sub-drop, sub-take}
use Rattle.verdicts.proofs.Parts.{Part, here, later, within, behind, left_of, part-walked, part-before, cover_to, cover_inside-to}
use Rattle.tables.proofs.RightRows.{Same, same, count, back, over, is-group, is-entered, is-rows}
use Rattle.tables.specs.IsTable.{IsOf}
use Rattle.tables.proofs.Rowed.{Begins, inside-others}
use Rattle.tables.proofs.Messages.{WalkedOf, all-stand}

-- what is left is no whole element
too_long : (xs : List ℕ) → (head_of xs).whole ≡ false → (length xs < element_header) ⊎ (length xs < element_header + value_length xs)
too_long xs e = go (dec_lt (length xs) element_header) (dec_lt (length xs) (element_header + value_length xs))
  where
    go : Dec (length xs < element_header) → Dec (length xs < element_header + value_length xs) → (length xs < element_header) ⊎ (length xs < element_header + value_length xs)
    go (yes l) d = inl l
    go (no l) (yes d) = inr d
    go (no l) (no d) =
        let w : head_of xs ≡ whole_head xs = room_whole xs (omega arith) in
        let y : (head_of xs).whole ≡ true = ap (λ (h : Head). h.whole) w in
        let z : ◌≡◌ {A = ℕ} 0 1 = cc in absurd (omega arith)

module _ (b : Book) (fine : sound b ≡ true) (k : ℕ) (m t : List ℕ) (es : List Item) (ok : Begins t es) (q : ℕ)
    (d : Part b k (body_level b m) fresh 0 0 (header_length m) (drop (header_length m) m) es q)
    (body : header_length m ≤ length m) (listed : is_message b (message_type m) ≡ true) where
  walked : WalkedOf b k m es
  walked = part-walked d

  counted : rows t ≡ length es
  counted = count b fine k m t es ok walked body listed

  row : (r : ℕ) → r < length es → Same b fine k m t es ok walked body listed r
  row r l = same b fine k m t es ok walked body listed r (rw counted l)

  -- ---- where the walk stops

  -- the walk stands at a level, with n rows behind, at the place `at`, with xs left
  record At-level (p n at : ℕ) (xs : List ℕ) : Type 0 where
    level : IsLevel t p
    from : level_from m t p ≤ at
    ends_at : at + length xs ≡ level_to m t p
    under : p ≤ n
    sub : Sub m at xs
    closed : (y : ℕ) → y < n → y < length es → row_parent t y ≡ p → row_end t y ≤ at

  -- and after the row n, whose value ends at `to`, and rows of other levels
  on : (p n at n' to : ℕ) (xs ys : List ℕ) → At-level p n at xs → n + 1 ≤ n' → at ≤ to → row_end t n ≤ to → to + length ys ≡ at + length xs → Sub m to ys
      → ((y : ℕ) → n < y → y < n' → row_parent t y ≢ p) → At-level p n' to ys
  on p n at n' to xs ys s l up e lens sub none = record {
    level = s.level;
    from = omega (arith, s.from);
    ends_at = lens ∙ s.ends_at;
    under = omega (arith, s.under);
    sub = sub;
    closed = λ y a c w. go y a c w (dec_lt y n) (ℕ_discrete y n);
  }
    where
      go : (y : ℕ) → y < n' → y < length es → row_parent t y ≡ p → Dec (y < n) → Dec (y ≡ n) → row_end t y ≤ to
      go y a c w (yes f) g = omega (arith, s.closed y f c w)
      go y a c w (no f) (yes g) = let z : row_end t y ≡ row_end t n = ap (row_end t) g in omega (arith, z, e)
      go y a c w (no f) (no g) = absurd (none y (omega arith) a w)

  abbrev Found : Type 0
  Found = (p : ℕ) × CutHere m t q p

  stop : (p n at : ℕ) (xs : List ℕ) → At-level p n at xs → n ≡ length es → 0 < length xs → (head_of xs).whole ≡ false → CutHere m t at p
  stop p n at xs s z pos w = record {
    level = s.level;
    begins = s.from;
    ends = omega (arith, s.ends_at);
    no_row = λ r o. let l : r < length es = rw counted at o.there in omega (arith, s.closed r (omega arith) l o.parent, o.ends);
    too_long = go (too_long xs w) (dec_lt (length xs) element_header);
  }
    where
      go : (length xs < element_header) ⊎ (length xs < element_header + value_length xs) → Dec (length xs < element_header)
          → (level_to m t p < at + element_header) ⊎ (level_to m t p < at + element_header + two_octets m (at + 1))
      go u (yes l) = inl (omega (arith, l, s.ends_at))
      go (inl l) (no f) = absurd (f l)
      go (inr l) (no f) =
          let y : at + 2 ≡ at + 1 + 1 = omega arith in
          let o₁ : octet xs 1 ≡ octet m (at + 1) = sub-octet m at xs s.sub 1 (omega arith) in
          let o₂ : octet xs 2 ≡ octet m (at + 1 + 1) = rw y at (sub-octet m at xs s.sub 2 (omega arith)) in
          inr (omega (arith, l, s.ends_at, o₁, o₂))

  -- the level that goes on there, and where it ends
  find : {v : ℕ} {ms : List ℕ} {p n at : ℕ} {xs : List ℕ} {fs : List Item} {o : ℕ} (d : Part b k v ms p n at xs fs o) → Stand es n fs → n + length fs ≡ length es → At-level p n at xs
      → (u : ℕ) × CutHere m t o u × (level_to m t u ≡ o + left_of d)
  unfolding item_of left_of seen
  find (here {p = p} {n = n} {at = at} {xs = xs} pos w) s z a = (p, stop p n at xs a (omega arith) pos w, sym a.ends_at)
  find (later {p = p} {n = n} {at = at} {xs = xs} {es = fs} h w e g) s z a =
      let r = row n (omega (arith, s.room)) in
      let f : row_end t n ≡ at + element_header + h.len = r.end ∙ ap value_end (stand-head s) in
      find g (stand-tail s) (omega arith)
      (on p n at (n + 1) (at + element_header + h.len) xs (drop (element_header + h.len) xs) a (omega arith) (omega arith) (omega (arith, f)) (omega (arith, rest-length xs h.len (fits w)))
      (sub-drop m at (element_header + h.len) (at + element_header + h.len) xs (omega arith) a.sub) (λ y c j. absurd (omega arith)))
  find (within {p = p} {n = n} {at = at} {xs = xs} {is = is} h g w e u) s z a =
      let r = row n (omega (arith, s.room)) in
      let f : row_end t n ≡ at + element_header + h.len = r.end ∙ ap value_end (stand-head s) in
      let f₁ : row_place t n ≡ at + element_header = r.place ∙ ap (λ (i : Item). i.place + element_header) (stand-head s) in
      let y : n + 1 ≡ suc n = omega arith in
      let some : (nth es n).inside ≡ suc g = ap (λ (i : Item). i.inside) (stand-head s) ∙ e in
      find u (stand-left is [] (stand-tail s)) (omega (arith, z, length-append is []))
      (rw y (record {
        level = is-group b fine k m t es ok walked body listed n r.there (omega (arith, some));
        from = omega (arith, f₁);
        ends_at = omega (arith, f, value-length xs h.len (fits w));
        under = omega arith;
        sub = sub-take m (at + element_header) h.len (drop element_header xs) (omega (arith, fits w, length-drop element_header xs)) (sub-drop m at element_header (at + element_header) xs (omega arith) a.sub);
        closed = λ c l j v. absurd (omega (arith, back b fine k m t es ok walked body listed c j, (row c j).parent, v, l));
      }))
  find (behind {p = p} {n = n} {at = at} {xs = xs} {is = is} {es = fs} h g w e u v) s z a =
      let r = row n (omega (arith, s.room)) in
      let f : row_end t n ≡ at + element_header + h.len = r.end ∙ ap value_end (stand-head s) in
      let s₁ : Stand es (n + 1) (is ++ fs) = stand-tail s in
      find v (stand-right is fs s₁) (omega (arith, z, length-append is fs))
      (on p n at (n + 1 + length is) (at + element_header + h.len) xs (drop (element_header + h.len) xs) a (omega arith) (omega arith) (omega (arith, f)) (omega (arith, rest-length xs h.len (fits w)))
      (sub-drop m at (element_header + h.len) (at + element_header + h.len) xs (omega arith) a.sub)
      (λ y c l. inside-others t es ok n p is a.under (stand-left is fs s₁) (parents (met-walked u) (omega arith)) y (omega arith) l))

  -- ---- together

  covers : CoversTo m t q
  covers zero g j a c l =
      let r = cover_to d j a (omega (arith, c, length-drop (header_length m) m)) l in
      (r.0, over b fine k m t es ok walked body listed 0 j r.0 r.1 r.2)
  covers (suc y) g j a c l =
      let s = same b fine k m t es ok walked body listed y g.there in
      let r = cover_inside-to d es (all-stand b fine k m es walked) y s.there j l (is-entered b fine k m t es ok walked body listed y g) (omega (arith, a, s.place)) (omega (arith, c, s.end)) in
      let z : suc (0 + y) ≡ suc y = omega arith in
      (r.0, over b fine k m t es ok walked body listed (suc y) j r.0 r.1 (rw z at r.2))

  pub cut_level : (u : ℕ) × CutHere m t q u × (level_to m t u ≡ q + left_of d)
  cut_level = find d (all-stand b fine k m es walked) (omega arith) (record {
    level = tt;
    from = omega arith;
    ends_at = omega (arith, length-drop (header_length m) m);
    under = omega arith;
    sub = sub-body m (header_length m);
    closed = λ y l. absurd (omega arith);
  })

  pub cut-rows : IsOf k m t → IsCut b k m t q
  cut-rows of = record {
    right = is-rows b fine k m t es ok walked body listed of;
    before = λ r l. let s = same b fine k m t es ok walked body listed r l in omega (arith, every-at (λ i. i.place < q) es (part-before d) r s.there, s.start);
    covers = covers;
    cut_here = (cut_level.0, cut_level.1);
  }
