-- What a level's marks tell, over the table's own numbers: the mark of a pair that may stand once is not 0 exactly where an earlier row of the
-- level has that pair. It holds of fresh marks, and each row of the level carries it on. So the marks can be left out of what is said of a table:
-- the standing by the marks is the standing by the rows (`stands`). Assumes nothing.
use mathlib.Core.Path.{◌≡◌, refl, sym, ap, ◌∙◌}
use mathlib.Core.Logic.{◌⊎◌, inl, inr, ◌≢◌}
use mathlib.Core.Bool.{Bool, cond, true, false, not, ◌&&◌}
use mathlib.Core.List.{List}
use Prim.Native.Nat.{ℕ, ◌+◌, ◌≤◌, ◌<◌}
use native.Mathlib.Omega.{arith}
use native.Mathlib.Decide.{dec_lt}
use borrow.Author.Tests.{ltb-true, ltb-false, lt-ltb, ne_eqb}
use lib.Dec.{eqb}
use lib.ListN.{length, get_or, take, drop, length-replicate}
use Rattle.rules.specs.Framing.{element_header}
use Rattle.rules.specs.Types.{least_of}
use Rattle.rules.specs.Listings.{Book, Line, empty_line, seek, listing}
use Rattle.rules.specs.Standing.{most_lines, fresh, line_number, line_in, is_listed, stood_earlier, is_short, is_over, standing, marked}
use Rattle.rules.specs.Taking.{body_level}
use Rattle.rules.specs.Sound.{sound}
use Rattle.rules.specs.Values.{row_parent, row_type, row_instance, row_place, row_length}
use Rattle.rules.specs.Frames.{Element, frames_of, exceeds}
use Rattle.rules.proofs.Lines.{level-size}
use Rattle.rules.proofs.Standings.{Case, is_unexpected, is_repeated, is-short, is-kept, is_void, standing_case, no_mark, own-mark, marks_stay, marked-length}
use Rattle.rules.proofs.Pairs.{Once, new-mark}
use Rattle.tables.specs.Levels.{level_of}
use Rattle.tables.specs.Words.{first_value}
use Rattle.tables.specs.Standings.{its_listing, its_number, Listed, Again, its_least, Below, its_frames, its_limits, StandsAs}
use Rattle.tables.proofs.Tests.{clash}

-- a row before n with the parent p has the pair y/i
pub record Before (t : List ℕ) (p n y i x : ℕ) : Type 0 where
  pub earlier : x < n
  pub parent : row_parent t x ≡ p
  pub typ : row_type t x ≡ y
  pub inst : row_instance t x ≡ i

pub record Tells (b : Book) (k v : ℕ) (t : List ℕ) (p : ℕ) (ms : List ℕ) (n : ℕ) : Type 0 where
  pub size : length ms ≡ most_lines
  pub marks : (y i x : ℕ) → Once b k v y i → Before t p n y i x → get_or ms (seek (listing b v) k y i) 0 ≢ 0
  pub stood : (y i : ℕ) → Once b k v y i → get_or ms (seek (listing b v) k y i) 0 ≢ 0 → (x : ℕ) × Before t p n y i x

module _ (b : Book) (fine : sound b ≡ true) (k v : ℕ) (t : List ℕ) (p : ℕ) where
  -- no row of the level yet
  pub tells-fresh : (n : ℕ) → ((x : ℕ) → x < n → row_parent t x ≢ p) → Tells b k v t p fresh n
  tells-fresh n none = record {
    size = length-replicate {A = ℕ} most_lines 0;
    marks = λ y i x w s. absurd (none x s.earlier s.parent);
    stood = λ y i w c. absurd (c (no_mark most_lines (seek (listing b v) k y i)));
  }

  -- rows of other levels
  pub tells-past : (ms : List ℕ) (n n' : ℕ) → n ≤ n' → ((x : ℕ) → n ≤ x → x < n' → row_parent t x ≢ p) → Tells b k v t p ms n → Tells b k v t p ms n'
  tells-past ms n n' l none a = record {
    size = a.size;
    marks = λ y i x w s. a.marks y i x w (record { earlier = go x s (dec_lt x n); parent = s.parent; typ = s.typ; inst = s.inst });
    stood = λ y i w c. let r = a.stood y i w c in (r.0, record { earlier = omega (arith, r.1.earlier); parent = r.1.parent; typ = r.1.typ; inst = r.1.inst });
  }
    where
      go : {y i : ℕ} (x : ℕ) → Before t p n' y i x → Dec (x < n) → x < n
      go x s (yes h) = h
      go x s (no h) = absurd (none x (omega arith) s.earlier s.parent)

  -- a row of the level
  pub tells-next : (ms : List ℕ) (n : ℕ) (h : Element) → row_parent t n ≡ p → row_type t n ≡ h.typ → row_instance t n ≡ h.inst
      → Tells b k v t p ms n → Tells b k v t p (marked b k v ms h) (n + 1)
  tells-next ms n h ep et ei a = record { size = marked-length b k v ms h ∙ a.size; marks = λ y i x w s. old y i x w s (dec_lt x n); stood = λ y i w c. new y i w (new-mark b fine k v w ms h c) }
    where
      old : (y i x : ℕ) → Once b k v y i → Before t p (n + 1) y i x → Dec (x < n) → get_or (marked b k v ms h) (seek (listing b v) k y i) 0 ≢ 0
      old y i x w s (yes l) = marks_stay b k v ms h (seek (listing b v) k y i) (a.marks y i x w (record { earlier = l; parent = s.parent; typ = s.typ; inst = s.inst }))
      old y i x w s (no l) =
          let z : x ≡ n = omega (arith, s.earlier) in
          let ey : h.typ ≡ y = sym et ∙ ap (row_type t) (sym z) ∙ s.typ in
          let ej : h.inst ≡ i = sym ei ∙ ap (row_instance t) (sym z) ∙ s.inst in
          let e : line_number b k v h ≡ seek (listing b v) k y i = rw (ey, ej) in
          rw (← e) (own-mark b k v ms h (rw e (lt-ltb _ _ w.listed)) (rw e (omega (arith, level-size b fine v, w.listed, a.size))))

      new : (y i : ℕ) → Once b k v y i → (get_or ms (seek (listing b v) k y i) 0 ≢ 0) ⊎ ((h.typ ≡ y) × (h.inst ≡ i)) → (x : ℕ) × Before t p (n + 1) y i x
      new y i w (inl c) = let r = a.stood y i w c in (r.0, record { earlier = omega (arith, r.1.earlier); parent = r.1.parent; typ = r.1.typ; inst = r.1.inst })
      new y i w (inr c) = (n, record { earlier = omega arith; parent = ep; typ = et ∙ c.0; inst = ei ∙ c.1 })

-- ---- the standing

-- row n of the table is an element with head h, at the place `at`, with the parent p
pub record RowIs (m t : List ℕ) (p at n : ℕ) (h : Element) : Type 0 where
  pub parent : row_parent t n ≡ p
  pub typ : row_type t n ≡ h.typ
  pub inst : row_instance t n ≡ h.inst
  pub place : row_place t n ≡ at + element_header
  pub len : row_length t n ≡ h.len
  pub first : first_value m t n ≡ h.first
  pub within : frames_of (take (row_length t n) (drop (row_place t n) m)) ≡ h.within

-- two first value octets, where an empty value has 0
pub same_first : (n o : ℕ) (c : Bool) → (c ≡ false → n ≡ o) → cond c 0 n ≡ cond c 0 o
same_first n o true f = refl
same_first n o false f = f refl

not-not : (n : ℕ) → not (eqb n 0) ≡ true → n ≢ 0
not-not n e z = let y : not (eqb 0 0) ≡ true = rw z at e in let w : ◌≡◌ {A = ℕ} 0 1 = cc in omega arith

module _ (b : Book) (k : ℕ) (m t : List ℕ) (v p at n : ℕ) (ms : List ℕ) (h : Element) (tells : Tells b k v t p ms n) (lev : level_of b k (body_level b m) t p ≡ v)
    (row : RowIs m t p at n h) where
  its-listing : its_listing b k m t n ≡ listing b v
  its-listing = ap (λ (x : ℕ). listing b (level_of b k (body_level b m) t x)) row.parent ∙ ap (listing b) lev

  its-number : its_number b k m t n ≡ line_number b k v h
  its-number = rw (its-listing, row.typ, row.inst)

  its-line : get_or (its_listing b k m t n) (its_number b k m t n) empty_line ≡ line_in b k v h
  its-line = rw (its-number, its-listing)

  its-many : (get_or (its_listing b k m t n) (its_number b k m t n) empty_line).many ≡ (line_in b k v h).many
  its-many = rw (its-number, its-listing)

  listed-is : Listed b k m t n → is_listed b k v h ≡ true
  listed-is l = lt-ltb _ _ (rw (its-number, its-listing) at l)

  is-listed : is_listed b k v h ≡ true → Listed b k m t n
  is-listed e = rw (its-number, its-listing) (ltb-true _ _ e)

  not-again : is_listed b k v h ≡ true → not (line_in b k v h).many && stood_earlier b k v ms h ≡ false → Again b k m t n → ⊥
  not-again a c g =
      let s = g.earlier in
      let y : (line_in b k v h).many ≡ false = sym its-many ∙ g.once in
      let z = tells.marks h.typ h.inst s.0 (record { listed = ltb-true _ _ a; once = y })
      (record { earlier = s.1; parent = s.2.parent ∙ row.parent; typ = s.2.typ ∙ row.typ; inst = s.2.inst ∙ row.inst }) in
      clash (not (line_in b k v h).many && stood_earlier b k v ms h) (rw (y, ne_eqb _ 0 z)) c

  is-again : is_listed b k v h ≡ true → (line_in b k v h).many ≡ false → stood_earlier b k v ms h ≡ true → Again b k m t n
  is-again a c d =
      let s = tells.stood h.typ h.inst (record { listed = ltb-true _ _ a; once = c }) (not-not _ d) in record {
        once = its-many ∙ c;
        earlier = (s.0, s.1.earlier, record { parent = s.1.parent ∙ sym row.parent; typ = s.1.typ ∙ sym row.typ; inst = s.1.inst ∙ sym row.inst });
      }

  its-least : its_least b k m t n ≡ least_of h.typ h.first
  its-least = ap (λ (y : ℕ). least_of y (first_value m t n)) row.typ ∙ ap (least_of h.typ) row.first

  is_below : is_short h ≡ true → Below b k m t n
  unfolding is_short
  is_below e = omega (arith, ltb-true h.len (least_of h.typ h.first) e, its-least, row.len)

  not-below : is_short h ≡ false → Below b k m t n → ⊥
  unfolding is_short
  not-below e l = omega (arith, ltb-false h.len (least_of h.typ h.first) e, l, its-least, row.len)

  its-over : exceeds (its_limits b k m t n) (its_frames b k m t n) ≡ is_over b k v h
  its-over = ap (λ (l : Line). exceeds l.limits (its_frames b k m t n)) its-line ∙ ap (exceeds (line_in b k v h).limits) row.within

  by_case : {s : ℕ} → Case b k v ms h s → StandsAs b k m t n s
  by_case (is_unexpected a) = StandsAs.is_unexpected (λ l. clash (is_listed b k v h) (listed-is l) a)
  by_case (is_repeated a c d) = StandsAs.is_repeated (is-listed a) (is-again a c d)
  by_case (is-short a c d) = StandsAs.is-short (is-listed a) (not-again a c) (is_below d)
  by_case (is-kept a c d f) = StandsAs.is-kept (is-listed a) (not-again a c) (not-below d) (λ o. clash (is_over b k v h) (sym its-over ∙ o) f)
  by_case (is_void a c d f) = StandsAs.is_void (is-listed a) (not-again a c) (not-below d) (its-over ∙ f)

  pub stands : StandsAs b k m t n (standing b k v ms h)
  stands = by_case (standing_case b k v ms h)
