-- Covered octets do not bear on verdict, table or copy: a head differs at most in a first value octet that is covered, and that one bears on no
-- standing; what voids a group hangs on headers inside it, which are open. So the same elements are taken. Assumes nothing.
--     same_met                                   a run of octets that differs in covered octets at most has the same rows
--     same_reading, same_taken, same-covered     so has a message: it is refused by 1 to 9 or has the same rows and covered octets
--     same-is-table                              and the same table
--     same-verdict                               so it gets the same verdict, with no copy asked for
--     same-mask-verdict, same-masked, same_copy  and with no table the same verdict and copy
use mathlib.Core.Path.{◌≡◌, refl, sym, ap, ◌∙◌}
use mathlib.Core.Bool.{Bool, true, false, cond}
use mathlib.Core.List.{List, [], ◌∷◌, ◌++◌}
use Prim.Native.Nat.{ℕ, suc, ◌+◌, ◌-◌, ◌≤◌, ◌<◌}
use native.Mathlib.Omega.{arith}
use native.Mathlib.Nat.{pos_of_ne-zero}
use borrow.Author.Tests.{eqb-false}
use lib.Dec.{eqb}
use lib.ListN.{length, take, drop, length-take, length-drop}
use lib.Seq.{get_or-take, get_or-drop, ext_get_or}
use Rattle.rules.specs.Framing.{octet, element_header, value_length, head_of, version, flag_p, flag_t, message_type, length_field, header_length}
use Rattle.rules.specs.Types.{covers_whole, covers_rest}
use Rattle.rules.specs.Frames.{Element, seen, frames_of, exceeds}
use Rattle.rules.specs.Listings.{Book, Line, message_of}
use Rattle.rules.specs.Standing.{Item, fresh, void, line_in, is_over, value_place, item_of, standing, marked, entered}
use Rattle.rules.specs.Taking.{whole, taken, body_level}
use Rattle.rules.specs.Met.{At, Met, ends, alone, group}
use Rattle.rules.specs.Values.{is_of}
use Rattle.rules.specs.Verdicts.{first, refuses, header_checks, framing_checks, judge_checks, mask_checks, judge_verdict, mask_verdict}
use Rattle.rules.specs.Covered.{is_aside, covered_in, covered, masked, mask_copy}
use Rattle.rules.specs.Sound.{sound, is_free}
use Rattle.rules.specs.declared.Head.{Head}
use Rattle.rules.proofs.Heads.{whole_head, room_whole, at_is, at-within, at_len, fits, value-length}
use Rattle.rules.proofs.Frames.{frames-of, over-filled, filled-same}
use Rattle.rules.proofs.Mets.{met-whole}
use Rattle.rules.proofs.Rows.{header-least}
use Rattle.rules.proofs.Covers.{Like, first_covered, same_line, free-there, stand-covered, stand_open, same-entered, same_item, same-marks, group_open, kept-hidden, void-over, void-limited, void_open, void-hides, limited-void}
use Rattle.rules.proofs.Header.{Passed, framed}
use Rattle.tables.specs.IsTable.{IsTable}
use Rattle.tables.proofs.Soundness.{is-table}
use Rattle.verdicts.proofs.Completeness.{complete}
use Rattle.verdicts.proofs.Accepting.{passes}
use Rattle.promises.specs.Agreeing.{SameOpen}
use Rattle.promises.proofs.Covering.{by_before, by-past, by_open, by_first, none_hidden, in_cons, in_both, before, beyond, met-filled, Framed, rows-framed, body-framed, open_refused, covered-rows, header_open}
use Rattle.promises.proofs.Clearing.{masked-length, masked-at}

-- ---- heads

module _ {xs : List ℕ} {h : Element} (a : At xs h) (ys : List ℕ) (size : length ys ≡ length xs)
    (same : (j : ℕ) → j < element_header → octet xs j ≡ octet ys j) where
  same_length : value_length ys ≡ value_length xs
  same_length = rw (same 1 (omega arith), same 2 (omega arith))

  head-of_second : head_of ys ≡ whole_head ys
  head-of_second = room_whole ys (omega (arith, fits a, same_length, at_len a))

  -- the second differs in the first value octet and in what stands inside at most
  like : Like h (seen ys)
  unfolding seen
  like =
      rw (head-of_second, at_is a)
      (record { whole = refl; typ = sym (same 0 (omega arith)); inst = rw (same 3 (omega arith)); len = same_length })

  -- and not in the first value octet, if the two agree wherever there is one
  same_first : (0 < h.len → octet xs element_header ≡ octet ys element_header) → (seen ys).first ≡ h.first
  unfolding seen
  same_first fifth = rw (head-of_second, at_is a, same_length) (go (eqb (value_length xs) 0) refl)
    where
      go : (z : Bool) → eqb (value_length xs) 0 ≡ z
          → cond (eqb (value_length xs) 0) 0 (octet ys element_header) ≡ cond (eqb (value_length xs) 0) 0 (octet xs element_header)
      go true e = rw e
      go false e = rw e (sym (fifth (omega (arith, at_len a, pos_of_ne-zero (eqb-false (value_length xs) 0 e)))))

  -- nor in what stands inside, if that agrees
  same-within : frames_of (take h.len (drop element_header ys)) ≡ h.within → (seen ys).within ≡ h.within
  unfolding seen
  same-within w =
      let l : (head_of ys).len ≡ h.len = ap (λ (x : Head). x.len) head-of_second ∙ same_length ∙ sym (at_len a) in
      ap (λ (n : ℕ). frames_of (take n (drop element_header ys))) l ∙ w

-- ---- runs

-- ys agrees with xs, whose first octet is at `at`, wherever the rows do not cover it
abbrev pub Agree : ℕ → List Item → List ℕ → List ℕ → Type 0
Agree at rs xs ys = (j : ℕ) → j < length xs → covered_in rs (at + j) ≡ false → octet xs j ≡ octet ys j

-- the octets from c on
agree-drop : (at c : ℕ) (rs qs : List Item) (xs ys : List ℕ) → Agree at rs xs ys
    → ((j : ℕ) → at + c ≤ j → covered_in qs j ≡ false → covered_in rs j ≡ false) → Agree (at + c) qs (drop c xs) (drop c ys)
agree-drop at c rs qs xs ys a f j l u =
    let e : at + c + j ≡ at + (c + j) = omega arith in
    rw (get_or-drop c xs j 0, get_or-drop c ys j 0) (a (c + j) (omega (arith, length-drop c xs)) (rw e at (f (at + c + j) (omega arith) u)))

-- the first c octets
agree-take : (at c : ℕ) (rs qs : List Item) (xs ys : List ℕ) → Agree at rs xs ys
    → ((j : ℕ) → at ≤ j → j < at + c → covered_in qs j ≡ false → covered_in rs j ≡ false) → Agree at qs (take c xs) (take c ys)
agree-take at c rs qs xs ys a f j l u =
    let i : j < c = omega (arith, length-take c xs) in
    rw (get_or-take c xs j 0, get_or-take c ys j 0) (a j (omega (arith, length-take c xs)) (f (at + j) (omega arith) (omega arith) u))

-- An element with head h stands at the head of xs, and ys agrees with xs but for what it or the rows rs cover, which begin after the next header.
record Beside (b : Book) (k v : ℕ) (m : List ℕ) (p at : ℕ) (xs ys : List ℕ) (h : Element) (rs : List Item) : Type 0 where
  head : At xs h
  size : length ys ≡ length xs
  agree : Agree at (item_of b k v m p at h ∷ rs) xs ys
  early : (j : ℕ) → j < at + element_header + element_header → covered_in rs j ≡ false

module _ {b : Book} {k v : ℕ} {m : List ℕ} {p at : ℕ} {xs ys : List ℕ} {h : Element} {rs : List Item} (s : Beside b k v m p at xs ys h rs) where
  first_four : (j : ℕ) → j < element_header → octet xs j ≡ octet ys j
  unfolding item_of
  first_four j l =
      let i = item_of b k v m p at h in
      s.agree j (omega (arith, fits s.head)) (in_cons i rs (at + j) (by_before i (at + j) (omega arith)) (s.early (at + j) (omega arith)))

  the_fifth : first_covered h.typ (standing b k v m h) ≡ false → 0 < h.len → octet xs element_header ≡ octet ys element_header
  unfolding item_of
  the_fifth c l =
      let i = item_of b k v m p at h in
      s.agree element_header (omega (arith, fits s.head)) (in_cons i rs (at + element_header) (by_first i c) (s.early (at + element_header) (omega arith)))

  alike : Like h (seen ys)
  alike = like s.head ys s.size first_four

  size-drop : (c : ℕ) → length (drop c ys) ≡ length (drop c xs)
  size-drop c = rw (length-drop c xs, length-drop c ys, s.size)

  size-value : length (take h.len (drop element_header ys)) ≡ length (take h.len (drop element_header xs))
  size-value = rw (length-take h.len (drop element_header xs), length-take h.len (drop element_header ys), size-drop element_header)

  -- what follows the element
  agree-rest : (qs : List Item) → ((j : ℕ) → at + element_header + h.len ≤ j → covered_in qs j ≡ false → covered_in rs j ≡ false)
      → Agree (at + element_header + h.len) qs (drop (element_header + h.len) xs) (drop (element_header + h.len) ys)
  unfolding item_of
  agree-rest qs f =
      let i = item_of b k v m p at h in
      let c : at + (element_header + h.len) ≡ at + element_header + h.len = omega arith in
      rw c at (agree-drop at (element_header + h.len) (item_of b k v m p at h ∷ rs) qs xs ys s.agree
      (λ j l u. in_cons i rs j (by-past i j (omega arith)) (f j (omega arith) u)))

  -- the inside of a group, which covers nothing for its own sake
  agree-value : first_covered h.typ (standing b k v m h) ≡ false → covers_rest h.typ ≡ false → (item_of b k v m p at h).hidden ≡ []
      → (qs : List Item) → ((j : ℕ) → j < at + element_header + h.len → covered_in qs j ≡ false → covered_in rs j ≡ false)
      → Agree (at + element_header) qs (take h.len (drop element_header xs)) (take h.len (drop element_header ys))
  unfolding item_of
  agree-value o r w qs f =
      let i = item_of b k v m p at h in
      agree-take (at + element_header) h.len (i ∷ rs) qs (drop element_header xs) (drop element_header ys)
      (agree-drop at element_header (i ∷ rs) (i ∷ rs) xs ys s.agree (λ j l u. u))
      (λ j l c u. in_cons i rs j (by_open i j o r (none_hidden i w (j - value_place i))) (f j c u))

module _ {b : Book} (fine : sound b ≡ true) {k v : ℕ} {m : List ℕ} {p at : ℕ} {xs ys : List ℕ} {h : Element} {rs : List Item} (s : Beside b k v m p at xs ys h rs)
    (inside : is_free (line_in b k v h) ≡ false → is_aside (standing b k v m h) ≡ false → frames_of (take h.len (drop element_header ys)) ≡ h.within) where
  -- the first value octet is covered and bears on no standing, or it is the same; and so with what stands inside
  over-there : is_aside (standing b k v m h) ≡ false → is_over b k v (seen ys) ≡ is_over b k v h
  over-there a = go (is_free (line_in b k v h)) refl
    where
      go : (c : Bool) → is_free (line_in b k v h) ≡ c → is_over b k v (seen ys) ≡ is_over b k v h
      go true c = free-there b fine k v m h (seen ys) (alike s) c
      go false c =
          ap (λ (l : Line). exceeds l.limits (seen ys).within) (same_line b fine k v m h (seen ys) (alike s))
          ∙ ap (exceeds (line_in b k v h).limits) (same-within s.head ys s.size (first_four s) (inside c a))

  stands : standing b k v m (seen ys) ≡ standing b k v m h
  stands = go (is_aside (standing b k v m h)) (covers_whole h.typ) refl refl
    where
      go : (x y : Bool) → is_aside (standing b k v m h) ≡ x → covers_whole h.typ ≡ y → standing b k v m (seen ys) ≡ standing b k v m h
      go true y c d = stand-covered b fine k v m h (seen ys) (alike s) (rw c)
      go false true c d = stand-covered b fine k v m h (seen ys) (alike s) (rw (c, d))
      go false false c d =
          stand_open b fine k v m h (seen ys) (alike s) (same_first s.head ys s.size (first_four s) (the_fifth s (rw (c, d)))) (over-there c)

  void-there : standing b k v m h ≡ void → (seen ys).within ≡ h.within
  void-there e = same-within s.head ys s.size (first_four s) (inside (void-limited b fine k v m h e) (rw e))

  whole-there : At ys (seen ys)
  whole-there = record { is = refl; whole = (alike s).whole ∙ s.head.whole }

  item-there : item_of b k v m p at (seen ys) ≡ item_of b k v m p at h
  item-there = same_item b fine k v m h (seen ys) (alike s) stands void-there p at

  entered-there : entered b k v m (seen ys) ≡ entered b k v m h
  entered-there = same-entered b fine k v m h (seen ys) (alike s) stands

  rest-there : {n : ℕ} {es : List Item} → Met b k v (marked b k v m h) p n (at + element_header + h.len) (drop (element_header + h.len) ys) es
      → Met b k v (marked b k v m (seen ys)) p n (at + element_header + (seen ys).len) (drop (element_header + (seen ys).len) ys) es
  rest-there t = rw (same-marks b fine k v m h (seen ys) (alike s) stands, (alike s).len) t

  -- the element stands there too
  alone-there : {n : ℕ} {es : List Item} → entered b k v m h ≡ 0
      → Met b k v (marked b k v m h) p (n + 1) (at + element_header + h.len) (drop (element_header + h.len) ys) es
      → Met b k v m p n at ys (item_of b k v m p at h ∷ es)
  alone-there e t = rw item-there at (alone (seen ys) whole-there (entered-there ∙ e) (rest-there t))

  group-there : {n g : ℕ} {is es : List Item} → entered b k v m h ≡ suc g
      → Met b k (suc g) fresh (n + 1) (n + 1) (at + element_header) (take h.len (drop element_header ys)) is
      → Met b k v (marked b k v m h) p (n + 1 + length is) (at + element_header + h.len) (drop (element_header + h.len) ys) es
      → Met b k v m p n at ys (item_of b k v m p at h ∷ (is ++ es))
  group-there {n} {g} {is} {es} e d t =
      let d₁ : Met b k (suc g) fresh (n + 1) (n + 1) (at + element_header) (take (seen ys).len (drop element_header ys)) is = rw (alike s).len d in
      rw item-there at (group (seen ys) g whole-there (entered-there ∙ e) d₁ (rest-there t))

-- a void group: what stands inside it is open but for its values, so the same stands there
void-inside : {b : Book} → sound b ≡ true → {k v : ℕ} {m : List ℕ} {p at : ℕ} {xs ys : List ℕ} {h : Element} {rs : List Item} → Beside b k v m p at xs ys h rs
    → ((j : ℕ) → j < at + element_header + h.len → covered_in rs j ≡ false) → standing b k v m h ≡ void
    → frames_of (take h.len (drop element_header ys)) ≡ h.within
unfolding item_of
void-inside {b} fine {k} {v} {m} {p} {at} {xs} {ys} {h} {rs} s early e =
    let i = item_of b k v m p at h in
    let o = void_open b fine k v m h e in
    let w = at-within s.head in
    let d = over-filled (line_in b k v h).limits (take h.len (drop element_header xs)) (rw w at (void-over b fine k v m h e)) in
    rw w (frames-of (filled-same d (take h.len (drop element_header ys)) (size-value s)
    (λ j l u.
    let c : j < h.len = omega (arith, length-take h.len (drop element_header xs)) in
    let z : at + (element_header + j) - (at + element_header) ≡ j = omega arith in
    rw (get_or-take h.len (drop element_header xs) j 0 c, get_or-take h.len (drop element_header ys) j 0 c, get_or-drop element_header xs j 0, get_or-drop element_header ys j 0)
    (s.agree (element_header + j) (omega (arith, fits s.head))
    (in_cons i rs (at + (element_header + j)) (by_open i (at + (element_header + j)) o.0 o.1 (rw (z, void-hides b k v m p at h e, w) u)) (early (at + (element_header + j)) (omega arith)))))))

pub same_met : {b : Book} {k v : ℕ} {m : List ℕ} {p n at : ℕ} {xs : List ℕ} {es : List Item} → sound b ≡ true → Met b k v m p n at xs es
    → (ys : List ℕ) → length ys ≡ length xs → Agree at es xs ys → Met b k v m p n at ys es
same_met fine ends [] l a = ends
same_met fine ends (y ∷ ys) l a = absurd (omega arith)
same_met {b} {k} fine (alone {v = v} {m = m} {p = p} {at = at} {xs = xs} {es = es} h w e t) ys l a =
    let s : Beside b k v m p at xs ys h es = record { head = w; size = l; agree = a; early = λ j c. before t j (omega arith) } in
    alone-there fine s (λ c d. void-inside fine s (λ j u. before t j (omega arith)) (limited-void b fine k v m h c d e)) e
    (same_met fine t (drop (element_header + h.len) ys) (size-drop s (element_header + h.len)) (agree-rest s es (λ j c u. u)))
same_met {b} {k} fine (group {v = v} {m = m} {p = p} {at = at} {xs = xs} {is = is} {es = es} h g w e d t) ys l a =
    let o = group_open b fine k v m h g e in
    let early : (j : ℕ) → j < at + element_header + element_header → covered_in (is ++ es) j ≡ false
    = λ j c. in_both is es j (before d j (omega arith)) (before t j (omega arith)) in
    let s : Beside b k v m p at xs ys h (is ++ es) = record { head = w; size = l; agree = a; early = early } in
    let agree = agree-value s o.0 o.1 (kept-hidden b fine k v m h g e p at) is (λ j c u. in_both is es j u (before t j (omega arith))) in
    let f = met-filled d in
    let inside : frames_of (take h.len (drop element_header ys)) ≡ h.within
    = frames-of (filled-same f.1 (take h.len (drop element_header ys)) (size-value s) (λ j c u. agree j c (f.2 j u)))
    ∙ sym (at-within w ∙ frames-of f.1) in
    group-there fine s (λ c u. inside) e
    (same_met fine d (take h.len (drop element_header ys)) (size-value s) agree)
    (same_met fine t (drop (element_header + h.len) ys) (size-drop s (element_header + h.len))
    (agree-rest s es (λ j c u. in_both is es j (beyond d j (omega (arith, value-length xs h.len (fits w)))) u)))

-- ---- messages

-- all that is read of a message but its length
pub record SameReading (b : Book) (k : ℕ) (m n : List ℕ) : Type 0 where
  pub header : header_checks b k n ≡ header_checks b k m
  pub level : body_level b n ≡ body_level b m
  pub rows : taken b k n ≡ taken b k m
  pub typ : message_type n ≡ message_type m

module _ (b : Book) (k : ℕ) (m n : List ℕ) (size : length n ≡ length m) (first_four : (j : ℕ) → j < 4 → octet m j ≡ octet n j) where
  same_version : version n ≡ version m
  unfolding version
  same_version = rw (first_four 0 (omega arith))

  same-p : flag_p n ≡ flag_p m
  unfolding flag_p
  same-p = rw (first_four 0 (omega arith))

  same-t : flag_t n ≡ flag_t m
  unfolding flag_t
  same-t = rw (first_four 0 (omega arith))

  same_type : message_type n ≡ message_type m
  unfolding message_type
  same_type = rw (first_four 1 (omega arith))

  same-field : length_field n ≡ length_field m
  unfolding length_field
  same-field = rw (first_four 2 (omega arith), first_four 3 (omega arith))

  same-header-length : header_length n ≡ header_length m
  unfolding header_length
  same-header-length = rw same-t

  same-header : header_checks b k n ≡ header_checks b k m
  unfolding header_checks
  same-header = rw (size, same_version, same-header-length, same-p, same-field, same_type, same-t)

  same-level : body_level b n ≡ body_level b m
  unfolding body_level
  same-level = ap (λ (t : ℕ). (message_of b t).body) same_type

module _ (b : Book) (fine : sound b ≡ true) (k : ℕ) (m n : List ℕ) (s : SameOpen b k m n) where
  -- a message that is refused by 1 to 9 has no covered octet
  pub refused-same : refuses (first (framing_checks b k m)) ≡ true → n ≡ m
  refused-same e = sym (ext_get_or 0 m n (sym s.size) (λ j l. s.octets j l (open_refused b k m e j)))

  framed-rows : (f : Framed b k m) → ((j : ℕ) → covered_in f.rows j ≡ false → covered b k m j ≡ false)
      → header_length n ≡ header_length m → body_level b n ≡ body_level b m → taken b k n ≡ whole f.rows
  unfolding taken
  framed-rows f c h v =
      let from = header_length m in
      let agree : Agree from f.rows (drop from m) (drop from n)
      = λ j l u. rw (get_or-drop from m j 0, get_or-drop from n j 0) (s.octets (from + j) (omega (arith, length-drop from m)) (c (from + j) u)) in
      rw (h, v)
      (met-whole b k (body_level b m) from (drop from n)
      (same_met fine (body-framed b k m f) (drop from n) (rw (length-drop from m, length-drop from n, s.size)) agree))

  framed-same : refuses (first (framing_checks b k m)) ≡ false → SameReading b k m n
  framed-same e =
      let f = rows-framed b k m e in
      let four : (j : ℕ) → j < 4 → octet m j ≡ octet n j
      = λ j l. s.octets j (omega (arith, header-least m, f.passes.has_header)) (header_open b k m j (omega (arith, header-least m))) in
      let h = same-header-length b k m n s.size four in
      let v = same-level b k m n s.size four in
      record {
        header = same-header b k m n s.size four;
        level = v;
        typ = same_type b k m n s.size four;
        rows = framed-rows f (λ j u. covered-rows b k m e j ∙ rw f.takes u) h v ∙ sym f.takes;
      }

  pub same_reading : SameReading b k m n
  same_reading = go (refuses (first (framing_checks b k m))) refl
    where
      go : (r : Bool) → refuses (first (framing_checks b k m)) ≡ r → SameReading b k m n
      go true e = rw (refused-same e) (record { header = refl; level = refl; typ = refl; rows = refl })
      go false e = framed-same e

  -- ---- demand 3 (a)

  pub same_taken : taken b k n ≡ taken b k m
  same_taken = same_reading.rows

  pub same-framing : framing_checks b k n ≡ framing_checks b k m
  unfolding framing_checks
  same-framing = rw (same_reading.header, same_taken)

  -- and a table of the one is a table of the other
  pub same-is-table : Passed b k m → (t : List ℕ) → IsTable b k m t → IsTable b k n t
  same-is-table p t x =
      let y = complete b fine k m t x in
      let q = (framed b k n (rw (same-framing, passes b fine k m p y.0 y.1))).0 in
      is-table b fine k n t y.0 y.2 (same_taken ∙ y.1) q.has_header q.listed
      (record { of_type = x.right.of.of_type ∙ sym same_reading.typ; of_kind = x.right.of.of_kind })

  pub same-covered : (j : ℕ) → covered b k n j ≡ covered b k m j
  unfolding covered
  same-covered j = rw (same-framing, same_taken)

  -- what the lookups ask of a message, whose type is open
  pub same-is-of : (t : List ℕ) → is_of k n t ≡ is_of k m t
  unfolding is_of message_type
  same-is-of t = rw (s.size, same_reading.typ)

  pub same-verdict : (room : ℕ) → judge_verdict b k n room ≡ judge_verdict b k m room
  unfolding judge_checks
  same-verdict room = rw (same-framing, same_taken, same_reading.level)

  pub same-mask-verdict : (room : ℕ) → mask_verdict b k n room ≡ mask_verdict b k m room
  unfolding mask_checks
  same-mask-verdict room = rw (same-framing, s.size)

  -- a covered octet is zero in both, and any other is the same
  pub same-masked : refuses (first (framing_checks b k m)) ≡ false → masked b k n ≡ masked b k m
  same-masked e =
      let e' : refuses (first (framing_checks b k n)) ≡ false = rw same-framing e in
      ext_get_or 0 (masked b k n) (masked b k m) (masked-length b fine k n e' ∙ s.size ∙ sym (masked-length b fine k m e))
      (λ j l. masked-at b fine k n e' j
      ∙ (rw (same-covered j) (go j (omega (arith, masked-length b fine k n e', s.size)) (covered b k m j) refl))
      ∙ sym (masked-at b fine k m e j))
    where
      go : (j : ℕ) → j < length m → (c : Bool) → covered b k m j ≡ c → cond c 0 (octet n j) ≡ cond c 0 (octet m j)
      go j l true e = refl
      go j l false e = sym (s.octets j l e)

  pub same_copy : (copy : List ℕ) → mask_copy b k n copy ≡ mask_copy b k m copy
  unfolding mask_copy
  same_copy copy = go (refuses (first (framing_checks b k m))) refl
    where
      go : (r : Bool) → refuses (first (framing_checks b k m)) ≡ r → mask_copy b k n copy ≡ mask_copy b k m copy
      go true e = rw (refused-same e)
      go false e = rw (same-mask-verdict (length copy), same-masked e)
