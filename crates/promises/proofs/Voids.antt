-- Which rows are void is found by the listings: one line alone has a limit, it is 180/0 in the body of 67, on every kind, and that body is the inside of no
-- group. No row stands inside a void row, since only kept groups are parents; so nothing there is short or missing. Assumes nothing.
--     report-void, report-kept                a row is void exactly where it is a report with more than ten elements 71/0 inside; any other report is kept
--     void_childless, void-apart, void-lacks   no row has a void row for its parent or begins inside one, and no pair is required there
--     never-named                              11 and 12 name no place there
use mathlib.Core.Path.{◌≡◌, refl, sym, ap, ◌∙◌}
use mathlib.Core.Logic.{◌⊎◌, inl, inr, ◌↔◌, ◌≢◌}
use mathlib.Core.Bool.{Bool, true, false, cond, not, ◌&&◌, ◌||◌, or-false}
use mathlib.Core.List.{List, [], ◌∷◌}
use Prim.Native.Nat.{ℕ, zero, suc, ◌+◌, ◌≤◌, ◌<◌}
use native.Mathlib.Omega.{arith}
use native.Mathlib.Decide.{dec_lt}
use borrow.Author.Tests.{eqb-true, eqb-false, eq-eqb, ltb-true, lt-ltb, le-ltb}
use lib.Dec.{eqb, ltb}
use lib.ListN.{length, get_or, get_or-eq_default}
use Rattle.rules.specs.Framing.{message_type}
use Rattle.rules.specs.Types.{groups, is_group, least_of, among}
use Rattle.rules.specs.Listings.{Book, Line, Message, empty_line, no_message, levels, messages, book, seek, seek_message, listing, message_of, many, at_most, group, in_180/0_of_67}
use Rattle.rules.specs.Frames.{Frame, tally, exceeds}
use Rattle.rules.specs.Standing.{Item, kept, void}
use Rattle.rules.specs.Table.{no_item, nth}
use Rattle.rules.specs.Taking.{body_level}
use Rattle.rules.specs.Sound.{sound, is_free, every_line}
use Rattle.rules.specs.Values.{row_parent, row_type, row_instance, row_standing}
use Rattle.rules.proofs.Lines.{and_left, and_right, seek-lists, lists-is, every-line-at}
use Rattle.rules.proofs.Covers.{free-exceeds, group-least}
use Rattle.rules.proofs.Header.{Passed}
use Rattle.rules.proofs.Rows.{header-least}
use Rattle.rules.specs.Verdicts.{refused, call_verdict}
use Rattle.rules.specs.declared.Verdict.{Verdict}
use Rattle.tables.specs.Words.{first_value, rows, row_start, row_end, IsLevel}
use Rattle.tables.specs.Levels.{line_at, level_of, level_place}
use Rattle.tables.specs.Standings.{its_listing, its_number, its_frames, its_limits, Listed, Again, Below, Over}
use Rattle.tables.specs.IsTable.{IsTable}
use Rattle.tables.proofs.Tests.{clash, true_or, un_not, or_either}
use Rattle.tables.proofs.Levels.{level-next, level-group}
use Rattle.tables.proofs.Trees.{start_is, backward, past}
use Rattle.tables.proofs.Standings.{void_iff, kept_iff}
use Rattle.tables.proofs.Messages.{walked-of, all_placed, all-backward}
use Rattle.tables.proofs.Rowed.{level-of, count_of}
use Rattle.verdicts.specs.Missing.{Lacks}
use Rattle.verdicts.proofs.Completeness.{complete}
use Rattle.verdicts.proofs.Body.{in_body}
use Rattle.verdicts.proofs.Cases.{call_says}
use Rattle.verdicts.proofs.Calling.{roomy, thirteen}
use Rattle.verdicts.proofs.Refusing.{Outcome, no_room, too_short, missing, right, outcome}
use Rattle.promises.specs.Voids.{Report, points}

-- ---- the listings

-- the body of 67
abbrev body67 : ℕ
body67 = (message_of book 67).body

some-body : 0 ≢ body67
unfolding book messages message_of seek_message
some-body e = omega arith

abbrev report_line : Line
report_line = many (at_most 10 71 0 (group 180 0 in_180/0_of_67))

abbrev is_report : ℕ → Line → Bool
is_report v l = eqb v body67 && eqb l.typ 180 && eqb l.inst 0

-- a line of level v has no limits, or is 180/0 of 67; and its inside is not that body
abbrev line_test : ℕ → Line → Bool
line_test v l = (is_free l || is_report v l) && not (eqb l.inside body67)

unfoldable every_level_at : (ℕ → Line → Bool) → ℕ → List (List Line) → Bool
every_level_at test n [] = true
every_level_at test n (ls ∷ more) = every_line (test n) ls && every_level_at test (suc n) more

level-at : (test : ℕ → Line → Bool) (n : ℕ) (lss : List (List Line)) → every_level_at test n lss ≡ true → (v : ℕ) → every_line (test (n + v)) (get_or lss v []) ≡ true
unfolding every_level_at every_line
level-at test n [] e v = refl
level-at test n (ls ∷ more) e zero =
    let z : n + 0 ≡ n = omega arith in rw z (and_left (every_line (test n) ls) (every_level_at test (suc n) more) e)
level-at test n (ls ∷ more) e (suc v) =
    let z : n + suc v ≡ suc n + v = omega arith in
    rw z (level-at test (suc n) more (and_right (every_line (test n) ls) (every_level_at test (suc n) more) e) v)

book-lines : every_level_at line_test 0 book.levels ≡ true
unfolding every_level_at every_line book levels messages message_of seek_message
book-lines = refl

line_tested : (v j : ℕ) → j < length (listing book v)
    → (is_free (get_or (listing book v) j empty_line) || is_report v (get_or (listing book v) j empty_line) ≡ true) × ((get_or (listing book v) j empty_line).inside ≢ body67)
unfolding listing
line_tested v j l =
    let z : 0 + v ≡ v = omega arith in
    let n = get_or (get_or book.levels v []) j empty_line in
    let e : every_line (line_test v) (get_or book.levels v []) ≡ true = rw z at (level-at line_test 0 book.levels book-lines v) in
    let t = every-line-at (line_test v) (get_or book.levels v []) e j l in
    (and_left (is_free n || is_report v n) (not (eqb n.inside body67)) t, eqb-false n.inside body67 (un_not (eqb n.inside body67) (and_right (is_free n || is_report v n) (not (eqb n.inside body67)) t)))

-- the body of 67 is the inside of no line
body-inside : (v k y i : ℕ) → (line_at book k v y i).inside ≢ body67
body-inside v k y i e = go (dec_lt (seek (listing book v) k y i) (length (listing book v)))
  where
    go : Dec (seek (listing book v) k y i < length (listing book v)) → ⊥
    go (yes l) = (line_tested v (seek (listing book v) k y i) l).1 e
    go (no l) =
        let z : line_at book k v y i ≡ empty_line = get_or-eq_default (listing book v) empty_line (omega arith) in some-body (sym (ap (λ (x : Line). x.inside) z) ∙ e)

-- a pair whose line has limits is 180/0 in the body of 67
record Limited (v y i : ℕ) : Type 0 where
  level : v ≡ body67
  typ : y ≡ 180
  inst : i ≡ 0

limited : (v k y i : ℕ) → seek (listing book v) k y i < length (listing book v) → is_free (line_at book k v y i) ≡ false → Limited v y i
limited v k y i l f = go (or_either (is_free n) (is_report v n) (line_tested v (seek (listing book v) k y i) l).0)
  where
    n : Line
    n = line_at book k v y i

    go : (is_free n ≡ true) ⊎ (is_report v n ≡ true) → Limited v y i
    go (inl e) = absurd (clash (is_free n) e f)
    go (inr e) =
        let a = and_left (eqb v body67 && eqb n.typ 180) (eqb n.inst 0) e in
        let s = lists-is k y i n (seek-lists (listing book v) k y i l) in
        let z : n.inst ≡ 0 = eqb-true n.inst 0 (and_right (eqb v body67 && eqb n.typ 180) (eqb n.inst 0) e) in
        let w : eqb 0 i || eqb 0 16 ≡ true = rw z at s.inst in
        record {
          level = eqb-true v body67 (and_left (eqb v body67) (eqb n.typ 180) a);
          typ = sym s.typ ∙ eqb-true n.typ 180 (and_right (eqb v body67) (eqb n.typ 180) a);
          inst = sym (own (or_either (eqb 0 i) (eqb 0 16) w));
        }
      where
        own : (eqb 0 i ≡ true) ⊎ (eqb 0 16 ≡ true) → 0 ≡ i
        own (inl c) = eqb-true 0 i c
        own (inr c) = let z : ◌≡◌ {A = ℕ} 0 1 = cc in absurd (omega arith)

-- no other message has that body
abbrev body_test : Message → Bool
body_test x = not (eqb x.body body67) || eqb x.typ 67

unfoldable each_message : List Message → Bool
each_message [] = true
each_message (x ∷ xs) = body_test x && each_message xs

book_bodies : each_message book.messages ≡ true
unfolding each_message book messages message_of seek_message
book_bodies = refl

type_by : (xs : List Message) (y : ℕ) → each_message xs ≡ true → (get_or xs (seek_message xs y) no_message).body ≡ body67 → y ≡ 67
unfolding each_message seek_message
type_by [] y e z = absurd (some-body z)
type_by (x ∷ xs) y e z = go (eqb x.typ y) refl z (type_by xs y)
  where
    own : body_test x ≡ true → x.body ≡ body67 → x.typ ≡ 67
    own t w = by (or_either (not (eqb x.body body67)) (eqb x.typ 67) t)
      where
        by : (not (eqb x.body body67) ≡ true) ⊎ (eqb x.typ 67 ≡ true) → x.typ ≡ 67
        by (inl c) = absurd (eqb-false x.body body67 (un_not (eqb x.body body67) c) w)
        by (inr c) = eqb-true x.typ 67 c

    go : (c : Bool) → eqb x.typ y ≡ c → (get_or (x ∷ xs) (cond c 0 (suc (seek_message xs y))) no_message).body ≡ body67
        → (each_message xs ≡ true → (get_or xs (seek_message xs y) no_message).body ≡ body67 → y ≡ 67) → y ≡ 67
    go true f w more = sym (eqb-true x.typ y f) ∙ own (and_left (body_test x) (each_message xs) e) w
    go false f w more = more (and_right (body_test x) (each_message xs) e) w

-- on each kind its line is the one with the limit
report-line : (k : ℕ) → among k book.kinds ≡ true → line_at book k body67 180 0 ≡ report_line
unfolding book levels messages message_of seek_message listing seek
report-line k e = rw e

-- ---- which rows are void

limits-many : (f : List Frame) → exceeds report_line.limits f ≡ ltb 10 (tally 71 0 f)
unfolding exceeds
limits-many f = or-false (ltb 10 (tally 71 0 f))

module _ (k : ℕ) (m : List ℕ) (p : Passed book k m) (t : List ℕ) (x : IsTable book k m t) (r : ℕ) (l : r < rows t) where
  abbrev level : ℕ
  level = level_of book k (body_level book m) t (row_parent t r)

  -- ---- a report has that line

  level-is : Report m t r → level ≡ body67
  unfolding body_level
  level-is o = ap (level_of book k (body_level book m) t) o.level ∙ ap (λ (y : ℕ). (message_of book y).body) o.message

  line-is : Report m t r → get_or (its_listing book k m t r) (its_number book k m t r) empty_line ≡ report_line
  line-is o = rw (level-is o, o.typ, o.inst) (report-line k p.kind)

  is-listed : Report m t r → Listed book k m t r
  is-listed o = rw (level-is o, o.typ, o.inst) (go (dec_lt (seek (listing book body67) k 180 0) (length (listing book body67))))
    where
      go : Dec (seek (listing book body67) k 180 0 < length (listing book body67)) → seek (listing book body67) k 180 0 < length (listing book body67)
      go (yes h) = h
      go (no h) =
          let z : line_at book k body67 180 0 ≡ empty_line = get_or-eq_default (listing book body67) empty_line (omega arith) in
          absurd (omega (arith, ap (λ (n : Line). n.typ) (sym z ∙ report-line k p.kind)))

  -- it may repeat, and is never short
  not-again : Report m t r → Again book k m t r → ⊥
  not-again o a = clash report_line.many refl (sym (ap (λ (n : Line). n.many) (line-is o)) ∙ a.once)

  not-below : Report m t r → Below book k m t r → ⊥
  unfolding is_group groups
  not-below o c = omega (arith, c, ap (λ (y : ℕ). least_of y (first_value m t r)) o.typ, group-least 180 refl (first_value m t r))

  over-is : Report m t r → exceeds (its_limits book k m t r) (its_frames book k m t r) ≡ ltb 10 (points m t r)
  over-is o = ap (λ (n : Line). exceeds n.limits (its_frames book k m t r)) (line-is o) ∙ limits-many (its_frames book k m t r)

  -- ---- a row over a limit is a report

  is-limited : Listed book k m t r → Over book k m t r → Limited level (row_type t r) (row_instance t r)
  is-limited h o = limited level k (row_type t r) (row_instance t r) h (go (true_or (is_free n)))
    where
      n : Line
      n = get_or (its_listing book k m t r) (its_number book k m t r) empty_line

      go : (is_free n ≡ true) ⊎ (is_free n ≡ false) → is_free n ≡ false
      go (inl e) = absurd (clash (exceeds n.limits (its_frames book k m t r)) o (free-exceeds n.limits (its_frames book k m t r) e))
      go (inr e) = e

  -- the body of 67 is the level of no group's inside
  outermost : (q : ℕ) → row_parent t r ≡ q → level_of book k (body_level book m) t q ≡ body67 → (row_parent t r ≡ 0) × (message_type m ≡ 67)
  unfolding body_level message_of
  outermost zero e z = (e, type_by book.messages (message_type m) book_bodies z)
  outermost (suc q) e z =
      let g : IsLevel t (suc q) = rw e at (x.right.parents r l) in
      let w = level-next book k (body_level book m) t q g.there (backward book k m t x.right q g.there) in
      absurd (body-inside (level_of book k (body_level book m) t (row_parent t q)) k (row_type t q) (row_instance t q)
      (sym (ap (λ (c : Bool). cond c (line_at book k (level_of book k (body_level book m) t (row_parent t q)) (row_type t q) (row_instance t q)).inside 0) (eq-eqb (row_standing t q) kept g.stand)) ∙ sym w ∙ z))

  is-report : Listed book k m t r → Over book k m t r → Report m t r
  is-report h o =
      let s = is-limited h o in
      let u = outermost (row_parent t r) refl s.level in record { message = u.1; level = u.0; typ = s.typ; inst = s.inst }

  pub report-void : (row_standing t r ≡ void) ↔ (Report m t r × (10 < points m t r))
  report-void = (to, from)
    where
      to : row_standing t r ≡ void → Report m t r × (10 < points m t r)
      to e =
          let v = (void_iff book k m t x.right r l).0 e in
          let o = is-report v.0 v.3 in
          (o, ltb-true 10 (points m t r) (sym (over-is o) ∙ v.3))

      from : Report m t r × (10 < points m t r) → row_standing t r ≡ void
      from (o, n) = (void_iff book k m t x.right r l).1 (is-listed o, not-again o, not-below o, over-is o ∙ lt-ltb 10 (points m t r) n)

  pub report-kept : Report m t r → points m t r ≤ 10 → row_standing t r ≡ kept
  report-kept o n =
      (kept_iff book k m t x.right r l).1
      (is-listed o, not-again o, not-below o, λ e. clash (ltb 10 (points m t r)) (sym (over-is o) ∙ e) (le-ltb 10 (points m t r) n))

-- ---- nothing stands inside a void row

-- the level of a row's inside is that of its element
pub row-level : (b : Book) (fine : sound b ≡ true) (k : ℕ) (m : List ℕ) → Passed b k m → (t : List ℕ) (x : IsTable b k m t) (r : ℕ)
    → level_of b k (body_level b m) t (suc r) ≡ (nth (complete b fine k m t x).0 r).inside
row-level b fine k m p t x r =
    let c = complete b fine k m t x in
    let d = walked-of b k m c.0 c.1 in
    level-of b k (body_level b m) t c.0 c.2 (all_placed b fine k m c.0 d p.listed) (all-backward b fine k m c.0 d) (suc r)

module _ (b : Book) (fine : sound b ≡ true) (k : ℕ) (m t : List ℕ) (x : IsTable b k m t) (q : ℕ) (l : q < rows t) (e : row_standing t q ≡ void) where
  no-level : IsLevel t (suc q) → ⊥
  no-level g = omega (arith, e, g.stand)

  pub void_childless : (r : ℕ) → r < rows t → row_parent t r ≢ suc q
  void_childless r h z = no-level (rw z at (x.right.parents r h))

  -- a row begins before it or behind its value
  pub void-apart : (r : ℕ) → r < rows t → r ≢ q → (row_start t r < row_start t q) ⊎ (row_end t q ≤ row_start t r)
  void-apart r h n = go (dec_lt r q)
    where
      go : Dec (r < q) → (row_start t r < row_start t q) ⊎ (row_end t q ≤ row_start t r)
      go (yes u) = inl (omega (arith, x.right.order r q u l, start_is b k m t x.right r h, start_is b k m t x.right q l))
      go (no u) = inr (past b k m t x.right q r (omega (arith, n)) h no-level)

  pub void-lacks : (j : ℕ) → Lacks b k (body_level b m) t (suc q) j → ⊥
  void-lacks j c = no-level (level-group b fine k (body_level b m) t q l (backward b k m t x.right q l) c.level)

  -- it begins behind the message's header
  begins-late : 0 < row_start t q
  begins-late = omega (arith, in_body b fine k m t x.right 0 (λ o g j a c h. absurd (omega arith)) q l, header-least m)

  -- 11 and 12 name no place in it
  abbrev Outside : ℕ → Type 0
  Outside place = (place < row_start t q) ⊎ (row_end t q ≤ place)

  -- a level with an inside is a row's
  level-row : Passed b k m → (r : ℕ) → 0 < level_of b k (body_level b m) t (suc r) → r < rows t
  level-row p r h =
      let c = complete b fine k m t x in go c.0 (count_of t c.0 c.2) (dec_lt r (length c.0)) (omega (arith, h, row-level b fine k m p t x r))
    where
      go : (es : List Item) → rows t ≡ length es → Dec (r < length es) → 0 < (nth es r).inside → r < rows t
      go es n (yes u) i = omega arith
      go es n (no u) i = let z : nth es r ≡ no_item = get_or-eq_default es no_item (omega arith) in absurd (omega (arith, i, ap (λ (y : Item). y.inside) z))

  named-outside : Passed b k m → (room : ℕ) {v : Verdict} → Outcome b fine k m t room v → 11 ≤ v.code → Outside v.place
  named-outside p room (no_room u) c = absurd (omega arith)
  named-outside p room (too_short u r f) c = void-apart r f.is-short.there (λ z. omega (arith, e, f.is-short.stand, ap (row_standing t) z))
  named-outside p room (missing u s o j f) c = go o f.lacks
    where
      go : (o : ℕ) → Lacks b k (body_level b m) t o j → Outside (level_place b k (body_level b m) t o)
      go zero d = inl begins-late
      go (suc r) d =
          let h = level-row p r d.level in
          let g = level-group b fine k (body_level b m) t r h (backward b k m t x.right r h) d.level in
          void-apart r h (λ z. omega (arith, e, g.stand, ap (row_standing t) z))
  named-outside p room (right u s n) c = absurd (omega arith)

  -- 13, which stands behind 12 by its number, names the place 0
  pub never-named : Passed b k m → (octets room : ℕ) → 11 ≤ (call_verdict b k m octets room).code → Outside (call_verdict b k m octets room).place
  never-named p octets room c = go (dec_lt octets (length m))
    where
      go : Dec (octets < length m) → Outside (call_verdict b k m octets room).place
      go (yes h) =
          let z : call_verdict b k m octets room ≡ refused 13 0 = call_says b fine k m room octets 10 (omega arith) ((thirteen b fine k m octets room).1 (h, (p, (t, x)))) in
          rw z (inl begins-late)
      go (no h) = let z = roomy b fine k m octets room (omega arith) in rw z (named-outside p room (outcome b fine k m p t x room) (rw z at c))
