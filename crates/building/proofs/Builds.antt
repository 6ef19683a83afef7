-- What is answered: by the checks before the message is made, and then by the message of the table's rows, which is the message that the rules build. Assumes nothing.
--     early-none, opens   the first checks pass exactly where a table opens         numbers-low   octets hold small numbers
--     Holds               a run of numbers that holds the table's rows         makes   it can be written
--     refused-early, refused-large, builds   the answer
use mathlib.Core.Path.{◌≡◌, refl, sym, ap, ◌∙◌}
use mathlib.Core.Bool.{Bool, true, false, cond, not}
use mathlib.Core.List.{List, [], ◌∷◌}
use Rattle.std.specs.Prelude.{Option, Some, None, is_some, Err}
use Prim.Native.Nat.{ℕ, zero, suc, ◌+◌, ◌-◌, ◌*◌, ◌≤◌, ◌<◌}
use native.Mathlib.Omega.{arith}
use borrow.Author.Tests.{lt-ltb, le-ltb}
use lib.Dec.{ltb}
use lib.ListN.{length, get_or, drop, length-append, length-drop}
use lib.Seq.{length-take-le, get_or-drop}
use Rattle.rules.specs.Sizes.{largest_message, header_numbers, row_numbers, used, most_rows}
use Rattle.rules.specs.Types.{among, is_group}
use Rattle.rules.specs.Listings.{book, message_of, is_message}
use Rattle.rules.specs.Standing.{kept}
use Rattle.rules.specs.Values.{row_count, table_type, table_kind, cell, row_standing, row_type, row_place, row_length}
use Rattle.rules.specs.Verdicts.{accepted, refused, check, refuses, first}
use Rattle.rules.specs.Emitting.{sizes, size_of, emitted}
use Rattle.rules.specs.Built.{rest_of, given, givens, given_rows, reasons, any_of, has_teid, rest_given, built_length, built, build_checks, late_verdict, headed_checks, build_length, build_room}
use Rattle.rules.specs.Octets.{numbers_in}
use Rattle.rules.specs.Answers.{Builds}
use Rattle.rules.specs.declared.Verdict.{Verdict}
use Rattle.rules.specs.declared.Sent.{Sent}
use Rattle.rules.proofs.Checks.{first_append}
use Rattle.rules.proofs.Reasons.{RowRight, NoReason, no_reason, none-holds}
use Rattle.answers.specs.declared.Refusal.{Refusal}
use Rattle.answers.specs.Refusals.{verdict_of, sent_of}
use Rattle.answers.proofs.Refusing.{named_refuses}
use Rattle.emitted.proofs.BuiltRows.{givens-length}
use Rattle.emitting.specs.Emits.{number, sizes_in, parts_in}
use Rattle.emitting.proofs.Bridge.{Agrees, Agreeing, emitted-size, sizes_are, parts_are, parts-size}
use Rattle.building.specs.declared.header.Header.{Header}
use Rattle.building.specs.Start.{header_size, teid_in}
use Rattle.building.specs.Making.{early_checks, Opens, Heads, Makes, Made, size, message, late_checks, BuildsBy}

-- ---- the first checks

module _ (kind typ sequence : ℕ) (t values : List ℕ) where
  abbrev early : Verdict
  early = first (early_checks kind typ sequence t values)

  pub early-none : among kind book.kinds ≡ true → is_message book typ ≡ true → among kind (message_of book typ).kinds ≡ true → NoReason sequence t values → accepted ≡ early
  unfolding first check
  early-none e f h g = rw (e, f, h, none-holds sequence t values g)

  pub opens : early.code ≡ 0 → Opens kind typ sequence t values
  unfolding first check
  opens z = go (among kind book.kinds) (is_message book typ) (among kind (message_of book typ).kinds) (any_of (reasons sequence t values)) refl refl refl refl z
    where
      go : (a c o d : Bool) → among kind book.kinds ≡ a → is_message book typ ≡ c → among kind (message_of book typ).kinds ≡ o → any_of (reasons sequence t values) ≡ d
          → (cond (refuses (cond (not a) (refused 1 0) accepted)) (cond (not a) (refused 1 0) accepted)
          (cond (refuses (cond (not c) (refused 7 0) accepted)) (cond (not c) (refused 7 0) accepted)
          (cond (refuses (cond (not o) (refused 21 0) accepted)) (cond (not o) (refused 21 0) accepted)
          (cond (refuses (cond d (refused 14 0) accepted)) (cond d (refused 14 0) accepted) accepted)))).code ≡ 0
          → Opens kind typ sequence t values
      go false c o d w e h f y = absurd (omega arith)
      go true false o d w e h f y = absurd (omega arith)
      go true true false d w e h f y = absurd (omega arith)
      go true true true true w e h f y = absurd (omega arith)
      go true true true false w e h f y = record { kind_known = w; type_listed = e; on_kind = h; right = no_reason sequence t values f }

module _ (kind typ teid sequence : ℕ) (t values room : List ℕ) where
  -- the checks are those, and two more
  by-early : refuses (first (early_checks kind typ sequence t values)) ≡ true
      → late_verdict book kind typ teid sequence t values (length room) ≡ first (early_checks kind typ sequence t values)
  unfolding build_checks
  by-early e = first_append (early_checks kind typ sequence t values) _ ∙ rw e

  pub refused-early : (e : Refusal) → verdict_of e ≡ first (early_checks kind typ sequence t values) → (v : Verdict) → v ≡ verdict_of e → BuildsBy kind typ teid sequence t values room (sent_of (Err v)) room
  refused-early e f v w =
      let r : refuses (first (early_checks kind typ sequence t values)) ≡ true = rw (← f) (named_refuses e) in
      let b = by-early r in
      record { verdict_is = w ∙ f ∙ sym b; length_is = rw (b, r); room_left = rw (b, r) }

  -- a right row takes four octets or more, and the header eight: 1,023 rows are more than the 4,096 of a message
  many-rows : (k n : ℕ) → ((j : ℕ) → n ≤ j → j < n + k → row_standing t j ≡ kept) → 4 * k ≤ sizes (givens t values n k)
  unfolding sizes givens given size_of
  many-rows zero n f = omega arith
  many-rows (suc k) n f =
      rw (f n (omega arith) (omega arith)) (omega (arith, many-rows k (suc n) (λ j l c. f j (omega arith) (omega arith))))

  large-by : (c : Bool) → 8 ≤ 4 + length (rest_of c teid sequence)
  large-by true = omega arith
  large-by false = omega arith

  fifteen : Opens kind typ sequence t values → most_rows < row_count t → late_verdict book kind typ teid sequence t values (length room) ≡ refused 15 0
  unfolding build_checks first check
  fifteen o l =
      let a = many-rows (row_count t) 0 (λ j z c. (o.right.each j (omega arith)).stand) in
      let b : ltb largest_message (built_length book kind typ teid sequence t values) ≡ true =
      lt-ltb largest_message (built_length book kind typ teid sequence t values) (omega (arith, a, large-by (has_teid book kind typ teid sequence t values))) in
      rw (o.kind_known, o.type_listed, o.on_kind, none-holds sequence t values o.right, b)

  pub refused-large : Opens kind typ sequence t values → (x : ℕ) → x ≡ row_count t → most_rows < x → (s : Sent) → s ≡ record { verdict = refused 15 0; length = 0 }
      → BuildsBy kind typ teid sequence t values room s room
  refused-large o x e l s w =
      let v = fifteen o (omega (arith, e)) in
      record { verdict_is = rw w (sym v); length_is = rw (w, v); room_left = rw v }

-- ---- the rows

pub numbers-low : (table : List ℕ) → ((j : ℕ) → get_or table j 0 < 256) → (j : ℕ) → get_or (numbers_in table) j 0 < 65536
unfolding numbers_in
numbers-low [] f j = omega arith
numbers-low (x ∷ []) f j = omega arith
numbers-low (x ∷ y ∷ xs) f zero = omega (arith, f 0, f 1)
numbers-low (x ∷ y ∷ xs) f (suc j) = numbers-low xs (λ i. f (suc (suc i))) j

-- a run of numbers holds the rows of a table, which stand behind its header
pub record Holds (t rows : List ℕ) (count : ℕ) : Type 0 where
  pub count_is : count ≡ row_count t
  pub rows_is : rows ≡ drop 6 t

module _ (kind typ teid sequence : ℕ) (t values room rows : List ℕ) (count : ℕ) (o : Opens kind typ sequence t values) (held : Holds t rows count) where
  cell-is : (n c : ℕ) → n < count → c < 6 → number rows n c ≡ cell t n c
  cell-is n c l k =
      let e : header_numbers + (row_numbers * n + c) ≡ used n + c = omega arith in
      rw held.rows_is (get_or-drop 6 t (row_numbers * n + c) 0 ∙ ap (λ (i : ℕ). get_or t i 0) e)

  row-right : (n : ℕ) → n < count → RowRight t values n
  row-right n l = o.right.each n (omega (arith, held.count_is))

  one : (n : ℕ) → n < count → Agrees rows values false n (given t values n)
  unfolding given
  one n l =
      let typ-is = cell-is n 1 l (omega arith) in
      let place_is = cell-is n 3 l (omega arith) in
      let len_is = cell-is n 4 l (omega arith) in
      record {
        parent = cell-is n 0 l (omega arith);
        typ = typ-is;
        last = omega (arith, cell-is n 2 l (omega arith), (row-right n l).inst);
        stand = cell-is n 5 l (omega arith);
        value = rw (typ-is, place_is, len_is);
        len = λ g.
            let f : is_group (row_type t n) ≡ false = rw typ-is at g in
            rw (g, place_is, len_is)
            (sym (length-take-le (row_length t n) (drop (row_place t n) values) (omega (arith, (row-right n l).there f, length-drop (row_place t n) values))));
      }

  from : (k n : ℕ) → n + k ≡ count → Agreeing rows values false n (givens t values n k)
  unfolding Agreeing givens
  from zero n e = tt
  from (suc k) n e = let f : suc n ≡ n + 1 = omega arith in (one n (omega arith), rw f (from k (n + 1) (omega arith)))

  pieces-count : length (given_rows t values) ≡ count
  pieces-count = givens-length t values 0 (row_count t) ∙ sym held.count_is

  agreeing : Agreeing rows values false 0 (given_rows t values)
  agreeing = rw held.count_is at (from count 0 (omega arith))

  sizes-is : sizes_in rows 0 count ≡ sizes (given_rows t values)
  sizes-is = rw pieces-count at (sizes_are rows values false (given_rows t values) agreeing)

  parts_is : parts_in rows count values false 0 count ≡ emitted 0 (given_rows t values)
  parts_is = rw pieces-count at (parts_are rows values false (given_rows t values) agreeing)

  pub makes : Makes rows count values
  makes = record {
    types = λ n l. omega (arith, cell-is n 1 l (omega arith), (row-right n l).typ);
    there = λ n l g. omega (arith, cell-is n 3 l (omega arith), cell-is n 4 l (omega arith), (row-right n l).there (rw (cell-is n 1 l (omega arith)) at g));
    octets = rw pieces-count at (parts-size rows values false (given_rows t values) agreeing);
  }

  -- ---- the message

  -- the TEID, if its type wants one
  abbrev lent : Option ℕ
  lent = cond (message_of book typ).teid (Some teid) None

  abbrev n : ℕ
  n = size kind typ lent sequence rows count values room

  size-by : (c : Bool) → header_size (cond c (Some teid) None) ≡ 4 + length (rest_of c teid sequence)
  size-by true = refl
  size-by false = refl

  size_is : n ≡ built_length book kind typ teid sequence t values
  size_is = omega (arith, size-by (message_of book typ).teid, sizes-is)

  some-by : (c : Bool) → is_some (cond c (Some teid) None) ≡ c
  some-by true = refl
  some-by false = refl

  rest-by : (c : Bool) → rest_of (is_some (cond c (Some teid) None)) (teid_in (cond c (Some teid) None)) sequence ≡ rest_of c teid sequence
  rest-by true = refl
  rest-by false = refl

  message-is : message kind typ lent sequence rows count values room ≡ built book kind typ teid sequence t values
  unfolding built
  message-is =
      let rest = rest_given book kind typ teid sequence t values in
      let e : n - 4 ≡ length (rest_given book kind typ teid sequence t values) + length (emitted 0 (given_rows t values)) =
      omega (arith, size_is, emitted-size 0 (given_rows t values)) in
      rw (e, rest-by (message_of book typ).teid, some-by (message_of book typ).teid, parts_is)

  built-length : length (built book kind typ teid sequence t values) ≡ built_length book kind typ teid sequence t values
  unfolding built
  built-length =
      omega (arith, length-append (rest_given book kind typ teid sequence t values) (emitted 0 (given_rows t values)), emitted-size 0 (given_rows t values))

  late_is : first (late_checks kind typ lent sequence rows count values room) ≡ late_verdict book kind typ teid sequence t values (length room)
  unfolding build_checks first check
  late_is = rw (message-is, size_is, o.kind_known, o.type_listed, o.on_kind, none-holds sequence t values o.right)

  pub builds : (h : Header) → Heads typ teid sequence h → {s : Sent} {room' : List ℕ} → Made kind h.typ h.teid h.sequence rows count values room s room' → BuildsBy kind typ teid sequence t values room s room'
  builds h heads {s} {room'} made =
      let b : Made kind typ lent sequence rows count values room s room' = rw (heads.typ_is, heads.teid_is, heads.sequence_is) at made in
      record {
        verdict_is = b.verdict_is ∙ late_is;
        length_is = b.length_is ∙ rw (late_is, size_is, built-length);
        room_left = b.room_left ∙ rw (late_is, message-is);
      }

-- ---- the table says kind and type

module _ (teid sequence : ℕ) (t values room : List ℕ) where
  pub no_header : length t < header_numbers → (v : Verdict) → v ≡ refused 14 0 → Builds teid sequence t values room (sent_of (Err v)) room
  unfolding headed_checks first check build_length build_room
  no_header l v w = let e = lt-ltb (length t) header_numbers l in record { verdict_is = rw (w, e); length_is = rw e; room_left = rw e }

  pub by-header : header_numbers ≤ length t → {k y : ℕ} → k ≡ table_kind t → y ≡ table_type t → {s : Sent} {room' : List ℕ} → BuildsBy k y teid sequence t values room s room'
      → Builds teid sequence t values room s room'
  unfolding headed_checks first check build_length build_room
  by-header l {k} {y} p q {s} {room'} x =
      let e = le-ltb (length t) header_numbers l in
      let z : BuildsBy (table_kind t) (table_type t) teid sequence t values room s room' = rw (p, q) at x in
      record { verdict_is = z.verdict_is ∙ rw e; length_is = z.length_is ∙ rw e; room_left = z.room_left ∙ rw e }
