-- The builder's contract: what was promised of the definitions holds of the octets at the start of the room, which are the message. Assumes nothing.
--     answered, is-built, build-past-stays     what is answered and left where nothing refuses          build-left-alone   and where something does
--     built-judged                       the message's table, which is the table given            rebuilt-same   a message rebuilt from itself
use mathlib.Core.Path.{◌≡◌, refl, sym, ap, ◌∙◌}
use mathlib.Core.Bool.{Bool, true, false, cond}
use mathlib.Core.List.{List, [], ◌∷◌, ◌++◌}
use Prim.Native.Nat.{ℕ, ◌≤◌, ◌<◌}
use native.Mathlib.Omega.{arith}
use borrow.Author.Tests.{eq-eqb, lt-ltb, le-ltb}
use lib.ListN.{length, take, drop}
use Rattle.rules.specs.Sizes.{header_numbers, used}
use Rattle.rules.specs.Framing.{flag_t, message_type, header_length}
use Rattle.rules.specs.Listings.{book, message_of}
use Rattle.rules.specs.Standing.{Item}
use Rattle.rules.specs.Taking.{whole, taken}
use Rattle.rules.specs.Table.{kept_rows, table_of, laid}
use Rattle.rules.specs.Values.{row_count, table_type, table_kind}
use Rattle.rules.specs.Verdicts.{accepted, refused, refuses, check, first, items, judge_verdict}
use Rattle.rules.specs.Emitting.{amply, accepted_whole}
use Rattle.rules.specs.Built.{first_of, rest_of, teid_of, sequence_of, ZeroBits, built, build_checks, build_verdict, build_length, build_room, late_verdict, headed_checks, built_by}
use Rattle.rules.specs.Answers.{Builds}
use Rattle.rules.specs.declared.Verdict.{Verdict}
use Rattle.rules.specs.declared.Sent.{Sent}
use Rattle.rules.proofs.Book.{book-sound}
use Rattle.rules.proofs.Checks.{all_pass, first-pass}
use Rattle.rules.proofs.Rows.{Octets}
use Rattle.tables.specs.Words.{rows, kept_count}
use Rattle.tables.proofs.Rowed.{Begins, laid-begins, row_of, count_of, kept_of}
use Rattle.verdicts.proofs.Laying.{laid-take, laid-drop, enough-room, accepted-table}
use Rattle.emitted.proofs.Refusals.{amply-roomy}
use Rattle.emitted.proofs.Wholes.{amply-accepted}
use Rattle.emitted.proofs.Building.{build-accepted, headed-pass}
use Rattle.emitted.proofs.BuiltRows.{BuiltAs, built-count, built-kept, built_as}
use Rattle.emitted.proofs.Rebuilding.{rebuilt-itself, rebuilt-accepted}
use Rattle.promises.specs.Judged.{Judged}
use Rattle.promises.specs.Building.{SameRow, SameRows, HasHead, NumberAlone}
use Rattle.promises.proofs.Commuting.{amply-whole}
use Rattle.promises.proofs.Cleaned.{not-refused, judge_accepted}

-- the header of a message that is built, with a TEID or without
header-given : {typ : ℕ} (teid? : Bool) → (message_of book typ).teid ≡ teid? → (teid sequence high low : ℕ) (body : List ℕ)
    → HasHead typ teid sequence (first_of teid? ∷ typ ∷ high ∷ low ∷ (rest_of teid? teid sequence ++ body))
unfolding message_type flag_t header_length teid_of sequence_of
header-given true e teid sequence high low body = record {
  type_is = refl;
  carries = sym e;
  teid_is = λ f. omega arith;
  sequence_is = omega arith;
  flags = refl;
  spare = refl;
}
header-given false e teid sequence high low body = record {
  type_is = refl;
  carries = sym e;
  teid_is = λ f. absurd (unlike f);
  sequence_is = omega arith;
  flags = refl;
  spare = refl;
}
  where
    unlike : false ≡ true → ⊥
    unlike f = let z : ◌≡◌ {A = ℕ} 0 1 = cc in omega arith

-- ---- a number alone

alone_of : (c : Bool) (v w : Verdict) → NumberAlone v → NumberAlone w → NumberAlone (cond c v w)
alone_of true v w p q = p
alone_of false v w p q = q

alone : (n : ℕ) → NumberAlone (refused n 0)
alone n = record { cause = refl; place = refl; typ = refl; inst = refl }

alone-none : NumberAlone (first [])
unfolding first
alone-none = alone 0

alone-first : (c : Bool) (n : ℕ) (vs : List Verdict) → NumberAlone (first vs) → NumberAlone (first (check c (refused n 0) ∷ vs))
unfolding first check
alone-first c n vs p = alone_of (refuses (check c (refused n 0))) (check c (refused n 0)) (first vs) (alone_of c (refused n 0) accepted (alone n) (alone 0)) p

-- ---- a table too short for a header, and any other

module _ (teid sequence : ℕ) (t values : List ℕ) (room : ℕ) where
  pub short-table : length t < header_numbers → build_verdict book teid sequence t values room ≡ refused 14 0
  unfolding headed_checks first check
  short-table l = rw (lt-ltb (length t) header_numbers l)

  pub long-table : header_numbers ≤ length t → build_verdict book teid sequence t values room ≡ late_verdict book (table_kind t) (table_type t) teid sequence t values room
  unfolding headed_checks first check
  long-table l = rw (le-ltb (length t) header_numbers l)

module _ {teid sequence : ℕ} {t values lent : List ℕ} {s : Sent} {left : List ℕ} (c : Builds teid sequence t values lent s left) where
  pub build-alone : NumberAlone s.verdict
  unfolding headed_checks build_checks
  build-alone = rw c.verdict_is (alone-first _ 14 _ (alone-first _ 1 _ (alone-first _ 7 _ (alone-first _ 21 _ (alone-first _ 14 _ (alone-first _ 15 _ (alone-first _ 16 [] alone-none)))))))

  pub build-left-alone : refuses s.verdict ≡ true → (left ≡ lent) × (s.length ≡ 0)
  unfolding build_room build_length
  build-left-alone e = let z = rw c.verdict_is at e in (c.room_left ∙ rw z, c.length_is ∙ rw z)

  abbrev k : ℕ
  k = table_kind t

  abbrev typ : ℕ
  typ = table_type t

  abbrev made : List ℕ
  made = built_by book teid sequence t values

  module _ (a : s.verdict ≡ accepted) where
    open_all : refuses (build_verdict book teid sequence t values (length lent)) ≡ false
    open_all = rw c.verdict_is at (not-refused s.verdict a)

    open_verdict : refuses (late_verdict book k typ teid sequence t values (length lent)) ≡ false
    open_verdict = headed-pass book book-sound teid sequence t values (length lent) open_all

    pub answered : s.length ≡ length made
    unfolding build_length
    answered = c.length_is ∙ rw open_all

    left_is : left ≡ laid made lent
    unfolding build_room
    left_is = c.room_left ∙ rw open_all

    pub is-built : take s.length left ≡ made
    is-built = rw (answered, left_is) (laid-take made lent)

    pub build-past-stays : drop s.length left ≡ drop s.length lent
    build-past-stays = rw (answered, left_is) (laid-drop made lent)

    abbrev es : List Item
    es = items book k made

    count : length es ≡ row_count t
    count = built-count book book-sound k typ teid sequence t values (length lent) open_verdict

    row-numbers : (u : List ℕ) → Begins u es → (r : ℕ) → r < rows t → BuiltAs t values made es r → SameRow t values made u r
    row-numbers u b r l x =
        let f = row_of u es b r in
        let h : r < length es = omega (arith, count) in
        record {
          parent = f 0 h (omega arith) ∙ x.parent;
          typ = f 1 h (omega arith) ∙ x.typ;
          inst = f 2 h (omega arith) ∙ x.inst;
          stand = f 5 h (omega arith) ∙ x.stand;
          len = λ g. f 4 h (omega arith) ∙ x.len g;
          value = λ g. rw (f 3 h (omega arith), f 4 h (omega arith)) (x.value g);
        }

    head-is : HasHead typ teid sequence made
    unfolding built
    head-is = header-given (message_of book typ).teid refl teid sequence _ _ _

    pub built-head : HasHead typ teid sequence (take s.length left)
    built-head = rw is-built head-is

    judged-ok : (U : List ℕ) → used (rows t) ≤ length U → refuses (judge_verdict book k made (length U)) ≡ false
    judged-ok U l =
        let all = build-accepted book book-sound k typ teid sequence t values (length lent) open_verdict in
        let fits : used (length es) ≤ length U = omega (arith, count) in
        rw (amply-roomy book k made (length U) fits) (amply-whole book k made all)

    rows-begin : {U : List ℕ} {w : Verdict} {u : List ℕ} → Judged k made U w u → used (rows t) ≤ length U → Begins u es
    rows-begin {U} q l = rw (q.table_left ∙ accepted-table book k made U (judged-ok U l)) (laid-begins (message_type made) k es U)

    -- it is accepted with a table that has room for the rows given, and those are its rows
    pub built-judged : {U : List ℕ} {w : Verdict} {u : List ℕ} → Judged k (take s.length left) U w u → used (rows t) ≤ length U
        → (w ≡ accepted) × SameRows t values (take s.length left) u
    built-judged {U} {w} {u} y l =
        let q : Judged k made U w u = rw is-built at y in
        let ok = judged-ok U l in
        let b = rows-begin q l in
        let kept-all = built-kept book book-sound k typ teid sequence t values (length lent) open_verdict in (
          q.answers ∙ judge_accepted k made (length U) ok,
          rw is-built (record {
            as_many = count_of u es b ∙ count;
            all_kept = kept_of u es b ∙ kept-all ∙ sym count ∙ sym (count_of u es b);
            each = λ r h. row-numbers u b r h (built_as book book-sound k typ teid sequence t values (length lent) open_verdict r h);
          }),
        )

    -- and no bit of it is set that nothing reads
    pub built-zero : {U : List ℕ} {w : Verdict} {u : List ℕ} → Judged k (take s.length left) U w u → used (rows t) ≤ length U
        → ZeroBits (take s.length left) u
    built-zero {U} {w} {u} y l =
        let b = rows-begin (rw is-built at y) l in
        rw is-built (record {
          flags = head-is.flags;
          spare = head-is.spare;
          elements = λ r h.
              let i : r < length es = omega (arith, count_of u es b) in
              rw (row_of u es b r 3 i (omega arith)) (built_as book book-sound k typ teid sequence t values (length lent) open_verdict r (omega (arith, count))).low;
        })

-- an accepted message with every row kept and ignored bits zero comes back
module _ {k : ℕ} {m T : List ℕ} {v : Verdict} {t : List ℕ} (j : Judged k m T v t) (a : v ≡ accepted) (all : kept_count t ≡ rows t) (o : Octets m) (bits : ZeroBits m t) where
  abbrev is : List Item
  is = items book k m

  ok : refuses (judge_verdict book k m (length T)) ≡ false
  ok = rw j.answers at (not-refused v a)

  ample : refuses (amply book k m) ≡ false
  ample = rw (amply-roomy book k m (length T) (enough-room book k m (length T) ok)) at ok

  table_is : t ≡ laid (table_of (message_type m) k is) T
  table_is = j.table_left ∙ accepted-table book k m T ok

  begins : Begins t is
  begins = rw table_is (laid-begins (message_type m) k is T)

  whole-accepted : accepted_whole book k m ≡ true
  whole-accepted =
      let e : kept_rows is ≡ length is = sym (kept_of t is begins) ∙ all ∙ count_of t is begins in
      rw (ample, e) (eq-eqb (length is) (length is) refl)

  taking : taken book k m ≡ whole is
  taking = let r = amply-accepted book k m ample in r.1.taken_whole ∙ rw r.1.taken_whole

  abbrev extra : List ℕ
  extra = drop (length (table_of (message_type m) k is)) T

  table-front : t ≡ table_of (message_type m) k is ++ extra
  unfolding laid
  table-front = table_is

  pub rebuilt-same : {lent : List ℕ} {s : Sent} {left : List ℕ} → Builds (teid_of m) (sequence_of m) t m lent s left → length m ≤ length lent
      → (s.verdict ≡ accepted) × (s.length ≡ length m) × (take s.length left ≡ m)
  rebuilt-same {lent} {s} {left} c l =
      let b : ZeroBits m (table_of (message_type m) k is ++ extra) = rw table-front at bits in
      let d : Builds (teid_of m) (sequence_of m) (table_of (message_type m) k is ++ extra) m lent s left = rw table-front at c in
      let pass = rebuilt-accepted book book-sound k m o whole-accepted is taking extra b (length lent) l in
      let yes-too : s.verdict ≡ accepted =
      d.verdict_is ∙ first-pass (headed_checks book (teid_of m) (sequence_of m) (table_of (message_type m) k is ++ extra) m (length lent)) ((all_pass (headed_checks book (teid_of m) (sequence_of m) (table_of (message_type m) k is ++ extra) m (length lent))).0 pass) in
      let same = rebuilt-itself book book-sound k m o whole-accepted is taking extra b in
      (yes-too, answered d yes-too ∙ ap length same, is-built d yes-too ∙ same)
