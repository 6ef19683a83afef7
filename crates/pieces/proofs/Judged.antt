-- At the end stands what the judge says of the joined message, and on acceptance what it leaves in a table of zeros. Assumes nothing.
--     fed-walks   the elements are those that the reading takes          fed-reading   checks 1 to 9
--     pieces      verdict and table, however the octets are cut
use mathlib.Core.Path.{◌≡◌, refl, sym, ap, ◌∙◌}
use mathlib.Core.Bool.{Bool, true, false, cond}
use mathlib.Core.List.{List, [], ◌∷◌, ◌++◌}
use Prim.Native.Nat.{ℕ, suc, ◌+◌, ◌-◌, ◌*◌, ◌/◌, ◌≤◌, ◌<◌}
use native.Mathlib.Omega.{arith}
use borrow.Author.Tests.{ltb-true, ltb-false, lt-ltb, le-ltb, ne_eqb}
use lib.Dec.{ltb}
use lib.ListN.{length, take, drop, length-drop, length-replicate, take-append-drop}
use lib.Seq.{take-nil, get_or-drop, length-take-le, drop_at, drop-drop}
use Rattle.rules.specs.Sizes.{header_numbers, row_numbers, used}
use Rattle.rules.specs.Framing.{flag_t, length_field, header_length, message_type}
use Rattle.rules.specs.Listings.{book}
use Rattle.rules.specs.Standing.{fresh}
use Rattle.rules.specs.Taking.{Out, cut, whole, taken, walk, body_level}
use Rattle.rules.specs.Table.{rows_of, table_of, laid, fitting}
use Rattle.rules.specs.Verdicts.{opening_checks, refused_at, check, cut_check, refuses, first, header_checks, framing_checks, judge_verdict, judge_table, items}
use Rattle.rules.specs.Answers.{refused_reading, reading_of, read_items, read_rows, Read}
use Rattle.rules.specs.declared.Verdict.{Verdict}
use Rattle.rules.specs.declared.Reading.{Reading}
use Rattle.rules.proofs.Standings.{no_mark}
use Rattle.rules.proofs.Checks.{first_append}
use Rattle.rules.proofs.Header.{Passed, passed}
use Rattle.rules.proofs.Rows.{Octets, rows-length}
use Rattle.rules.proofs.Readings.{refusal_is, count_is, all_laid}
use Rattle.taking.specs.Held.{Held, held, no_counts}
use Rattle.reading.specs.Scan.{whole_reading, scan}
use Rattle.reading.proofs.Endings.{ends-cut, ends-whole}
use Rattle.pieces.proofs.Accepting.{rest-is}
use Rattle.judging.specs.Judging.{given}
use Rattle.judging.proofs.Deciding.{verdict_is}
use Rattle.judging.proofs.Accepted.{Ready, ready}
use Rattle.pieces.specs.Steps.{begin}
use Rattle.pieces.specs.Depth.{deepest, nests}
use Rattle.pieces.specs.Drafts.{Draft, plain, one_draft, shut_draft, draft_rows}
use Rattle.pieces.specs.Loose.{loose}
use Rattle.pieces.specs.Feeding.{Feed, state_of, out_held, body, feed_parts, joined_parts, zeros, started, out_reading, fed_reading, fed_verdict, headed, fed_table}
use Rattle.pieces.proofs.Depth.{body-nests}
use Rattle.pieces.proofs.Steps.{begin-is}
use Rattle.pieces.proofs.Backs.{Clean}
use Rattle.pieces.proofs.Late.{Agrees, late_is}
use Rattle.pieces.proofs.Feeding.{four_type, four-length, four-header, four-body, four_checks, own-length, counted, counted-low, counted-high, walking_after, feed_after, parts_more}

-- ---- checks 1 to 8

over : (k : ℕ) (m : List ℕ) → 4096 < length m → first (opening_checks book k m 4097) ≡ first (opening_checks book k m (length m))
unfolding first check
over k m l = rw (lt-ltb 4096 (length m) l, ne_eqb (length m) 0 (λ z. omega arith))

-- a count that stopped at the first number that is too large says the same
pub count-enough : (k : ℕ) (m : List ℕ) → first (opening_checks book k m (counted (length m))) ≡ first (header_checks book k m)
count-enough k m = go (ltb 4096 (length m)) refl
  where
    go : (c : Bool) → ltb 4096 (length m) ≡ c → first (opening_checks book k m (counted (length m))) ≡ first (header_checks book k m)
    go true e = let l : 4096 < length m = ltb-true _ _ e in rw (counted-high (length m) l) (over k m l ∙ ap first (own-length m book k))
    go false e = let l : length m ≤ 4096 = ltb-false _ _ e in rw (counted-low (length m) l) (ap first (own-length m book k))

-- ---- checks 1 to 9

none-laid : (rows : List ℕ) → laid (rows_of (fitting (length rows) [])) rows ≡ rows
unfolding laid rows_of
none-laid rows = rw (take-nil (length rows / row_numbers))

-- where they refuse, that is the reading, and nothing is laid over what is lent
refused-reading : (k : ℕ) (m rows : List ℕ) → refuses (first (header_checks book k m)) ≡ true → Read k m rows (refused_reading (first (header_checks book k m))) rows
unfolding framing_checks reading_of read_rows read_items
refused-reading k m rows e =
    let f : first (framing_checks book k m) ≡ first (header_checks book k m) = first_append (header_checks book k m) (cut_check (taken book k m) ∷ []) ∙ rw e in
    record { answers = rw (f, e); rows_left = rw e (sym (none-laid rows)) }

module _ (k : ℕ) (m rows : List ℕ) (clean : Clean 0 rows) where
  abbrev before : Draft
  before = plain no_counts rows

  abbrev fed : Feed
  fed = feed_after k before m

  checks_are : first (opening_checks book k (take 4 m) (counted (length m))) ≡ first (header_checks book k m)
  checks_are = ap first (four_checks m book k (counted (length m))) ∙ count-enough k m

  pub fed-refused : refuses (first (header_checks book k m)) ≡ true → fed_reading fed ≡ refused_reading (first (header_checks book k m))
  unfolding fed_reading feed_after
  fed-refused e = rw (checks_are, e)

  module _ (ok : refuses (first (header_checks book k m)) ≡ false) where
    pass : Passed book k m
    pass = passed book k m ok

    abbrev size : ℕ
    size = length m - header_length m

    said : length_field (take 4 m) + 4 ≡ length m
    said = rw (four-length m) pass.length_right

    four-ok : refuses (first (opening_checks book k (take 4 m) (length_field (take 4 m) + 4))) ≡ false
    four-ok =
        ap (λ (n : ℕ). refuses (first (opening_checks book k (take 4 m) n))) said
        ∙ ap (λ (vs : List Verdict). refuses (first vs)) (four_checks m book k (length m) ∙ own-length m book k) ∙ ok

    body_is : body k (take 4 m) before ≡ begin book k Draft one_draft (shut_draft k) draft_rows deepest (body_level book m) (header_length m) size before
    unfolding body
    body_is = rw (four-ok, said, four-body m, four-header m)

    deep : nests book deepest (body_level book m) ≡ true
    unfolding body_level
    deep = body-nests (message_type m)

    fed-walks : out_held k (walking_after k before m) ≡ walk (loose book) k Draft one_draft (shut_draft k) draft_rows (body_level book m) fresh 0 0 (header_length m) (drop (header_length m) m) before
    unfolding walking_after
    fed-walks =
        rw (le-ltb (length m) (header_length m) pass.has_header, body_is)
        (begin-is book k Draft one_draft (shut_draft k) draft_rows deepest (body_level book m) (header_length m) size before (drop (header_length m) m)
        (simp length-drop (omega arith)) deep
        ∙ rw (rest-is m (header_length m)))

    abbrev out : Out Draft
    out = out_held k (walking_after k before m)

    abbrev scanned : Out Held
    scanned = scan k (body_level book m) fresh 0 0 (header_length m) (drop (header_length m) m) (held no_counts rows)

    -- and that is what the reading comes to
    agrees : Agrees out scanned
    agrees =
        rw fed-walks
        (late_is k (body_level book m) fresh 0 0 (header_length m) (drop (header_length m) m) before (held no_counts rows)
        (record { counts = refl; rows = refl; free = refl; clean = clean }))

    -- with the rows that a whole walk leaves
    walk-read : Octets m → (o : Out Draft) (r : Out Held) → Agrees o r → scanned ≡ r → (rows' : List ℕ) × Read k m rows (out_reading o) rows' × (o ≡ whole (state_of o) → rows' ≡ (state_of o).rows)
    unfolding out_reading
    walk-read oct (cut q s) (cut q' t) e w = (t.rows, rw e (ends-cut k m rows ok q' t w), λ z. absurd (never-whole q s z))
      where
        never-whole : (q : ℕ) (s : Draft) → cut q s ≡ whole s → ⊥
        never-whole q s z = let y : ◌≡◌ {A = ℕ} 0 1 = cc in omega arith
    walk-read oct (cut q s) (whole t) e w = absurd e
    walk-read oct (whole s) (cut q t) e w = absurd e
    walk-read oct (whole s) (whole t) e w = (t.rows, rw e.counts (ends-whole k m rows ok t w oct), λ z. sym e.rows)

    pub fed-passed : fed_reading fed ≡ out_reading out
    unfolding fed_reading feed_after
    fed-passed = rw (checks_are, ok)

    pub fed-reads : Octets m → (rows' : List ℕ) × Read k m rows (fed_reading fed) rows' × (out ≡ whole (state_of out) → rows' ≡ (state_of out).rows)
    fed-reads oct = rw fed-passed (walk-read oct out scanned agrees refl)

  some_read : Octets m → (c : Bool) → refuses (first (header_checks book k m)) ≡ c → (rows' : List ℕ) × Read k m rows (fed_reading fed) rows'
  some_read oct true e = (rows, rw (fed-refused e) (refused-reading k m rows e))
  some_read oct false e = let r = fed-reads e oct in (r.0, r.1)

  -- ---- the verdict

  pub fed-verdict : (room : ℕ) → Octets m → fed_verdict fed room ≡ judge_verdict book k m room
  fed-verdict room oct =
      let r = some_read oct (refuses (first (header_checks book k m))) refl in
      verdict_is k m room r.1

-- a reading that is refused is refused by the verdict on it
given-refuses : (v : Verdict) (room : ℕ) → refuses v ≡ true → refuses (given (refused_reading v) room) ≡ true
unfolding given first
given-refuses v room e = rw e e

full : (r : Reading) (room : ℕ) → r.refusal.code ≡ 0 → ltb room (used r.rows) ≡ true → refuses (given r room) ≡ true
unfolding given first check
full r room z e = rw (z, e)

given-fits : (r : Reading) (room : ℕ) → r.refusal.code ≡ 0 → refuses (given r room) ≡ false → used r.rows ≤ room
given-fits r room z e = go (ltb room (used r.rows)) refl e
  where
    go : (c : Bool) → ltb room (used r.rows) ≡ c → refuses (given r room) ≡ false → used r.rows ≤ room
    go false f g = ltb-false _ _ f
    go true f g = absurd (never (full r room z f) g)
      where
        never : refuses (given r room) ≡ true → refuses (given r room) ≡ false → ⊥
        never a d = let y : ◌≡◌ {A = ℕ} 0 1 = cc in omega arith

-- ---- the table

-- a table of zeros has no row
pub blank-clean : (room : ℕ) → Clean 0 (drop header_numbers (zeros room))
blank-clean room = record { none = λ j l. get_or-drop header_numbers (zeros room) j 0 ∙ no_mark room (header_numbers + j) }

module _ (k room : ℕ) (m : List ℕ) (oct : Octets m) where
  abbrev blank : List ℕ
  blank = drop header_numbers (zeros room)

  -- every number of it is zero
  pub clean : Clean 0 blank
  clean = blank-clean room

  abbrev after : Feed
  after = feed_after k (plain no_counts blank) m

  -- on acceptance: the header over the rows is the judge's table
  module _ (ok : refuses (first (header_checks book k m)) ≡ false) (s : Draft) (w : out_held k (walking_after k (plain no_counts blank) m) ≡ whole s)
      (acc : refuses (fed_verdict after room) ≡ false) where
    reading_is : fed_reading after ≡ whole_reading s.counts
    unfolding out_reading
    reading_is = fed-passed k m blank clean ok ∙ rw w

    read : Read k m blank (whole_reading s.counts) s.rows
    read =
        let r = fed-reads k m blank clean ok oct in
        let e : r.0 ≡ s.rows = r.2 (w ∙ ap (λ (o : Out Draft). whole (state_of o)) (sym w)) ∙ ap (λ (o : Out Draft). (state_of o).rows) w in
        rw (reading_is, e) at r.1

    fits : used s.counts.rows ≤ room
    unfolding whole_reading
    fits = given-fits (whole_reading s.counts) room refl (rw reading_is at acc)

    blank-length : length blank ≡ room - header_numbers
    blank-length = length-drop header_numbers (zeros room) ∙ rw (length-replicate {A = ℕ} room 0)

    accept : refuses (judge_verdict book k m room) ≡ false
    accept = rw (← verdict_is k m room read) (rw reading_is at acc)

    held_all : row_numbers * (whole_reading s.counts).rows ≤ length blank
    unfolding whole_reading
    held_all = omega (arith, fits, blank-length)

    there : Ready k m s.rows room (whole_reading s.counts)
    there = ready k m read room accept held_all

    framing : refuses (first (framing_checks book k m)) ≡ false
    unfolding whole_reading
    framing =
        let e : (whole_reading s.counts).refusal ≡ first (framing_checks book k m) = ap (λ (r : Reading). r.refusal) read.answers ∙ refusal_is book k m in
        rw (← e)

    rows_are : (reading_of book k m).rows ≡ s.counts.rows
    unfolding whole_reading
    rows_are = ap (λ (r : Reading). r.rows) (sym read.answers)

    many_are : length (rows_of (items book k m)) ≡ 6 * s.counts.rows
    many_are = omega (arith, rows-length (items book k m), count_is book k m framing, rows_are)

    rows-laid : s.rows ≡ rows_of (items book k m) ++ drop (length (rows_of (items book k m))) blank
    unfolding laid
    rows-laid = read.rows_left ∙ all_laid book k m framing blank (omega (arith, rows_are, fits, blank-length))

    past-rows : drop (6 * s.counts.rows) s.rows ≡ drop (6 + 6 * s.counts.rows) (zeros room)
    past-rows =
        ap (drop (6 * s.counts.rows)) rows-laid
        ∙ drop_at (rows_of (items book k m)) (drop (length (rows_of (items book k m))) blank) (6 * s.counts.rows) many_are
        ∙ rw many_are (drop-drop (6 * s.counts.rows) 6 (zeros room))

    pub table_is : headed (message_type m) k s ≡ laid (table_of (message_type m) k (items book k m)) (zeros room)
    unfolding laid whole_reading message_type
    table_is =
        let l : length (take (6 * s.counts.rows) s.rows) ≡ 6 * s.counts.rows = length-take-le (6 * s.counts.rows) s.rows there.there in
        let e : suc (suc (suc (suc (suc (suc (6 * s.counts.rows)))))) ≡ 6 + 6 * s.counts.rows = omega arith in
        let q : s.rows ≡ take (6 * s.counts.rows) s.rows ++ drop (6 + 6 * s.counts.rows) (zeros room)
        = sym (take-append-drop (6 * s.counts.rows) s.rows) ∙ ap (λ (t : List ℕ). take (6 * s.counts.rows) s.rows ++ t) past-rows in
        rw (← there.numbers, l, e)
        (ap (λ (t : List ℕ). s.counts.rows ∷ s.counts.kept ∷ header_numbers ∷ used s.counts.rows ∷ message_type m ∷ k ∷ t) q)

  clash : (v : Verdict) → refuses v ≡ true → refuses v ≡ false → ⊥
  clash v a d = let y : ◌≡◌ {A = ℕ} 0 1 = cc in omega arith

  by_out : (ok : refuses (first (header_checks book k m)) ≡ false) → refuses (fed_verdict after room) ≡ false → (o : Out Draft)
      → out_held k (walking_after k (plain no_counts blank) m) ≡ o → headed (message_type m) k (state_of o) ≡ laid (table_of (message_type m) k (items book k m)) (zeros room)
  unfolding out_reading
  by_out ok acc (cut q s) w =
      let e : fed_reading after ≡ refused_reading (refused_at 9 67 q 0 0) = fed-passed k m blank clean ok ∙ rw w in
      absurd (clash (fed_verdict after room) (rw e (given-refuses (refused_at 9 67 q 0 0) room refl)) acc)
  by_out ok acc (whole s) w = table_is ok s w acc

  by-header : refuses (fed_verdict after room) ≡ false → (c : Bool) → refuses (first (header_checks book k m)) ≡ c
      → headed (message_type m) k (state_of (out_held k (walking_after k (plain no_counts blank) m))) ≡ laid (table_of (message_type m) k (items book k m)) (zeros room)
  by-header acc true e = absurd (clash (fed_verdict after room) (rw (fed-refused k m blank clean e) (given-refuses (first (header_checks book k m)) room e)) acc)
  by-header acc false e = by_out e acc (out_held k (walking_after k (plain no_counts blank) m)) refl

  pub fed-table : fed_table after room ≡ judge_table book k m (zeros room)
  unfolding fed_table judge_table feed_after
  fed-table = go (refuses (fed_verdict after room)) refl
    where
      same : fed_verdict after room ≡ judge_verdict book k m (length (zeros room))
      same = fed-verdict k m blank clean room oct ∙ rw (length-replicate {A = ℕ} room 0)

      go : (c : Bool) → refuses (fed_verdict after room) ≡ c
          → cond (refuses (fed_verdict after room)) (zeros room) (headed (message_type (take 4 m)) k (state_of (out_held k (walking_after k (plain no_counts blank) m)))) ≡ judge_table book k m (zeros room)
      go true e = let f : refuses (judge_verdict book k m (length (zeros room))) ≡ true = rw same at e in rw (e, f)
      go false e = let f : refuses (judge_verdict book k m (length (zeros room))) ≡ false = rw same at e in rw (e, f, four_type m) (by-header e (refuses (first (header_checks book k m))) refl)

-- ---- however the octets are cut

pub start_is : (k : ℕ) (table : List ℕ) → started k table ≡ feed_after k (plain no_counts (drop header_numbers table)) []
unfolding started feed_after walking_after header_length flag_t counted
start_is k table = refl

-- a message that came in the parts ps, to a table of so many numbers
pub record Came (k room : ℕ) (ps : List (List ℕ)) : Type 0 where
  pub verdict : fed_verdict (feed_parts (started k (zeros room)) ps) room ≡ judge_verdict book k (joined_parts ps) room
  pub table : fed_table (feed_parts (started k (zeros room)) ps) room ≡ judge_table book k (joined_parts ps) (zeros room)

pub pieces : (k room : ℕ) (ps : List (List ℕ)) → Octets (joined_parts ps) → Came k room ps
pieces k room ps oct =
    let e : feed_parts (started k (zeros room)) ps ≡ feed_after k (plain no_counts (drop header_numbers (zeros room))) (joined_parts ps)
    = ap (λ (f : Feed). feed_parts f ps) (start_is k (zeros room)) ∙ parts_more k (plain no_counts (drop header_numbers (zeros room))) [] ps in record {
      verdict = rw e (fed-verdict k (joined_parts ps) (drop header_numbers (zeros room)) (blank-clean room) room oct);
      table = rw e (fed-table k room (joined_parts ps) oct);
    }
