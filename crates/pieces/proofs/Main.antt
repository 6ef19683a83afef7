-- From a start over one table, part after part, to the end: the judge's verdict on the joined message, and its table in one of zeros. Assumes nothing.
--     feed-like   one octet          parts-like   all parts          told   the end
use mathlib.Core.Path.{◌≡◌, refl, sym, ap, ◌∙◌}
use mathlib.Core.Bool.{Bool, true, false, cond, not, ◌&&◌}
use mathlib.Core.List.{List, [], ◌∷◌, ◌++◌, append_assoc, append-nil}
use Prim.Native.Nat.{ℕ, zero, suc, ◌+◌, ◌≤◌, ◌<◌}
use native.Mathlib.Omega.{arith}
use borrow.Author.Tests.{ltb-true, ltb-false, eqb-true, eqb-false, lt-ltb, le-ltb, le-leb, eq-eqb, ne_eqb}
use lib.Dec.{eqb, ltb}
use lib.ListN.{length, set, take, drop, length-append, length-take, length-drop, length-set, length-replicate, get_or-append, get_or-eq_default}
use lib.Seq.{get_or-take, get_or-set_same, get_or-set_other, get_or-append_seam, ext_get_or, drop_at}
use Rattle.rules.specs.Sizes.{header_numbers}
use Rattle.rules.specs.Framing.{octet, element_header, value_length, version, flag_p, flag_t, message_type, length_field, header_length}
use Rattle.rules.specs.Listings.{book}
use Rattle.rules.specs.Verdicts.{opening_checks, accepted, refused_at, refuses, first, judge_verdict, judge_table}
use Rattle.rules.specs.Answers.{refused_reading}
use Rattle.rules.specs.declared.Reading.{Reading}
use Rattle.rules.proofs.Rows.{Octets, header-least}
use Rattle.taking.specs.Held.{one, no_counts, put_row}
use Rattle.reading.specs.Scan.{whole_reading}
use Rattle.judging.specs.Judging.{given}
use Rattle.pieces.specs.declared.Going.{Going}
use Rattle.pieces.specs.declared.Pieces.{Pieces}
use Rattle.pieces.specs.Drafts.{Draft, plain}
use Rattle.pieces.specs.Steps.{Walking, stopped, going}
use Rattle.pieces.specs.Feeding.{count_on, idle, state_of, out_held, body, zeros, joined_parts, out_reading, fed_reading, fed_verdict, headed, fed_table}
use Rattle.pieces.specs.Coded.{top_of, draft_by, take_by, headed_by, eat_by, gather_by, stop, pass_one, fed_with, idle_by, body_by, head_after, in_header_by, FedPieces, feed_by, feed_all_by}
use Rattle.pieces.specs.Fits.{Fits}
use Rattle.pieces.specs.Answers.{takes, part_told, part_table, ended_by, header_by, reading_by, verdict_by, end_told, end_table, Lent, begun, part_after}
use Rattle.pieces.proofs.Alone.{put-length, back-length}
use Rattle.pieces.proofs.Fits.{eat-fits}
use Rattle.pieces.proofs.Viewed.{walking_of, stack_of, eat_view, body_view}
use Rattle.pieces.proofs.Tests.{fits-test}
use Rattle.pieces.proofs.Bodies.{idle-fits, body-fits}
use Rattle.pieces.proofs.Feeding.{four_checks, header-most, counted, counted-low, counted-high, counted-least, count-on, walking_after, walk-on, walk_more, feed_after}
use Rattle.pieces.proofs.Judged.{blank-clean, fed-verdict, fed-table}

-- ---- the header's octets

-- two lists whose first four octets are the same
abbrev pub Heads4 : List ℕ → List ℕ → Type 0
Heads4 h m = (j : ℕ) → j < 4 → octet h j ≡ octet m j

header-by : (h m : List ℕ) → octet h 0 ≡ octet m 0 → header_length h ≡ header_length m
unfolding header_length flag_t
header-by h m e = rw e

checks_by : (k n : ℕ) (h m : List ℕ) → Heads4 h m → opening_checks book k h n ≡ opening_checks book k m n
unfolding version flag_p flag_t message_type length_field header_length
checks_by k n h m e = rw (e 0 (omega arith), e 1 (omega arith), e 2 (omega arith), e 3 (omega arith))

module _ (h m : List ℕ) (x : ℕ) (four : length h ≡ 4) (e : Heads4 h m) where
  abbrev q : List ℕ
  q = m ++ (x ∷ [])

  past : (j : ℕ) → length m < j → octet q j ≡ 0
  past j l = get_or-eq_default q 0 (rw (length-append m (x ∷ [])) (omega arith))

  set-octet : length m < 4 → (j : ℕ) → j < 4 → octet (set h (length m) x) j ≡ octet q j
  set-octet l j i = go (ltb j (length m)) (eqb j (length m)) refl refl
    where
      go : (a c : Bool) → ltb j (length m) ≡ a → eqb j (length m) ≡ c → octet (set h (length m) x) j ≡ octet q j
      go true c u v =
          let lt : j < length m = ltb-true _ _ u in
          rw (get_or-set_other h (length m) j x 0 (λ z. absurd (omega arith)), get_or-append m (x ∷ []) 0 j lt) (e j i)
      go false true u v =
          let z : j ≡ length m = eqb-true _ _ v in
          rw (z, get_or-set_same h (length m) x 0 (omega arith), get_or-append_seam m x [] 0)
      go false false u v =
          let ge : length m ≤ j = ltb-false _ _ u in
          let gt : length m < j = apart (length m) j ge (λ z. eqb-false _ _ v (sym z)) in
          rw (get_or-set_other h (length m) j x 0 (λ z. eqb-false _ _ v z), past j gt) (e j i ∙ get_or-eq_default m 0 ge)
        where
          apart : (a b : ℕ) → a ≤ b → (a ≡ b → ⊥) → a < b
          apart a b l n = go2 (ltb a b) refl
            where
              go2 : (c : Bool) → ltb a b ≡ c → a < b
              go2 true t = ltb-true _ _ t
              go2 false t = let g : b ≤ a = ltb-false _ _ t in absurd (n (omega arith))

  same-octet : 4 ≤ length m → Heads4 h q
  same-octet l j i = rw (get_or-append m (x ∷ []) 0 j (omega arith)) (e j i)

  head-next : (n : ℕ) → (length m < 4 → n ≡ length m) → (4 ≤ length m → 4 ≤ n) → Heads4 (head_after h n x) q × (length (head_after h n x) ≡ 4)
  unfolding head_after
  head-next n low high = go (ltb (length m) 4) refl
    where
      go : (c : Bool) → ltb (length m) 4 ≡ c → Heads4 (cond (ltb n 4) (set h n x) h) q × (length (cond (ltb n 4) (set h n x) h) ≡ 4)
      go true u =
          let l : length m < 4 = ltb-true _ _ u in
          rw (low l, lt-ltb (length m) 4 l) (set-octet l, length-set h (length m) x ∙ four)
      go false u =
          let l : 4 ≤ length m = ltb-false _ _ u in
          rw (le-ltb n 4 (high l)) (same-octet l, four)

  -- with four octets or more the list is the message's start
  head-whole : 4 ≤ length m → h ≡ take 4 m
  head-whole l =
      ext_get_or 0 h (take 4 m) (four ∙ sym (length-take 4 m ∙ omega arith))
      (λ i j. e i (omega arith) ∙ sym (get_or-take 4 m i 0 (omega arith)))

-- ---- the rows stay as many numbers

module _ (k : ℕ) (w : Going) (rows : List ℕ) where
  take_length' : (x came : ℕ) → length (take_by k w x came rows).rows ≡ length rows
  unfolding take_by one put_row
  take_length' x came = back-length _ _ _ ∙ put-length rows _ _ _ _ _ _ _

  headed-length : length (headed_by k w rows).rows ≡ length rows
  unfolding headed_by
  headed-length = go (ltb (top_of w).left (element_header + value_length w.some)) (eqb (value_length w.some) 0)
    where
      go : (a b : Bool) → length (cond a (fed_with (stop w) rows) (cond b (take_by k w 0 0 rows) (fed_with w rows))).rows ≡ length rows
      go true b = refl
      go false true = take_length' 0 0
      go false false = refl

eat-length : (k : ℕ) (w : Going) (x : ℕ) (rows : List ℕ) → length (eat_by k w x rows).rows ≡ length rows
unfolding eat_by
eat-length k w x rows = go w.stopped (ltb 0 w.pass) (eqb w.depth 0) (ltb w.have 3) (eqb w.have 3)
  where
    go : (a b c d e : Bool)
        → length (cond a (fed_with w rows) (cond b (fed_with (pass_one w) rows) (cond c (fed_with w rows) (cond d (fed_with (gather_by w x) rows) (cond e (headed_by k (gather_by w x) rows) (take_by k w x 1 rows)))))).rows ≡ length rows
    go true b c d e = refl
    go false true c d e = refl
    go false false true d e = refl
    go false false false true e = refl
    go false false false false true = headed-length k (gather_by w x) rows
    go false false false false false = take_length' k w rows x 1

pub feed-length : (p : Pieces) (x : ℕ) (rows : List ℕ) → length (feed_by p x rows).rows ≡ length rows
unfolding feed_by
feed-length p x rows = go (ltb p.count (header_length p.head))
  where
    go : (c : Bool) → length (cond {A = FedPieces} c (record { state = in_header_by p x; rows = rows })
        (record { state = record { kind = p.kind; room = p.room; ended = p.ended; count = count_on p.count; head = p.head; going = (eat_by p.kind p.going x rows).going }; rows = (eat_by p.kind p.going x rows).rows })).rows ≡ length rows
    go true = refl
    go false = eat-length p.kind p.going x rows

pub all-length : (p : Pieces) (xs rows : List ℕ) → length (feed_all_by p xs rows).rows ≡ length rows
unfolding feed_all_by
all-length p [] rows = refl
all-length p (x ∷ xs) rows = all-length (feed_by p x rows).state xs (feed_by p x rows).rows ∙ feed-length p x rows

-- ---- what a state holds after the octets m

module _ (k room : ℕ) where
  abbrev blank : List ℕ
  blank = drop header_numbers (zeros room)

  abbrev none : Draft
  none = plain no_counts blank

  pub record Like (p : Pieces) (rows m : List ℕ) : Type 0 where
    pub kind : p.kind ≡ k
    pub room_is : p.room ≡ room
    pub goes : p.ended ≡ false
    pub count : p.count ≡ counted (length m)
    pub bytes : length p.head ≡ 4
    pub head : Heads4 p.head m
    pub walks : walking_of p.going rows ≡ walking_after k none m
    pub fits : Fits k p.going

  -- what was made so far
  made-is : (w : Going) (rows : List ℕ) → state_of (out_held k (walking_of w rows)) ≡ draft_by w rows
  unfolding walking_of
  made-is w rows = go w.stopped
    where
      go : (c : Bool) → state_of (out_held k (cond c (stopped w.place (draft_by w rows)) (going (stack_of w.depth w.levels) w.place (take w.have w.some) w.pass (draft_by w rows)))) ≡ draft_by w rows
      go true = refl
      go false = refl

  module _ (p : Pieces) (rows m : List ℕ) (x : ℕ) (a : Like p rows m) where
    abbrev q' : List ℕ
    q' = m ++ (x ∷ [])

    pub header_is : header_length p.head ≡ header_length m
    header_is = header-by p.head m (a.head 0 (omega arith))

    pub low_count : length m < header_length m → p.count ≡ length m
    low_count l = a.count ∙ counted-low (length m) (omega (arith, header-most m))

    abbrev h' : List ℕ
    h' = head_after p.head p.count x

    head-on : length m < header_length m → Heads4 h' q' × (length h' ≡ 4)
    head-on l = head-next p.head m x a.bytes a.head p.count (λ z. low_count l) (λ z. rw (low_count l) z)

    -- nothing is made in the header
    idle-there : length m < header_length m → walking_after k none m ≡ idle k none
    unfolding walking_after
    idle-there l = rw (lt-ltb (length m) (header_length m) l)

    pub nothing : length m < header_length m → draft_by p.going rows ≡ none
    nothing l = sym (made-is p.going rows) ∙ ap (λ (t : Walking Draft). state_of (out_held k t)) (a.walks ∙ idle-there l)

    abbrev walking' : Going
    walking' = cond (eqb (p.count + 1) (header_length h')) (body_by k h') p.going

    -- where the header goes on
    header-walks : length m < header_length m → walking_of walking' rows ≡ walking_after k none q'
    header-walks l =
        let hn = head-on l in
        let hl : header_length h' ≡ header_length q' = header-by h' q' (hn.0 0 (omega arith)) in
        let n : p.count + 1 ≡ suc (length m) = omega (arith, low_count l) in
        rw (n, hl) (go (eqb (suc (length m)) (header_length q')) refl) ∙ walk-on k none m x l
      where
        longer : length q' ≡ length m + 1
        longer = length-append m (x ∷ [])

        go : (c : Bool) → eqb (suc (length m)) (header_length q') ≡ c
            → walking_of (cond c (body_by k h') p.going) rows ≡ cond c (body k (take 4 q') none) (idle k none)
        go true u =
            let e : suc (length m) ≡ header_length q' = eqb-true _ _ u in
            let hn = head-on l in
            let w : h' ≡ take 4 q' = head-whole h' q' 0 hn.1 hn.0 (omega (arith, header-least q', longer)) in
            body_view k h' rows ∙ ap (λ (t : List ℕ). body k h' (plain no_counts t)) (ap (λ (t : Draft). t.rows) (nothing l)) ∙ ap (λ (t : List ℕ). body k t none) w
        go false u = a.walks ∙ idle-there l

    header-fits : length m < header_length m → Fits k walking'
    header-fits l = go (eqb (p.count + 1) (header_length h'))
      where
        go : (c : Bool) → Fits k (cond c (body_by k h') p.going)
        go true = body-fits k h'
        go false = a.fits

    in-header : length m < header_length m → Like (in_header_by p x) rows q'
    unfolding in_header_by
    in-header l =
        let hn = head-on l in
        let e : counted (length q') ≡ suc (length m) = rw (length-append m (x ∷ [])) (counted-low (length m + 1) (omega (arith, header-most m)) ∙ omega arith) in
        record {
          kind = a.kind;
          room_is = a.room_is;
          goes = a.goes;
          count = omega (arith, low_count l, e);
          bytes = hn.1;
          head = hn.0;
          walks = rw a.kind (header-walks l);
          fits = rw a.kind (header-fits l);
        }

    in_body : header_length m ≤ length m
        → Like (record { kind = p.kind; room = p.room; ended = p.ended; count = count_on p.count; head = p.head; going = (eat_by p.kind p.going x rows).going }) (eat_by p.kind p.going x rows).rows q'
    in_body l =
        let longer : length q' ≡ suc (length m) = length-append m (x ∷ []) ∙ omega arith in
        record {
          kind = a.kind;
          room_is = a.room_is;
          goes = a.goes;
          count = ap count_on a.count ∙ count-on (length m) ∙ rw longer;
          bytes = a.bytes;
          head = same-octet p.head m x a.bytes a.head (omega (arith, header-least m));
          walks = rw a.kind (eat_view k p.going rows x a.fits ∙ rw a.walks (walk_more k none m x l));
          fits = rw a.kind (eat-fits k p.going x rows a.fits);
        }

    pub feed-like : Like (feed_by p x rows).state (feed_by p x rows).rows q'
    unfolding feed_by
    feed-like = go (ltb (length m) (header_length m)) refl
      where
        go : (c : Bool) → ltb (length m) (header_length m) ≡ c → Like (feed_by p x rows).state (feed_by p x rows).rows q'
        go true u =
            let l : length m < header_length m = ltb-true _ _ u in
            rw (header_is, lt-ltb p.count (header_length m) (omega (arith, low_count l))) (in-header l)
        go false u =
            let l : header_length m ≤ length m = ltb-false _ _ u in
            let c : header_length m ≤ counted (length m) = counted-least (length m) (header_length m) l (omega (arith, header-most m)) in
            rw (header_is, le-ltb p.count (header_length m) (omega (arith, a.count))) (in_body l)

  pub all-like : (p : Pieces) (rows m xs : List ℕ) → Like p rows m → Like (feed_all_by p xs rows).state (feed_all_by p xs rows).rows (m ++ xs)
  unfolding feed_all_by
  all-like p rows m [] a = rw (append-nil m) a
  all-like p rows m (x ∷ xs) a =
      let e : (m ++ (x ∷ [])) ++ xs ≡ m ++ (x ∷ xs) = append_assoc m (x ∷ []) xs in
      rw e at (all-like (feed_by p x rows).state (feed_by p x rows).rows (m ++ (x ∷ [])) xs (feed-like p rows m x a))

  -- ---- parts

  -- such a state is taken with a table of the same length
  pub like-takes : (p : Pieces) (rows m : List ℕ) → Like p rows m → takes p room ≡ true
  unfolding takes
  like-takes p rows m a =
      let c : p.count ≤ 4097 = most (length m) a.count in
      rw (a.goes, eq-eqb p.room room a.room_is, le-leb p.count 4097 c) (rw a.kind (fits-test k p.going a.fits))
    where
      most : (n : ℕ) → p.count ≡ counted n → p.count ≤ 4097
      most n e = go (ltb 4096 n) refl
        where
          go : (c : Bool) → ltb 4096 n ≡ c → p.count ≤ 4097
          go true u = omega (arith, counted-high n (ltb-true _ _ u))
          go false u = let l : n ≤ 4096 = ltb-false _ _ u in omega (arith, counted-low n l)

  pub record Right (l : Lent) (m : List ℕ) : Type 0 where
    pub like : Like l.state (drop header_numbers l.table) m
    pub long : length l.table ≡ room

  -- the rows stand after the header again
  pub rows-again : (t rows : List ℕ) → length rows ≡ length (drop header_numbers t) → (drop header_numbers (take header_numbers t ++ rows) ≡ rows) × (length (take header_numbers t ++ rows) ≡ length t)
  rows-again t rows e = (go (ltb (length t) header_numbers) refl, size)
    where
      size : length (take header_numbers t ++ rows) ≡ length t
      size = length-append (take header_numbers t) rows ∙ rw (length-take header_numbers t, e, length-drop header_numbers t) (omega arith)

      none_of : (xs : List ℕ) → length xs ≡ 0 → xs ≡ []
      none_of [] z = refl
      none_of (y ∷ xs) z = absurd (omega arith)

      go : (c : Bool) → ltb (length t) header_numbers ≡ c → drop header_numbers (take header_numbers t ++ rows) ≡ rows
      go true u =
          let l : length t < header_numbers = ltb-true _ _ u in
          let z : length rows ≡ 0 = omega (arith, e, length-drop header_numbers t) in
          none_of (drop header_numbers (take header_numbers t ++ rows)) (omega (arith, length-drop header_numbers (take header_numbers t ++ rows), size)) ∙ sym (none_of rows z)
      go false u = let l : header_numbers ≤ length t = ltb-false _ _ u in drop_at (take header_numbers t) rows header_numbers (length-take header_numbers t ∙ omega arith)

  module _ (l : Lent) (m : List ℕ) (a : Right l m) where
    pub taken_is : takes l.state (length l.table) ≡ true
    taken_is = rw a.long (like-takes l.state (drop header_numbers l.table) m a.like)

    -- a part is taken: five zeros
    pub part-told : (part : List ℕ) → (part_told l.state part l.table).verdict ≡ accepted
    unfolding part_told
    part-told part = rw taken_is

    pub part_right : (part : List ℕ) → Right (record { state = (part_told l.state part l.table).state; table = part_table l.state part l.table }) (m ++ part)
    unfolding part_told part_table
    part_right part =
        let rows = drop header_numbers l.table in
        let r = rows-again l.table (feed_all_by l.state part rows).rows (all-length l.state part rows) in
        rw taken_is (record { like = rw r.0 (all-like l.state rows m part a.like); long = r.1 ∙ a.long })

    -- ---- the end

    abbrev p : Pieces
    p = l.state

    abbrev rows : List ℕ
    rows = drop header_numbers l.table

    header-there : header_by p ≡ first (opening_checks book k (take 4 m) (counted (length m)))
    header-there =
        rw (a.like.kind, a.like.count)
        (ap first (checks_by k (counted (length m)) p.head m a.like.head ∙ sym (four_checks m book k (counted (length m)))))

    out-there : cond p.going.stopped (refused_reading (refused_at 9 67 p.going.place 0 0)) (whole_reading p.going.counts) ≡ out_reading (out_held k (walking_of p.going rows))
    unfolding walking_of out_reading
    out-there = go p.going.stopped
      where
        go : (c : Bool) → cond c (refused_reading (refused_at 9 67 p.going.place 0 0)) (whole_reading p.going.counts)
            ≡ out_reading (out_held k (cond c (stopped p.going.place (draft_by p.going rows)) (going (stack_of p.going.depth p.going.levels) p.going.place (take p.going.have p.going.some) p.going.pass (draft_by p.going rows))))
        go true = refl
        go false = refl

    reading_there : reading_by p ≡ fed_reading (feed_after k none m)
    unfolding reading_by fed_reading feed_after
    reading_there = rw (header-there, out-there, a.like.walks)

    verdict-there : verdict_by p room ≡ fed_verdict (feed_after k none m) room
    verdict-there = ap (λ (r : Reading). given r room) reading_there

    pub told : Octets m → (end_told p l.table).verdict ≡ judge_verdict book k m room
    unfolding end_told
    told oct = rw (taken_is, a.long) (verdict-there ∙ fed-verdict k m blank (blank-clean room) room oct)

    held-there : draft_by p.going rows ≡ state_of (out_held k (walking_after k none m))
    held-there = (sym (made-is p.going rows) ∙ ap (λ (t : Walking Draft). state_of (out_held k t)) a.like.walks)

    -- the message type is octet 1 of what is held of the header
    type_there : message_type p.head ≡ message_type (take 4 m)
    unfolding message_type
    type_there = a.like.head 1 (omega arith) ∙ sym (get_or-take 4 m 1 0 (omega arith))

    table-there : headed (message_type p.head) p.kind (draft_by p.going rows) ≡ headed (message_type (take 4 m)) k (state_of (out_held k (walking_after k none m)))
    table-there = rw (type_there, a.like.kind) (ap (headed (message_type (take 4 m)) k) held-there)

    left_is : end_table p l.table ≡ fed_table (feed_after k none m) room
    unfolding end_table fed_table feed_after
    left_is = rw (taken_is, a.long, verdict-there) (ap (λ (t : List ℕ). cond (refuses (fed_verdict (feed_after k none m) room)) (zeros room) t) table-there)

    pub left : Octets m → end_table p l.table ≡ judge_table book k m (zeros room)
    left oct = left_is ∙ fed-table k room m oct

  pub start_right : Right (begun k room) []
  unfolding idle_by walking_of stack_of walking_after header_length flag_t counted
  start_right = record {
    like = record {
      kind = refl;
      room_is = refl;
      goes = refl;
      count = refl;
      bytes = refl;
      head = zeros-there;
      walks = refl;
      fits = idle-fits k no_counts (record { kept = omega arith; rows = omega arith });
    };
    long = length-replicate {A = ℕ} room 0;
  }
    where
      zeros-there : Heads4 (0 ∷ 0 ∷ 0 ∷ 0 ∷ []) []
      zeros-there zero l = refl
      zeros-there (suc zero) l = refl
      zeros-there (suc (suc zero)) l = refl
      zeros-there (suc (suc (suc zero))) l = refl
      zeros-there (suc (suc (suc (suc j)))) l = absurd (omega arith)

  parts-right : (l : Lent) (m : List ℕ) (ps : List (List ℕ)) → Right l m → Right (part_after l ps) (m ++ joined_parts ps)
  unfolding part_after joined_parts
  parts-right l m [] a = rw (append-nil m) a
  parts-right l m (p ∷ ps) a =
      let e : (m ++ p) ++ joined_parts ps ≡ m ++ (p ++ joined_parts ps) = append_assoc m p (joined_parts ps) in
      rw e at (parts-right (record { state = (part_told l.state p l.table).state; table = part_table l.state p l.table }) (m ++ p) ps (part_right l m a p))

-- ---- what the owner asks: however the octets are cut

-- the end after the parts ps, from a start on kind k over a table of so many numbers
pub record AsJudged (k room : ℕ) (ps : List (List ℕ)) : Type 0 where
  pub verdict : (end_told (part_after (begun k room) ps).state (part_after (begun k room) ps).table).verdict ≡ judge_verdict book k (joined_parts ps) room
  pub table : end_table (part_after (begun k room) ps).state (part_after (begun k room) ps).table ≡ judge_table book k (joined_parts ps) (zeros room)

pub as_judged : (k room : ℕ) (ps : List (List ℕ)) → Octets (joined_parts ps) → AsJudged k room ps
as_judged k room ps oct =
    let a = parts-right k room (begun k room) [] ps (start_right k room) in record {
      verdict = told k room (part_after (begun k room) ps) (joined_parts ps) a oct;
      table = left k room (part_after (begun k room) ps) (joined_parts ps) a oct;
    }

-- ---- 17: it has ended, or the table is another, and then nothing changes

pub after-end : (p : Pieces) (room : ℕ) → takes (ended_by p) room ≡ false
unfolding takes ended_by
after-end p room = refl

pub other_length : (p : Pieces) (room : ℕ) → (p.room ≡ room → ⊥) → takes p room ≡ false
unfolding takes
other_length p room n = rw (ne_eqb p.room room n) (both p.ended)
  where
    both : (c : Bool) → not c && false ≡ false
    both true = refl
    both false = refl

pub part-not-taken : (p : Pieces) (part table : List ℕ) → takes p (length table) ≡ false → ((part_told p part table).state ≡ p) × (part_table p part table ≡ table)
unfolding part_told part_table
part-not-taken p part table e = (rw e, rw e)

pub end-not-taken : (p : Pieces) (table : List ℕ) → takes p (length table) ≡ false → ((end_told p table).state ≡ p) × (end_table p table ≡ table)
unfolding end_told end_table
end-not-taken p table e = (rw e, rw e)
