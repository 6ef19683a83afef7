-- The table that the rows are shown of: it is the message's own, and the call's where that accepts. Assumes nothing.
--     headed          the counts of a decision fit
--     listed          a header before the rows that a decision leaves makes the message's table
--     called-table    which is what the call leaves, where it accepts
--     all_shown       it is of the message on the kind by its own header, so the lookups find all its rows
use mathlib.Core.Path.{◌≡◌, refl, ap, ◌∙◌}
use mathlib.Core.Bool.{Bool, true, false, ◌||◌}
use mathlib.Core.List.{List, [], ◌∷◌, ◌++◌, append-nil}
use Prim.Native.Nat.{ℕ, ◌+◌, ◌-◌, ◌*◌, ◌≤◌}
use native.Mathlib.Omega.{arith}
use borrow.Author.Tests.{lt-ltb, eqb-true}
use lib.Dec.{eqb}
use lib.ListN.{length, take, drop, length-replicate, length-append, length-drop, drop_of_length-le}
use lib.Seq.{drop-drop, drop_at, take_all, length-take-le}
use Rattle.rules.specs.Sizes.{largest_message, most_rows, row_numbers, used}
use Rattle.rules.specs.Framing.{octet, message_type}
use Rattle.rules.specs.Types.{among}
use Rattle.rules.specs.Listings.{book}
use Rattle.rules.specs.Table.{rows_of, kept_rows, header, table_of, laid}
use Rattle.rules.specs.Verdicts.{refuses, first, framing_checks, call_verdict, call_table, items}
use Rattle.rules.specs.Covered.{call_copy}
use Rattle.rules.specs.Taking.{items_in}
use Rattle.rules.specs.Values.{table_rows}
use Rattle.rules.specs.Answers.{reading_of, decision_of, Decided}
use Rattle.rules.specs.declared.Decision.{Decision}
use Rattle.rules.proofs.Book.{book-sound}
use Rattle.rules.proofs.Header.{framed}
use Rattle.rules.proofs.Rows.{kept-most}
use Rattle.rules.proofs.Readings.{few, count_is, kept_is, all_laid}
use Rattle.tables.specs.IsTable.{IsTable}
use Rattle.tables.proofs.Rowed.{laid-begins, laid_of, count_of}
use Rattle.tables.proofs.Soundness.{is-table}
use Rattle.promises.proofs.Lookups.{is-of}
use Rattle.scratch.specs.Zeros.{Zeros}
use Rattle.calling.proofs.Settling.{verdict_is, most-rows, copy_is}
use Rattle.phrases.specs.Sentences.{narrow}
use Rattle.showing.specs.Showing.{table_room, copy_room, table_read, Listed}

room-size : length table_room ≡ 6138
room-size = length-replicate {A = ℕ} 6138 0

reading_kept : (k : ℕ) (m : List ℕ) → (reading_of book k m).kept ≤ (reading_of book k m).rows
unfolding reading_of
reading_kept k m = go (refuses (first (framing_checks book k m))) refl
  where
    go : (c : Bool) → refuses (first (framing_checks book k m)) ≡ c → (reading_of book k m).kept ≤ (reading_of book k m).rows
    go true e = rw e (omega arith)
    go false e = rw e (kept-most (items book k m))

-- a kind that 1 passes has 16 bits
known : (k : ℕ) → among k book.kinds ≡ true → k ≤ 4
unfolding book
known k e = go (eqb k 1) (eqb k 2) (eqb k 3) (eqb k 4) refl refl refl refl e
  where
    go : (a b c d : Bool) → eqb k 1 ≡ a → eqb k 2 ≡ b → eqb k 3 ≡ c → eqb k 4 ≡ d → (a || (b || (c || (d || false)))) ≡ true → k ≤ 4
    go true b c d x y z u w = omega (arith, eqb-true k 1 x)
    go false true c d x y z u w = omega (arith, eqb-true k 2 y)
    go false false true d x y z u w = omega (arith, eqb-true k 3 z)
    go false false false true x y z u w = omega (arith, eqb-true k 4 u)
    go false false false false x y z u w = let t : ◌≡◌ {A = ℕ} 0 1 = cc in absurd (omega arith)

kind-narrow : (k : ℕ) (m : List ℕ) → refuses (first (framing_checks book k m)) ≡ false → narrow k ≡ k
unfolding narrow
kind-narrow k m e = rw (lt-ltb k 65536 (omega (arith, known k (framed book k m e).0.kind)))

-- the header of the table of a decision
abbrev head_of : Decision → ℕ → ℕ → List ℕ
head_of d typ kind = d.rows ∷ d.kept ∷ 6 ∷ used d.rows ∷ typ ∷ kind ∷ []

-- the rows are lent the table from its seventh number on, and come back there
abbrev lent : List ℕ → List ℕ
lent room = take (length room - 6) (drop 6 room)

abbrev back : List ℕ → List ℕ → List ℕ
back room rows = take 6 room ++ (rows ++ drop (length room - 6) (drop 6 room))

module _ (room : List ℕ) (z : Zeros 6138 room) where
  lent_is : lent room ≡ drop 6 room
  lent_is = take_all (length room - 6) (drop 6 room) (omega (arith, length-drop 6 room))

  six : length (take 6 room) ≡ 6
  six = length-take-le 6 room (omega (arith, z.size))

  back_is : (rows : List ℕ) → drop 6 (back room rows) ≡ rows
  back_is rows =
      let l : length (drop 6 room) ≤ length room - 6 = omega (arith, length-drop 6 room) in
      drop_at (take 6 room) (rows ++ drop (length room - 6) (drop 6 room)) 6 six ∙ rw (drop_of_length-le (drop 6 room) l, append-nil rows)

  module _ (k : ℕ) (m : List ℕ) {copy₀ rows copy : List ℕ} {d : Decision} (x : Decided k m (lent room) (used most_rows) copy₀ d rows copy) where
    kept_few : d.kept ≤ d.rows
    unfolding decision_of
    kept_few = rw x.answers (reading_kept k m)

    pub headed : (d.rows ≤ largest_message) × (d.kept ≤ d.rows) × (6 ≤ length (back room rows))
    headed = (omega (arith, most-rows k m x), kept_few, omega (arith, six, length-append (take 6 room) (rows ++ drop (length room - 6) (drop 6 room))))

    roomy : row_numbers * (reading_of book k m).rows ≤ length (lent room)
    roomy = omega (arith, few book k m, ap length lent_is, length-drop 6 room, z.size)

    own : {typ kind : ℕ} → typ ≡ octet m 1 → kind ≡ narrow k → refuses (first (framing_checks book k m)) ≡ false → head_of d typ kind ++ rows ≡ table_read k m
    unfolding decision_of table_read table_of header laid message_type
    own y w e =
        let is = items book k m in
        let n : d.rows ≡ length is = rw x.answers (count_is book k m e) in
        let c : d.kept ≡ kept_rows is = rw x.answers (kept_is book k m e) in
        let all : rows ≡ rows_of is ++ drop (length (rows_of is)) (lent room) = x.rows_left ∙ all_laid book k m e (lent room) roomy in
        let long : length (table_of (message_type m) k is) ≡ 6 + length (rows_of is) = omega arith in
        rw (n, c, y, w ∙ kind-narrow k m e, all, lent_is, drop-drop (length (rows_of is)) 6 room, z.is, ← long)

    pub listed : {typ kind : ℕ} {table : List ℕ} → copy₀ ≡ copy_room m → typ ≡ octet m 1 → kind ≡ narrow k → table ≡ head_of d typ kind ++ drop 6 (back room rows)
        → Listed k m d.verdict table copy
    unfolding decision_of
    listed o y w t =
        let size : length copy₀ ≡ length m = ap length o ∙ length-replicate {A = ℕ} (length m) 0 in
        record {
          answers = verdict_is k m x ∙ ap (λ (n : ℕ). call_verdict book k m n (used most_rows)) size;
          listed = λ e. t ∙ rw (back_is rows) (own y w e);
          copied = copy_is k m x (rw x.answers roomy) ∙ ap (call_copy book k m (used most_rows)) o;
        }

-- where the call accepts, the table is the one that it leaves
pub called-table : (k : ℕ) (m : List ℕ) (octets : ℕ) → refuses (call_verdict book k m octets (used most_rows)) ≡ false → table_read k m ≡ call_table book k m octets table_room
unfolding table_read call_table
called-table k m octets e = let s : refuses (call_verdict book k m octets (length table_room)) ≡ false = rw room-size e in rw s

-- by its own header it is this message's on this kind, so each of its rows has a line on the page
pub all_shown : (k : ℕ) (m : List ℕ) → refuses (first (framing_checks book k m)) ≡ false → table_rows k m (table_read k m) ≡ length (items book k m)
unfolding table_rows table_read
all_shown k m e =
    let f = framed book k m e in
    let is = f.1.0 in
    let own : items book k m ≡ is = ap items_in f.1.1 in
    let t = laid (table_of (message_type m) k is) table_room in
    let b = laid-begins (message_type m) k is table_room in
    let x : IsTable book k m t = is-table book book-sound k m t is b f.1.1 f.0.has_header f.0.listed (laid_of k m is table_room) in
    rw (own, is-of book k m t x) (count_of t is b)
