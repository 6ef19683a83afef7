-- What the start, a part and the end answer and leave, for every state: the statements that the contracts cite whole. Assumes nothing.
use Rattle.std.specs.Prelude.{◌≡◌, ℕ, ◌+◌, ◌-◌, Bool, true, false, cond, not, ◌&&◌, List, [], ◌∷◌, ◌++◌, eqb, ltb, leb, length, take, drop, replicate}
use Rattle.rules.specs.Sizes.{largest_message, header_numbers, used}
use Rattle.rules.specs.Framing.{element_header, value_length, message_type}
use Rattle.rules.specs.Types.{among}
use Rattle.rules.specs.Listings.{book}
use Rattle.rules.specs.Verdicts.{opening_checks, accepted, refused, refused_at, refuses, first}
use Rattle.rules.specs.Answers.{refused_reading}
use Rattle.rules.specs.declared.Verdict.{Verdict}
use Rattle.rules.specs.declared.Reading.{Reading}
use Rattle.taking.specs.Held.{no_counts}
use Rattle.taking.specs.declared.Counts.{Counts}
use Rattle.reading.specs.Scan.{whole_reading}
use Rattle.judging.specs.Judging.{given}
use Rattle.pieces.specs.declared.Open.{Open}
use Rattle.pieces.specs.declared.Going.{Going}
use Rattle.pieces.specs.declared.Pieces.{Pieces}
use Rattle.pieces.specs.declared.Told.{Told}
use Rattle.pieces.specs.Depth.{deepest}
use Rattle.pieces.specs.Feeding.{zeros}
use Rattle.pieces.specs.Coded.{top_of, idle_by, feed_all_by}

-- ---- are a state's numbers such that the sums and the marks hold? Those that a start leads to are (`Main.like-takes`)

unfoldable pub slot_fits : Open → Bool
slot_fits f = ltb f.level (length book.levels) && (leb f.parent largest_message && (leb f.home largest_message && leb f.left largest_message))

-- and so does each level, open or not; from a place on, they have so many octets left as a message may have
unfoldable pub slots_fit : ℕ → List Open → Bool
slots_fit at [] = true
slots_fit at (f ∷ fs) = slot_fits f && (leb (at + f.left) largest_message && slots_fit (at + f.left) fs)

-- the counts to go back to are some of those there are, and the APNs have a row each
unfoldable pub back_fits : Counts → ℕ → ℕ → Bool
back_fits back rows apns = leb back.rows rows && (leb apns (rows - back.rows) && leb back.kept back.rows)

-- a header that is gathered whole is of an element that lies in its level and is not empty
unfoldable pub waits : Going → Bool
waits w =
    cond w.stopped true
    (cond (eqb w.depth 0) true
    (cond (not (eqb w.have 4)) true
    (not (eqb (value_length w.some) 0) && leb (element_header + value_length w.some) (top_of w).left)))

unfoldable pub walk_fits : ℕ → Going → Bool
walk_fits k w =
    leb w.place largest_message
    && (slots_fit w.place w.levels
    && (leb w.depth deepest
    && (leb w.have 4
    && (leb w.counts.rows w.place
    && (leb w.counts.kept w.counts.rows
    && (back_fits w.back w.counts.rows w.apns
    && (cond (eqb w.depth 0) true (among k book.kinds)
    && waits w)))))))

-- 17: it has ended, or the table has not the length that it began with
unfoldable pub takes : Pieces → ℕ → Bool
takes p room = not p.ended && (eqb p.room room && (leb p.count 4097 && walk_fits p.kind p.going))

abbrev pub out : Verdict
out = refused 17 0

abbrev pub told_out : Pieces → Told
told_out p = record { state = p; verdict = out }

-- ---- the start

abbrev pub start_of : ℕ → ℕ → Pieces
start_of k room = record { kind = k; room = room; ended = false; count = 0; head = replicate 4 0; going = idle_by no_counts }

pub record Started (k : ℕ) (table : List ℕ) (r : Pieces) (table' : List ℕ) : Type 0 where
  pub answers : r ≡ start_of k (length table)
  pub table_left : table' ≡ zeros (length table)

-- ---- a part

unfoldable pub part_told : Pieces → List ℕ → List ℕ → Told
part_told p part table =
    cond (takes p (length table)) (record { state = (feed_all_by p part (drop header_numbers table)).state; verdict = accepted }) (told_out p)

unfoldable pub part_table : Pieces → List ℕ → List ℕ → List ℕ
part_table p part table =
    cond (takes p (length table)) (take header_numbers table ++ (feed_all_by p part (drop header_numbers table)).rows) table

pub record Parted (p : Pieces) (part table : List ℕ) (r : Told) (table' : List ℕ) : Type 0 where
  pub answers : r ≡ part_told p part table
  pub table_left : table' ≡ part_table p part table

-- ---- the end

unfoldable pub ended_by : Pieces → Pieces
ended_by p = record { kind = p.kind; room = p.room; ended = true; count = p.count; head = p.head; going = p.going }

abbrev pub header_by : Pieces → Verdict
header_by p = first (opening_checks book p.kind p.head p.count)

-- checks 1 to 9
unfoldable pub reading_by : Pieces → Reading
reading_by p =
    cond (refuses (header_by p)) (refused_reading (header_by p))
    (cond p.going.stopped (refused_reading (refused_at 9 67 p.going.place 0 0)) (whole_reading p.going.counts))

abbrev pub verdict_by : Pieces → ℕ → Verdict
verdict_by p room = given (reading_by p) room

unfoldable pub end_told : Pieces → List ℕ → Told
end_told p table = cond (takes p (length table)) (record { state = ended_by p; verdict = verdict_by p (length table) }) (told_out p)

unfoldable pub end_table : Pieces → List ℕ → List ℕ
end_table p table =
    cond (takes p (length table))
    (cond (refuses (verdict_by p (length table))) (zeros (length table))
    ((p.going.counts.rows ∷ p.going.counts.kept ∷ header_numbers ∷ used p.going.counts.rows ∷ message_type p.head ∷ p.kind ∷ []) ++ drop header_numbers table))
    table

pub record Ended (p : Pieces) (table : List ℕ) (r : Told) (table' : List ℕ) : Type 0 where
  pub answers : r ≡ end_told p table
  pub table_left : table' ≡ end_table p table

-- ---- from a start over one table, part after part

pub record Lent : Type 0 where
  pub state : Pieces
  pub table : List ℕ

abbrev pub begun : ℕ → ℕ → Lent
begun k room = record { state = start_of k room; table = zeros room }

unfoldable pub part_after : Lent → List (List ℕ) → Lent
part_after l [] = l
part_after l (p ∷ ps) = part_after (record { state = (part_told l.state p l.table).state; table = part_table l.state p l.table }) ps
