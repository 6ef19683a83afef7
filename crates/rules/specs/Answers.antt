-- What each public function answers and leaves, for every input: the statements that the code's contracts cite whole. Assumes nothing.
use Rattle.std.specs.Prelude.{◌≡◌, ℕ, ◌*◌, Bool, cond, List, [], ltb, length}
use Rattle.rules.specs.Sizes.{row_numbers}
use Rattle.std.specs.Borrow.{Bor}
use Rattle.rules.specs.Framing.{message_type}
use Rattle.rules.specs.Listings.{Book, book}
use Rattle.rules.specs.Standing.{Item}
use Rattle.rules.specs.Taking.{body_level}
use Rattle.rules.specs.Table.{rows_of, kept_rows, laid, fitting}
use Rattle.rules.specs.Verdicts.{accepted, first, refuses, header_checks, framing_checks, short_verdict, lack_verdict, items, call_verdict, call_table}
use Rattle.rules.specs.Covered.{call_copy}
use Rattle.rules.specs.Cleaned.{clean_verdict, clean_length, clean_copy}
use Rattle.rules.specs.Built.{build_verdict, build_length, build_room}
use Rattle.rules.specs.Counting.{count_verdict, count_rows}
use Rattle.rules.specs.Values.{Stands, desk_span, plain_span}
use Rattle.rules.specs.Octets.{numbers_in, five_laid, answer_laid, table_room, call_octets}
use Rattle.rules.specs.declared.Verdict.{Verdict}
use Rattle.rules.specs.declared.Reading.{Reading}
use Rattle.rules.specs.declared.Decision.{Decision}
use Rattle.rules.specs.declared.Sent.{Sent}
use Rattle.rules.specs.declared.Count.{Count}

-- ---- the reading of a message

-- refused by 1 to 9: nothing is counted
abbrev pub refused_reading : Verdict → Reading
refused_reading v = record { refusal = v; rows = 0; kept = 0; short = accepted; lack = accepted }

module _ (b : Book) (k : ℕ) (m : List ℕ) where
  unfoldable pub reading_of : Reading
  reading_of =
      cond (refuses (first (framing_checks b k m))) (refused_reading (first (framing_checks b k m)))
      (record {
        refusal = accepted;
        rows = length (items b k m);
        kept = kept_rows (items b k m);
        short = short_verdict (items b k m);
        lack = lack_verdict b k (body_level b m) (items b k m);
      })

  -- the elements that a reading takes: none if 1 to 8 apply, those before the cut if 9 does
  unfoldable pub read_items : List Item
  read_items = cond (refuses (first (header_checks b k m))) [] (items b k m)

  -- the rows of those elements, as many as there is room for, over the start of what is lent
  unfoldable pub read_rows : List ℕ → List ℕ
  read_rows rows = laid (rows_of (fitting (length rows) read_items)) rows

pub record Read (kind : ℕ) (message rows : List ℕ) (answer : Reading) (rows' : List ℕ) : Type 0 where
  pub answers : answer ≡ reading_of book kind message
  pub rows_left : rows' ≡ read_rows book kind message rows

-- ---- the one call: judge and copy

pub record Called (kind : ℕ) (message table copy : List ℕ) (answer : Verdict) (table' copy' : List ℕ) : Type 0 where
  pub answers : answer ≡ call_verdict book kind message (length copy) (length table)
  pub table_left : table' ≡ call_table book kind message (length copy) table
  pub copy_left : copy' ≡ call_copy book kind message (length table) copy

-- the same with a table lent as octets, two a number
pub record CalledStored (kind : ℕ) (message table copy : List ℕ) (answer : Verdict) (table' copy' : List ℕ) : Type 0 where
  pub answers : answer ≡ call_verdict book kind message (length copy) (table_room table)
  pub table_left : table' ≡ call_octets book kind message (length copy) table
  pub copy_left : copy' ≡ call_copy book kind message (table_room table) copy

-- what it decides, for a copy buffer of so many octets and a table of so many numbers
unfoldable pub decision_of : Book → ℕ → List ℕ → ℕ → ℕ → Decision
decision_of b k m octets room = record {
  verdict = call_verdict b k m octets room;
  rows = (reading_of b k m).rows;
  kept = (reading_of b k m).kept;
  typ = cond (refuses (call_verdict b k m octets room)) 0 (message_type m);
  kind = cond (refuses (call_verdict b k m octets room)) 0 k;
}

-- the call without its table: the rows go to a scratch, as many as there is room for; the copy is written only if there is room for all of them
pub record Decided (kind : ℕ) (message rows : List ℕ) (room : ℕ) (copy : List ℕ) (answer : Decision) (rows' copy' : List ℕ) : Type 0 where
  pub answers : answer ≡ decision_of book kind message (length copy) room
  pub rows_left : rows' ≡ read_rows book kind message rows
  pub copy_left : copy' ≡ cond (ltb (length rows) (row_numbers * (reading_of book kind message).rows)) copy (call_copy book kind message room copy)

-- ---- the cleaned copy

pub record Cleans (kind : ℕ) (message out : List ℕ) (answer : Sent) (out' : List ℕ) : Type 0 where
  pub verdict_is : answer.verdict ≡ clean_verdict book kind message (length out)
  pub length_is : answer.length ≡ clean_length book kind message (length out)
  pub out_left : out' ≡ clean_copy book kind message out

-- ---- the builder

pub record Builds (teid sequence : ℕ) (table values room : List ℕ) (answer : Sent) (room' : List ℕ) : Type 0 where
  pub verdict_is : answer.verdict ≡ build_verdict book teid sequence table values (length room)
  pub length_is : answer.length ≡ build_length book teid sequence table values (length room)
  pub room_left : room' ≡ build_room book teid sequence table values room

-- ---- the count of rows

pub record Counted (kind : ℕ) (message : List ℕ) (answer : Count) : Type 0 where
  pub verdict_is : answer.verdict ≡ count_verdict book kind message
  pub rows_is : answer.rows ≡ count_rows book kind message

-- ---- the lookups and their companions

abbrev pub Plain : ℕ → ℕ → ℕ → Bor (List ℕ) → List ℕ → Bor (List ℕ) → Type 0
Plain kind typ inst message table part = Stands message (plain_span kind typ inst message.now table) part

abbrev pub PlainFound : ℕ → ℕ → ℕ → List ℕ → List ℕ → Bool → Type 0
PlainFound kind typ inst message table answer = answer ≡ (plain_span kind typ inst message table).there

-- with the right a part of the message, without it one of the copy; the copy's type is not looked at
abbrev pub Desk : ℕ → ℕ → Bool → Bor (List ℕ) → Bor (List ℕ) → List ℕ → Bor (List ℕ) → Type 0
Desk kind row right message copy table part =
    Stands (cond right message copy) (desk_span kind row message.now (length copy.now) table) part

abbrev pub DeskFound : ℕ → ℕ → Bool → List ℕ → List ℕ → List ℕ → Bool → Type 0
DeskFound kind row right message copy table answer = answer ≡ (desk_span kind row message (length copy) table).there

-- ---- the exports to C: the code is the result

pub record CalledOctets (kind : ℕ) (message table copy five : List ℕ) (code : ℕ) (table' copy' five' : List ℕ) : Type 0 where
  pub answers : code ≡ (call_verdict book kind message (length copy) (table_room table)).code
  pub table_left : table' ≡ call_octets book kind message (length copy) table
  pub copy_left : copy' ≡ call_copy book kind message (table_room table) copy
  pub five_left : five' ≡ five_laid (call_verdict book kind message (length copy) (table_room table)) five

pub record CleanedOctets (kind : ℕ) (message clean answer : List ℕ) (code : ℕ) (clean' answer' : List ℕ) : Type 0 where
  pub answers : code ≡ (clean_verdict book kind message (length clean)).code
  pub clean_left : clean' ≡ clean_copy book kind message clean
  pub answer_left : answer' ≡ answer_laid (clean_verdict book kind message (length clean)) (clean_length book kind message (length clean)) answer

-- the table's numbers are those that its octets are read as
pub record BuiltOctets (teid sequence : ℕ) (table values room answer : List ℕ) (code : ℕ) (room' answer' : List ℕ) : Type 0 where
  pub answers : code ≡ (build_verdict book teid sequence (numbers_in table) values (length room)).code
  pub room_left : room' ≡ build_room book teid sequence (numbers_in table) values room
  pub answer_left : answer'
      ≡ answer_laid (build_verdict book teid sequence (numbers_in table) values (length room)) (build_length book teid sequence (numbers_in table) values (length room)) answer

pub record CountedOctets (kind : ℕ) (message answer : List ℕ) (code : ℕ) (answer' : List ℕ) : Type 0 where
  pub answers : code ≡ (count_verdict book kind message).code
  pub answer_left : answer' ≡ answer_laid (count_verdict book kind message) (count_rows book kind message) answer
