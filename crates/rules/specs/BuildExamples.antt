-- Examples of the builder: what is asked, and what has to come out. Assumes nothing.
use Rattle.std.specs.Prelude.{ℕ, List, [], ◌∷◌, ◌++◌, length, drop, set, take, replicate}
use Rattle.rules.specs.Listings.{book}
use Rattle.rules.specs.Verdicts.{accepted, refused}
use Rattle.rules.specs.Built.{build_verdict, build_length, build_room}
use Rattle.rules.specs.CleanExamples.{Left}
use Rattle.rules.specs.Examples.{message_d, message_g}
use Rattle.rules.specs.declared.Verdict.{Verdict}

-- what is asked, with how many sevens are lent; then the verdict, the length, and what stands before the sevens that stay
pub record Build : Type 0 where
  pub teid : ℕ
  pub sequence : ℕ
  pub table : List ℕ
  pub values : List ℕ
  pub room : ℕ
  pub verdict : Verdict
  pub length_is : ℕ
  pub message : List ℕ

-- G's own table, and what its group's place and length are in another; its type and kind
abbrev pub table_of_g : ℕ → ℕ → ℕ → ℕ → List ℕ
table_of_g y k place len = 2 ∷ 2 ∷ 6 ∷ 18 ∷ y ∷ k ∷ 0 ∷ 93 ∷ 0 ∷ place ∷ len ∷ 0 ∷ 1 ∷ 73 ∷ 0 ∷ 20 ∷ 1 ∷ 0 ∷ []

abbrev pub table_g : ℕ → ℕ → List ℕ
table_g = table_of_g 66 1

-- a group in a group, of which neither lists the inner one; and a third row that stands in the outer one again
abbrev pub table_deep : ℕ → List ℕ
table_deep parent =
    3 ∷ 3 ∷ 6 ∷ 24 ∷ 66 ∷ 1 ∷ 0 ∷ 93 ∷ 0 ∷ 0 ∷ 0 ∷ 0 ∷ 1 ∷ 93 ∷ 5 ∷ 0 ∷ 0 ∷ 0 ∷ parent ∷ 73 ∷ 0 ∷ 20 ∷ 1 ∷ 0 ∷ []

-- no row at all
abbrev pub table_none : List ℕ
table_none = 0 ∷ 0 ∷ 6 ∷ 6 ∷ 66 ∷ 1 ∷ []

-- D's row, of so many octets that stand at a place
abbrev pub table_d : ℕ → ℕ → List ℕ
table_d place len = 1 ∷ 1 ∷ 6 ∷ 12 ∷ 1 ∷ 1 ∷ 0 ∷ 3 ∷ 0 ∷ place ∷ len ∷ 0 ∷ []

-- the same and a second row, a private extension's with the largest instance
abbrev pub table_two : ℕ → List ℕ
table_two t = 2 ∷ 2 ∷ 6 ∷ 18 ∷ 1 ∷ 1 ∷ 0 ∷ 3 ∷ 0 ∷ 0 ∷ 1 ∷ 0 ∷ 0 ∷ t ∷ 15 ∷ 0 ∷ 2 ∷ 0 ∷ []

abbrev pub asked : ℕ → ℕ → List ℕ → List ℕ → ℕ → Verdict → ℕ → List ℕ → Build
asked i s t values room v n m = record { teid = i; sequence = s; table = t; values = values; room = room; verdict = v; length_is = n; message = m }

-- G's numbers, with another table
abbrev pub refused_g : List ℕ → ℕ → Build
refused_g t n = asked 1 2 t message_g 25 (refused n 0) 0 []

unfoldable pub builds : List Build
builds =
    -- G from itself; a group's place and length are worked out
    asked 1 2 (table_g 16 5) message_g 23 accepted 21 message_g ∷
    asked 1 2 (table_g 9999 9999) message_g 21 accepted 21 message_g ∷
    -- D: type 1 carries no TEID; numbers past those used are not looked at
    asked 0x12345678 1 (table_d 0 1 ++ (9 ∷ 9 ∷ [])) (7 ∷ []) 23 accepted 13 message_d ∷
    -- the room is one octet short; 14 comes before 15, and 15 before 16
    asked 1 2 (table_g 16 5) message_g 20 (refused 15 0) 0 [] ∷
    asked 1 0x1000000 (table_g 16 5) message_g 20 (refused 14 0) 0 [] ∷
    asked 1 2 table_none [] 11 (refused 15 0) 0 [] ∷
    asked 1 2 table_none [] 23 (refused 16 0) 0 [] ∷
    -- a group that is not listed there, with a row inside: 16; a parent that is no ancestor, or stands later: 14
    refused_g (table_deep 2) 16 ∷
    refused_g (table_deep 1) 16 ∷
    refused_g (table_deep 0) 16 ∷
    refused_g (table_deep 3) 14 ∷
    refused_g (table_deep 4) 14 ∷
    refused_g (set (table_deep 1) 13 180) 16 ∷
    refused_g (set (table_deep 2) 13 73) 14 ∷
    -- the table is cut, and each number of its header is another, one too small or too large
    refused_g (take 5 (table_g 16 5)) 14 ∷
    refused_g (take 17 (table_g 16 5)) 14 ∷
    refused_g (set (table_g 16 5) 0 1) 14 ∷
    refused_g (set (table_g 16 5) 1 1) 14 ∷
    refused_g (set (table_g 16 5) 1 3) 14 ∷
    refused_g (set (table_g 16 5) 2 5) 14 ∷
    refused_g (set (table_g 16 5) 2 7) 14 ∷
    refused_g (set (table_g 16 5) 3 17) 14 ∷
    refused_g (set (table_g 16 5) 3 19 ++ (0 ∷ [])) 14 ∷
    -- a table of before, with a header of four
    refused_g (2 ∷ 2 ∷ 4 ∷ 16 ∷ 0 ∷ 93 ∷ 0 ∷ 16 ∷ 5 ∷ 0 ∷ 1 ∷ 73 ∷ 0 ∷ 20 ∷ 1 ∷ 0 ∷ []) 1 ∷
    -- a type, an instance and a standing too large; the header may count a row set aside right, and yet it is 14
    refused_g (set (table_g 16 5) 13 329) 14 ∷
    refused_g (set (table_g 16 5) 14 16) 14 ∷
    refused_g (set (set (table_g 16 5) 1 1) 17 3) 14 ∷
    refused_g (set (set (table_g 16 5) 1 1) 17 1) 14 ∷
    refused_g (set (set (table_g 16 5) 1 1) 17 2) 14 ∷
    -- a value up to the buffer's end, one past it, one whose end is small in 16 bits, and an empty one past the end
    asked 0 1 (table_d 1 1) (9 ∷ 7 ∷ []) 23 accepted 13 message_d ∷
    asked 0 1 (table_d 2 1) (9 ∷ 7 ∷ []) 23 (refused 14 0) 0 [] ∷
    asked 0 1 (table_d 65535 2) (9 ∷ 7 ∷ []) 23 (refused 14 0) 0 [] ∷
    asked 0 1 (table_d 3 0) (9 ∷ 7 ∷ []) 23 (refused 14 0) 0 [] ∷
    asked 0 1 (table_d 2 0) (9 ∷ 7 ∷ []) 23 (refused 16 0) 0 [] ∷
    -- too short for its header before the kind, the kind before the type, the type before the rest; neither is cut to octets
    asked 0 1 [] [] 23 (refused 14 0) 0 [] ∷
    asked 0 1 (take 5 (table_of_g 257 257 0 0)) [] 23 (refused 14 0) 0 [] ∷
    asked 0 1 (take 6 (table_of_g 257 257 0 0)) [] 23 (refused 1 0) 0 [] ∷
    asked 0 1 (take 6 (table_of_g 257 3 0 0)) [] 23 (refused 7 0) 0 [] ∷
    refused_g (table_of_g 322 1 16 5) 7 ∷
    refused_g (table_of_g 66 0 16 5) 1 ∷
    refused_g (table_of_g 66 5 16 5) 1 ∷
    -- a type that is not on the kind, after one that is none, and before the rest
    refused_g (table_of_g 66 4 16 5) 21 ∷
    asked 0 1 (take 6 (table_of_g 131 3 0 0)) [] 23 (refused 21 0) 0 [] ∷
    asked 0 1 (take 6 (table_of_g 257 4 0 0)) [] 23 (refused 7 0) 0 [] ∷
    -- another type and another kind, on which it is not accepted, and one on which it is
    refused_g (table_of_g 67 1 16 5) 16 ∷
    asked 1 2 (table_of_g 66 3 16 5) message_g 23 accepted 21 message_g ∷
    -- a first row in a group; a row in itself; a row in a group that has ended
    refused_g (set (table_g 16 5) 6 1) 14 ∷
    refused_g (set (table_g 16 5) 12 2) 14 ∷
    refused_g (3 ∷ 3 ∷ 6 ∷ 24 ∷ 66 ∷ 1 ∷ 0 ∷ 93 ∷ 0 ∷ 0 ∷ 0 ∷ 0 ∷ 0 ∷ 3 ∷ 0 ∷ 20 ∷ 1 ∷ 0 ∷ 1 ∷ 73 ∷ 0 ∷ 20 ∷ 1 ∷ 0 ∷ []) 14 ∷
    -- the largest type, instance and sequence number, and a type one larger
    asked 0 0xFFFFFF (table_two 255) (7 ∷ 8 ∷ []) 23 accepted 19 (0x40 ∷ 1 ∷ 0 ∷ 15 ∷ 0xFF ∷ 0xFF ∷ 0xFF ∷ 0 ∷ 3 ∷ 0 ∷ 1 ∷ 0 ∷ 7 ∷ 255 ∷ 0 ∷ 2 ∷ 15 ∷ 7 ∷ 8 ∷ []) ∷
    asked 0 1 (table_two 256) (7 ∷ 8 ∷ []) 23 (refused 14 0) 0 [] ∷
    -- 4,096 octets, and one more; the buffer may be longer than 16 bits count
    asked 0 1 (table_d 0 4084) (replicate 4084 7) 4099 accepted 4096 (0x40 ∷ 1 ∷ 0x0F ∷ 0xFC ∷ 0 ∷ 0 ∷ 1 ∷ 0 ∷ 3 ∷ 0x0F ∷ 0xF4 ∷ 0 ∷ replicate 4084 7) ∷
    asked 0 1 (table_d 0 4085) (replicate 4085 7) 5000 (refused 15 0) 0 [] ∷
    asked 0 1 (table_d 65535 1) (replicate 65536 7) 13 accepted 13 message_d ∷
    []

abbrev pub room_octets : Build → List ℕ
room_octets x = replicate x.room 7

-- what comes out, and what is written
abbrev pub build_outcome : Build → Left
build_outcome x = record {
  verdict = build_verdict book x.teid x.sequence x.table x.values (length (room_octets x));
  length_is = build_length book x.teid x.sequence x.table x.values (length (room_octets x));
  left = build_room book x.teid x.sequence x.table x.values (room_octets x);
}

abbrev pub build_written : Build → Left
build_written x = record { verdict = x.verdict; length_is = x.length_is; left = x.message ++ drop (length x.message) (room_octets x) }
