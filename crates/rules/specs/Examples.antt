-- The examples A to M, and those of CR 8 and CR 9: what is asked, and what has to come out. Assumes nothing.
use Rattle.std.specs.Prelude.{ℕ, zero, suc, ◌+◌, List, [], ◌∷◌, ◌++◌, length, take, drop, set, replicate}
use Rattle.rules.specs.Listings.{book}
use Rattle.rules.specs.Verdicts.{accepted, refused, refused_at, call_verdict, call_table}
use Rattle.rules.specs.Covered.{call_copy}
use Rattle.rules.specs.declared.Verdict.{Verdict}

-- the letter of the example, the kind, the message and what is lent: a table and a copy; then the verdict and what is left in these
pub record Example : Type 0 where
  pub letter : ℕ
  pub kind : ℕ
  pub message : List ℕ
  pub table : List ℕ
  pub copy : List ℕ
  pub verdict : Verdict
  pub table_left : List ℕ
  pub copy_left : List ℕ

pub record Outcome : Type 0 where
  pub verdict : Verdict
  pub table : List ℕ
  pub copy : List ℕ

-- a table of sevens with room for three rows and one number more
abbrev pub sevens : List ℕ
sevens = replicate 25 7

-- a copy buffer of sevens with room for thirty octets and one more
abbrev pub sheet : List ℕ
sheet = replicate 31 7

-- numbers and octets that are written stand at the start of what was lent; the rest stays
abbrev pub asked : ℕ → ℕ → List ℕ → List ℕ → List ℕ → Verdict → List ℕ → List ℕ → Example
asked x k m table copy v numbers octets = record {
  letter = x;
  kind = k;
  message = m;
  table = table;
  copy = copy;
  verdict = v;
  table_left = numbers ++ drop (length numbers) table;
  copy_left = octets ++ drop (length octets) copy;
}

-- accepted: both are written
abbrev pub taken : ℕ → ℕ → List ℕ → List ℕ → List ℕ → Example
taken x k m numbers octets = asked x k m sevens sheet accepted numbers octets

-- refused by 11 or 12: the copy alone is
abbrev pub copied : ℕ → ℕ → List ℕ → Verdict → List ℕ → Example
copied x k m v octets = asked x k m sevens sheet v [] octets

-- refused by any other: neither is
abbrev pub left : ℕ → ℕ → List ℕ → Verdict → Example
left x k m v = asked x k m sevens sheet v [] []

-- ---- the messages

abbrev pub message_d : List ℕ
message_d = 0x40 ∷ 0x01 ∷ 0x00 ∷ 0x09 ∷ 0x00 ∷ 0x00 ∷ 0x01 ∷ 0x00 ∷ 0x03 ∷ 0x00 ∷ 0x01 ∷ 0x00 ∷ 0x07 ∷ []

abbrev pub message_e : List ℕ
message_e = 0x40 ∷ 0x01 ∷ 0x00 ∷ 0x04 ∷ 0x00 ∷ 0x00 ∷ 0x01 ∷ 0x00 ∷ []

abbrev pub head_f : List ℕ
head_f = 0x40 ∷ 0x01 ∷ 0x00 ∷ 0x0D ∷ 0x00 ∷ 0x00 ∷ 0x01 ∷ 0x00 ∷ []

abbrev pub first_f : List ℕ
first_f = 0x03 ∷ 0x00 ∷ 0x01 ∷ 0x00 ∷ 0x07 ∷ []

abbrev pub second_f : List ℕ
second_f = 0x03 ∷ 0x00 ∷ 0x00 ∷ 0x00 ∷ []

abbrev pub message_g : List ℕ
message_g =
    0x48 ∷ 0x42 ∷ 0x00 ∷ 0x11 ∷ 0x00 ∷ 0x00 ∷ 0x00 ∷ 0x01 ∷ 0x00 ∷ 0x00 ∷ 0x02 ∷ 0x00 ∷
    0x5D ∷ 0x00 ∷ 0x05 ∷ 0x00 ∷ 0x49 ∷ 0x00 ∷ 0x01 ∷ 0x00 ∷ 0x05 ∷ []

-- G's first 12 octets with another length
abbrev pub head_g : ℕ → List ℕ
head_g n = set (take 12 message_g) 3 n

abbrev pub message_k : List ℕ
message_k = set message_g 3 0x15 ++ (0xB4 ∷ 0x00 ∷ 0x00 ∷ 0x01 ∷ [])

abbrev pub message_m : List ℕ
message_m =
    0x40 ∷ 0x01 ∷ 0x00 ∷ 0x0F ∷ 0x00 ∷ 0x00 ∷ 0x01 ∷ 0x00 ∷
    0x03 ∷ 0x00 ∷ 0x01 ∷ 0x00 ∷ 0x07 ∷ 0xC8 ∷ 0x00 ∷ 0x02 ∷ 0x00 ∷ 0x11 ∷ 0x22 ∷ []

-- the numbers of a table: its header, and a row
abbrev pub head : ℕ → ℕ → ℕ → ℕ → ℕ → ℕ → List ℕ → List ℕ
head a b c d e f rows = a ∷ b ∷ c ∷ d ∷ e ∷ f ∷ rows

abbrev pub line : ℕ → ℕ → ℕ → ℕ → ℕ → ℕ → List ℕ → List ℕ
line p t i a n s rows = p ∷ t ∷ i ∷ a ∷ n ∷ s ∷ rows

-- ---- the table of examples

abbrev pub table_d : List ℕ
table_d = head 1 1 6 12 1 1 (line 0 3 0 12 1 0 [])

unfoldable pub examples : List Example
examples =
    -- A: empty: 2
    left 0xA 1 [] (refused 2 0) ∷
    -- B: `60`: 3
    left 0xB 1 (0x60 ∷ []) (refused 3 0) ∷
    -- C: `40`: 4
    left 0xC 1 (0x40 ∷ []) (refused 4 0) ∷
    -- D: table 1 1 6 12 1 1, 0 3 0 12 1 0; without its last octet: 6
    taken 0xD 1 message_d table_d message_d ∷
    left 0xD 1 (take 12 message_d) (refused 6 67) ∷
    -- E: 12, 70, 0, 3, 0
    copied 0xE 1 message_e (refused_at 12 70 0 3 0) message_e ∷
    -- F: accepted, second row 0 3 0 17 0 2; the two elements exchanged: 11, 67, 8, 3, 0, and the repeated one is covered
    taken 0xF 1 (head_f ++ first_f ++ second_f) (head 2 1 6 18 1 1 (line 0 3 0 12 1 0 (line 0 3 0 17 0 2 []))) (head_f ++ first_f ++ second_f) ∷
    copied 0xF 1 (head_f ++ second_f ++ first_f) (refused_at 11 67 8 3 0) (head_f ++ second_f ++ set first_f 4 0x00) ∷
    -- G: accepted; H: G with `60` for `5D`: 12, 70, 0, 93, 0, and what is not listed is covered
    taken 0x10 1 message_g (head 2 2 6 18 66 1 (line 0 93 0 16 5 0 (line 1 73 0 20 1 0 []))) message_g ∷
    copied 0x11 1 (set message_g 12 0x60) (refused_at 12 70 0 93 0) (take 16 (set message_g 12 0x60) ++ replicate 5 0) ∷
    -- I: 12, 70, 12, 73, 0
    copied 0x12 1 (head_g 0x0C ++ (0x5D ∷ 0x00 ∷ 0x00 ∷ 0x00 ∷ [])) (refused_at 12 70 12 73 0) (head_g 0x0C ++ (0x5D ∷ 0x00 ∷ 0x00 ∷ 0x00 ∷ [])) ∷
    -- J: 9, 67, 16, 0, 0
    left 0x13 1
    (head_g 0x1A
    ++ (0x5D ∷ 0x00 ∷ 0x05 ∷ 0x00 ∷ 0x49 ∷ 0x00 ∷ 0x0A ∷ 0x00 ∷ 0x05 ∷ 0x5D ∷ 0x00 ∷ 0x05 ∷ 0x00 ∷ 0x49 ∷ 0x00 ∷ 0x01 ∷ 0x00 ∷ 0x06 ∷ []))
    (refused_at 9 67 16 0 0) ∷
    -- K: accepted, third row 0 180 1 25 0 1; L: K on kind 3: 12, 70, 21, 183, 0
    taken 0x14 1 message_k (head 3 2 6 24 66 1 (line 0 93 0 16 5 0 (line 1 73 0 20 1 0 (line 0 180 1 25 0 1 [])))) message_k ∷
    copied 0x15 3 message_k (refused_at 12 70 21 183 0) message_k ∷
    -- M: the copy ends `00 00`
    taken 0x16 1 message_m (head 2 1 6 18 1 1 (line 0 3 0 12 1 0 (line 0 200 0 17 2 1 []))) (take 17 message_m ++ (0x00 ∷ 0x00 ∷ [])) ∷
    []

-- ---- CR 9: what is lent is too short, by one or by all

-- so many numbers and octets are lent, all sevens
abbrev pub lent : ℕ → ℕ → List ℕ → Verdict → List ℕ → List ℕ → Example
lent numbers octets m v table copy = asked 0x1D 1 m (replicate numbers 7) (replicate octets 7) v table copy

unfoldable pub rooms : List Example
rooms =
    -- D with just enough of both; an octet too few: 13; a number too few: 10; both: 13
    lent 12 13 message_d accepted table_d message_d ∷
    lent 12 12 message_d (refused 13 0) [] [] ∷
    lent 11 13 message_d (refused 10 0) [] [] ∷
    lent 11 12 message_d (refused 13 0) [] [] ∷
    lent 0 0 message_d (refused 13 0) [] [] ∷
    -- E, which 12 refuses, and F exchanged, which 11 does: the same come first, and 10 writes no copy
    lent 6 8 message_e (refused_at 12 70 0 3 0) [] message_e ∷
    lent 6 7 message_e (refused 13 0) [] [] ∷
    lent 5 8 message_e (refused 10 0) [] [] ∷
    lent 18 17 (head_f ++ second_f ++ first_f) (refused_at 11 67 8 3 0) [] (head_f ++ second_f ++ set first_f 4 0x00) ∷
    lent 17 17 (head_f ++ second_f ++ first_f) (refused 10 0) [] [] ∷
    lent 17 16 (head_f ++ second_f ++ first_f) (refused 13 0) [] [] ∷
    -- what 1 to 9 refuse they refuse with nothing lent, too
    lent 0 0 (take 12 message_d) (refused 6 67) [] [] ∷
    []

-- ---- CR 8: an overload report of 67, on kind 1, by what its 180/0 holds

-- a 180/0 of so many octets, behind 2/0 and 93/0; so many octets stand behind the header's length
abbrev pub report_of : ℕ → ℕ → List ℕ → List ℕ
report_of total len inside =
    0x48 ∷ 0x43 ∷ 0x00 ∷ total ∷ 0x00 ∷ 0x00 ∷ 0x00 ∷ 0x01 ∷ 0x00 ∷ 0x00 ∷ 0x02 ∷ 0x00 ∷
    0x02 ∷ 0x00 ∷ 0x02 ∷ 0x00 ∷ 0x10 ∷ 0x00 ∷
    0x5D ∷ 0x00 ∷ 0x0B ∷ 0x00 ∷ 0x49 ∷ 0x00 ∷ 0x01 ∷ 0x00 ∷ 0x05 ∷ 0x02 ∷ 0x00 ∷ 0x02 ∷ 0x00 ∷ 0x10 ∷ 0x00 ∷
    0xB4 ∷ 0x00 ∷ len ∷ 0x00 ∷ inside

abbrev pub report : List ℕ → List ℕ
report inside = report_of (33 + length inside) (length inside) inside

-- so many elements 71/0 without a value
unfoldable pub empties : ℕ → List ℕ → List ℕ
empties zero rest = rest
empties (suc n) rest = 0x47 ∷ 0x00 ∷ 0x00 ∷ 0x00 ∷ empties n rest

-- a table of sevens with room for five rows
abbrev pub roomy : List ℕ
roomy = replicate 36 7

-- the table of a void report whose 180/0 has so many octets: one row for it, and none inside
abbrev pub void_table : ℕ → List ℕ
void_table n =
    head 5 4 6 36 67 1 (line 0 2 0 16 2 0 (line 0 93 0 22 11 0 (line 2 73 0 26 1 0 (line 2 2 0 31 2 0 (line 0 180 0 37 n 4 [])))))

-- eleven elements 71/0, and a 79/0 and a 93/0 with one more inside; and the same with their values zero
abbrev pub mixed : List ℕ
mixed =
    0x47 ∷ 0x00 ∷ 0x02 ∷ 0x00 ∷ 0x61 ∷ 0x62 ∷ 0x4F ∷ 0x00 ∷ 0x02 ∷ 0xF0 ∷ 0x01 ∷ 0x0A ∷ 0x5D ∷ 0x00 ∷ 0x05 ∷ 0x00 ∷ 0x47 ∷ 0x00 ∷ 0x01 ∷ 0x00 ∷ 0x63 ∷
    empties 10 []

abbrev pub mixed_masked : List ℕ
mixed_masked =
    0x47 ∷ 0x00 ∷ 0x02 ∷ 0x00 ∷ 0x00 ∷ 0x00 ∷ 0x4F ∷ 0x00 ∷ 0x02 ∷ 0xF0 ∷ 0x00 ∷ 0x00 ∷ 0x5D ∷ 0x00 ∷ 0x05 ∷ 0x00 ∷ 0x00 ∷ 0x00 ∷ 0x00 ∷ 0x00 ∷ 0x00 ∷
    empties 10 []

-- a buffer of sevens for a copy of so many octets and one more
abbrev pub paper : ℕ → List ℕ
paper n = replicate (suc n) 7

-- accepted as a void report, with a copy
abbrev pub voided : ℕ → List ℕ → ℕ → List ℕ → Example
voided x m n octets = asked x 1 m roomy (paper (length m)) accepted (void_table n) octets

-- refused, with room enough for every row; a copy is written, or none
abbrev pub turned : ℕ → List ℕ → Verdict → List ℕ → Example
turned x m v octets = asked x 1 m (replicate 120 7) (paper (length m)) v [] octets

unfoldable pub voids : List Example
voids =
    -- eleven elements 71/0, ten of them short, and no mandatory pair: accepted, fifth row 0 180 0 37 45 4;
    -- its copy: the one value octet inside is zero, the headers stay
    voided 0x17 (report_of 0x4E 0x2D (empties 10 (0x47 ∷ 0x00 ∷ 0x01 ∷ 0x00 ∷ 0x61 ∷ []))) 45
    (report_of 0x4E 0x2D (empties 10 (0x47 ∷ 0x00 ∷ 0x01 ∷ 0x00 ∷ 0x00 ∷ []))) ∷
    -- ten are entered: 12, 70, 33, 183, 0
    turned 0x18 (report (empties 10 [])) (refused_at 12 70 33 183 0) (report (empties 10 [])) ∷
    -- the eleventh is a 71/1, or stands in a 93/0, which is not listed there: not counted
    turned 0x18 (report (empties 10 (0x47 ∷ 0x00 ∷ 0x00 ∷ 0x01 ∷ []))) (refused_at 12 70 33 183 0) (report (empties 10 (0x47 ∷ 0x00 ∷ 0x00 ∷ 0x01 ∷ []))) ∷
    turned 0x18 (report (empties 10 (0x5D ∷ 0x00 ∷ 0x04 ∷ 0x00 ∷ empties 1 []))) (refused_at 12 70 33 183 0)
    (report (empties 10 (0x5D ∷ 0x00 ∷ 0x04 ∷ 0x00 ∷ replicate 4 0))) ∷
    -- eleven in a 180/1 void nothing
    turned 0x18 (set (report (empties 11 [])) 36 0x01) (refused_at 12 70 33 183 0) (set (report (empties 11 [])) 36 0x01) ∷
    -- a short 183/0 before ten: 11, 67, 37, 183, 0; before eleven: accepted
    turned 0x19 (report (0xB7 ∷ 0x00 ∷ 0x00 ∷ 0x00 ∷ empties 10 [])) (refused_at 11 67 37 183 0) (report (0xB7 ∷ 0x00 ∷ 0x00 ∷ 0x00 ∷ empties 10 [])) ∷
    voided 0x19 (report (0xB7 ∷ 0x00 ∷ 0x00 ∷ 0x00 ∷ empties 11 [])) 48 (report (0xB7 ∷ 0x00 ∷ 0x00 ∷ 0x00 ∷ empties 11 [])) ∷
    -- eleven, and one octet more inside, or an element too long by one: 9, 67, 81, 0, 0
    turned 0x1A (report (empties 11 (0x47 ∷ []))) (refused_at 9 67 81 0 0) [] ∷
    turned 0x1A (report (empties 11 (0x47 ∷ 0x00 ∷ 0x01 ∷ 0x00 ∷ []))) (refused_at 9 67 81 0 0) [] ∷
    -- a second 180/0 behind a void one is no repeat, and has its own mandatory pairs: 12, 70, 81, 183, 0
    turned 0x1B (report_of 0x51 0x2C (empties 11 (0xB4 ∷ 0x00 ∷ 0x00 ∷ 0x00 ∷ []))) (refused_at 12 70 81 183 0)
    (report_of 0x51 0x2C (empties 11 (0xB4 ∷ 0x00 ∷ 0x00 ∷ 0x00 ∷ []))) ∷
    -- every value inside is covered whole, whatever its type, and no header
    voided 0x1C (report mixed) 61 (report mixed_masked) ∷
    []

-- ---- CR 10: a Context Response on kind 4, three levels deep

-- in its 109/0 an APN, an address, an EBI, an F-TEID, a bearer context with EBI and QoS, and an AMBR
abbrev pub message_s10 : List ℕ
message_s10 =
    0x48 ∷ 0x83 ∷ 0x00 ∷ 0x62 ∷ 0x00 ∷ 0x00 ∷ 0x00 ∷ 0x01 ∷ 0x00 ∷ 0x00 ∷ 0x02 ∷ 0x00 ∷
    0x02 ∷ 0x00 ∷ 0x02 ∷ 0x00 ∷ 0x10 ∷ 0x00 ∷
    0x69 ∷ 0x00 ∷ 0x02 ∷ 0x00 ∷ 0x11 ∷ 0x22 ∷
    0x6D ∷ 0x00 ∷ 0x4A ∷ 0x00 ∷
    0x47 ∷ 0x00 ∷ 0x01 ∷ 0x00 ∷ 0x61 ∷
    0x4A ∷ 0x00 ∷ 0x04 ∷ 0x00 ∷ 0x0A ∷ 0x01 ∷ 0x02 ∷ 0x03 ∷
    0x49 ∷ 0x00 ∷ 0x01 ∷ 0x00 ∷ 0x05 ∷
    0x57 ∷ 0x00 ∷ 0x05 ∷ 0x00 ∷ 0x0A ∷ 0x00 ∷ 0x00 ∷ 0x00 ∷ 0x01 ∷
    0x5D ∷ 0x00 ∷ 0x1F ∷ 0x00 ∷
    0x49 ∷ 0x00 ∷ 0x01 ∷ 0x00 ∷ 0x05 ∷
    0x50 ∷ 0x00 ∷ 0x16 ∷ 0x00 ∷ replicate 22 1 ++
    (0x48 ∷ 0x00 ∷ 0x08 ∷ 0x00 ∷ replicate 8 2)

-- the values of 105/0 and 74/0 are covered, wherever they stand
abbrev pub masked_s10 : List ℕ
masked_s10 = take 22 message_s10 ++ (0x00 ∷ 0x00 ∷ (take 13 (drop 24 message_s10) ++ (0x00 ∷ 0x00 ∷ 0x00 ∷ 0x00 ∷ drop 41 message_s10)))

abbrev pub table_s10 : List ℕ
table_s10 =
    head 11 11 6 72 131 4 (line 0 2 0 16 2 0 (line 0 105 0 22 2 0 (line 0 109 0 28 74 0 (line 3 71 0 32 1 0 (line 3 74 0 37 4 0 (line 3 73 0 45 1 0 (line 3 87 0 50 5 0
    (line 3 93 0 59 31 0 (line 8 73 0 63 1 0 (line 8 80 0 68 22 0 (line 3 72 0 94 8 0 [])))))))))))

-- one with all six of 103/0 to 108/0, each of one octet
abbrev pub keys_s10 : ℕ → List ℕ
keys_s10 x =
    0x48 ∷ 0x83 ∷ 0x00 ∷ 0x2C ∷ 0x00 ∷ 0x00 ∷ 0x00 ∷ 0x01 ∷ 0x00 ∷ 0x00 ∷ 0x02 ∷ 0x00 ∷
    0x02 ∷ 0x00 ∷ 0x02 ∷ 0x00 ∷ 0x10 ∷ 0x00 ∷
    0x67 ∷ 0x00 ∷ 0x01 ∷ 0x00 ∷ x ∷
    0x68 ∷ 0x00 ∷ 0x01 ∷ 0x00 ∷ x ∷
    0x69 ∷ 0x00 ∷ 0x01 ∷ 0x00 ∷ x ∷
    0x6A ∷ 0x00 ∷ 0x01 ∷ 0x00 ∷ x ∷
    0x6B ∷ 0x00 ∷ 0x01 ∷ 0x00 ∷ x ∷
    0x6C ∷ 0x00 ∷ 0x01 ∷ 0x00 ∷ x ∷ []

-- one whose connection has two bearers, and an address one octet too short
abbrev pub bearers_s10 : ℕ → ℕ → ℕ → List ℕ
bearers_s10 x y z =
    0x48 ∷ 0x83 ∷ 0x00 ∷ 0x7E ∷ 0x00 ∷ 0x00 ∷ 0x00 ∷ 0x01 ∷ 0x00 ∷ 0x00 ∷ 0x02 ∷ 0x00 ∷
    0x02 ∷ 0x00 ∷ 0x02 ∷ 0x00 ∷ 0x10 ∷ 0x00 ∷
    0x6D ∷ 0x00 ∷ 0x6C ∷ 0x00 ∷
    0x47 ∷ 0x00 ∷ 0x01 ∷ 0x00 ∷ 0x61 ∷
    0x4A ∷ 0x00 ∷ 0x03 ∷ 0x00 ∷ x ∷ y ∷ z ∷
    0x49 ∷ 0x00 ∷ 0x01 ∷ 0x00 ∷ 0x05 ∷
    0x57 ∷ 0x00 ∷ 0x05 ∷ 0x00 ∷ 0x0A ∷ 0x00 ∷ 0x00 ∷ 0x00 ∷ 0x01 ∷
    0x5D ∷ 0x00 ∷ 0x1F ∷ 0x00 ∷ 0x49 ∷ 0x00 ∷ 0x01 ∷ 0x00 ∷ 0x05 ∷ 0x50 ∷ 0x00 ∷ 0x16 ∷ 0x00 ∷ replicate 22 1 ++
    (0x5D ∷ 0x00 ∷ 0x1F ∷ 0x00 ∷ 0x49 ∷ 0x00 ∷ 0x01 ∷ 0x00 ∷ 0x06 ∷ 0x50 ∷ 0x00 ∷ 0x16 ∷ 0x00 ∷ replicate 22 1 ++
    (0x48 ∷ 0x00 ∷ 0x08 ∷ 0x00 ∷ replicate 8 2))

abbrev pub rows_of_bearers : List ℕ
rows_of_bearers =
    head 13 12 6 84 131 4 (line 0 2 0 16 2 0 (line 0 109 0 22 108 0 (line 2 71 0 26 1 0 (line 2 74 0 31 3 3 (line 2 73 0 38 1 0 (line 2 87 0 43 5 0
    (line 2 93 0 52 31 0 (line 7 73 0 56 1 0 (line 7 80 0 61 22 0 (line 2 93 0 87 31 0 (line 10 73 0 91 1 0 (line 10 80 0 96 22 0 (line 2 72 0 122 8 0 [])))))))))))))

-- on kind k, with room for twelve rows and the message
abbrev pub between : ℕ → List ℕ → Verdict → List ℕ → List ℕ → Example
between k m v numbers octets = asked 0x1E k m (replicate 78 7) (replicate 103 7) v numbers octets

unfoldable pub contexts : List Example
contexts =
    between 4 message_s10 accepted table_s10 masked_s10 ∷
    -- 131 is on no other kind; on kind 4 nothing but it and 1 and 2 is: 21, and 7 for what is no message; 5 is no kind
    between 1 message_s10 (refused 21 0) [] [] ∷
    between 4 message_g (refused 21 0) [] [] ∷
    between 4 (set message_g 1 0xC8) (refused 7 0) [] [] ∷
    between 5 message_s10 (refused 1 0) [] [] ∷
    between 4 message_d accepted (head 1 1 6 12 1 4 (line 0 3 0 12 1 0 [])) message_d ∷
    -- 21 comes before 8
    between 1 (0x40 ∷ 0x83 ∷ 0x00 ∷ 0x04 ∷ 0x00 ∷ 0x00 ∷ 0x01 ∷ 0x00 ∷ []) (refused 21 0) [] [] ∷
    between 4 (0x40 ∷ 0x83 ∷ 0x00 ∷ 0x04 ∷ 0x00 ∷ 0x00 ∷ 0x01 ∷ 0x00 ∷ []) (refused 8 0) [] [] ∷
    -- the innermost 80/0 one octet too long for its group: 9 67 64 0 0
    between 4 (set message_s10 66 0x17) (refused_at 9 67 64 0 0) [] [] ∷
    -- the bearer without its QoS: 12 70 55 80 0; the connection without its AMBR: 12 70 24 72 0; without both the outer group is named
    between 4 (set message_s10 64 0x54) (refused_at 12 70 55 80 0) [] (set masked_s10 64 0x54) ∷
    between 4 (set message_s10 90 0x88) (refused_at 12 70 24 72 0) [] (set masked_s10 90 0x88) ∷
    between 4 (set (set message_s10 64 0x54) 90 0x88) (refused_at 12 70 24 72 0) [] (set (set masked_s10 64 0x54) 90 0x88) ∷
    -- the keys are covered, all six
    between 4 (keys_s10 0x11) accepted
    (head 7 7 6 48 131 4 (line 0 2 0 16 2 0 (line 0 103 0 22 1 0 (line 0 104 0 27 1 0 (line 0 105 0 32 1 0 (line 0 106 0 37 1 0 (line 0 107 0 42 1 0 (line 0 108 0 47 1 0 []))))))))
    (keys_s10 0x00) ∷
    -- two bearers, and an address that is short and covered all the same
    asked 0x1E 4 (bearers_s10 0x0A 0x01 0x02) (replicate 90 7) (replicate 131 7) accepted rows_of_bearers (bearers_s10 0x00 0x00 0x00) ∷
    -- a 93 in the body is not listed there, and is covered whole
    between 4 (set message_s10 24 0x5D) accepted (head 3 2 6 24 131 4 (line 0 2 0 16 2 0 (line 0 105 0 22 2 0 (line 0 93 0 28 74 1 []))))
    (set (take 28 masked_s10) 24 0x5D ++ replicate 74 0) ∷
    []

-- what comes out, and what is written
abbrev pub outcome : Example → Outcome
outcome x = record {
  verdict = call_verdict book x.kind x.message (length x.copy) (length x.table);
  table = call_table book x.kind x.message (length x.copy) x.table;
  copy = call_copy book x.kind x.message (length x.table) x.copy;
}

abbrev pub written : Example → Outcome
written x = record { verdict = x.verdict; table = x.table_left; copy = x.copy_left }
