-- The builder (rules 12.1 to 12.6): a message from a TEID, a sequence number, a table, which says message type and kind, and a buffer of values. Assumes
-- nothing.
use Rattle.std.specs.Prelude.{◌≡◌, ℕ, zero, suc, ◌+◌, ◌-◌, ◌*◌, ◌/◌, ◌%◌, ◌<◌, Bool, true, false, cond, not, ◌&&◌, ◌||◌, List, [], ◌∷◌, ◌++◌, eqb, ltb, length, take, drop}
use Rattle.rules.specs.Sizes.{largest_message, header_numbers}
use Rattle.rules.specs.Framing.{octet, header_length}
use Rattle.rules.specs.Types.{among, is_group}
use Rattle.rules.specs.Listings.{Book, message_of, is_message}
use Rattle.rules.specs.Standing.{kept}
use Rattle.rules.specs.Table.{laid}
use Rattle.rules.specs.Values.{row_parent, row_type, row_instance, row_place, row_length, row_standing, row_count, table_type, table_kind, reads_as_cut, disagrees}
use Rattle.rules.specs.Verdicts.{check, refused, refuses, first}
use Rattle.rules.specs.declared.Verdict.{Verdict}
use Rattle.rules.specs.Emitting.{Piece, sizes, emitted, written, accepted_whole}

-- ---- what is written (rules 12.1, 12.2)

-- octet 0: version 2, no P, T as the type wants it, ignored bits 0
abbrev pub first_of : Bool → ℕ
first_of teid = cond teid 0x48 0x40

-- 3 octets of sequence number, 1 octet ignored
abbrev pub sequence_octets : ℕ → List ℕ
sequence_octets s = s / 65536 ∷ s / 256 % 256 ∷ s % 256 ∷ 0 ∷ []

abbrev pub teid_octets : ℕ → List ℕ
teid_octets teid = teid / 16777216 ∷ teid / 65536 % 256 ∷ teid / 256 % 256 ∷ teid % 256 ∷ []

-- what follows the length in the header: the TEID if the type carries one, and the sequence number
abbrev pub rest_of : Bool → ℕ → ℕ → List ℕ
rest_of true teid s = teid_octets teid ++ sequence_octets s
rest_of false teid s = sequence_octets s

-- row r of a table, counted from 0; a group's place and length are not looked at
unfoldable pub given : List ℕ → List ℕ → ℕ → Piece
given t values r = record {
  parent = row_parent t r;
  typ = row_type t r;
  fourth = row_instance t r;
  stand = row_standing t r;
  value = cond (is_group (row_type t r)) [] (take (row_length t r) (drop (row_place t r) values));
}

-- n rows from r on
unfoldable pub givens : List ℕ → List ℕ → ℕ → ℕ → List Piece
givens t values r zero = []
givens t values r (suc n) = given t values r ∷ givens t values (suc r) n

abbrev pub given_rows : List ℕ → List ℕ → List Piece
given_rows t values = givens t values 0 (row_count t)

-- ---- the reasons of 14 (rule 12.4)

-- those of a list from p on
unfoldable pub since : ℕ → List ℕ → List ℕ
since p [] = []
since p (q ∷ qs) = cond (eqb p q) (q ∷ qs) (since p qs)

-- A row stands in the message or in a group that the row before opened or stands in too. `path` has the row just before, if it is a group, and the groups
-- that it stands in, innermost first, and last the message, 0; n rows stand before.
abbrev pub next_open : List ℕ → ℕ → Piece → List ℕ
next_open path n x = cond (is_group x.typ) ((n + 1) ∷ since x.parent path) (since x.parent path)

unfoldable pub depth_first : List ℕ → ℕ → List Piece → Bool
depth_first path n [] = true
depth_first path n (x ∷ xs) = among x.parent path && depth_first (next_open path n x) (n + 1) xs

-- some row stands in none of the groups still open when its turn comes
abbrev pub misplaced : List ℕ → List ℕ → Bool
misplaced t values = not (depth_first (0 ∷ []) 0 (given_rows t values))

-- a standing is not 0
abbrev pub not_kept : List ℕ → ℕ → Bool
not_kept t r = not (eqb (row_standing t r) kept)

abbrev pub big_type : List ℕ → ℕ → Bool
big_type t r = ltb 255 (row_type t r)

abbrev pub big_instance : List ℕ → ℕ → Bool
big_instance t r = ltb 15 (row_instance t r)

-- a value that is no group's does not lie in the buffer
abbrev pub outside : List ℕ → List ℕ → ℕ → Bool
outside t values r = not (is_group (row_type t r)) && ltb (length values) (row_place t r + row_length t r)

-- some row of n from r on
unfoldable pub some_row : (ℕ → Bool) → ℕ → ℕ → Bool
some_row test r zero = false
some_row test r (suc n) = test r || some_row test (suc r) n

abbrev pub any_row : List ℕ → (ℕ → Bool) → Bool
any_row t test = some_row test 0 (row_count t)

-- a sequence number has 24 bits
abbrev pub big_sequence : ℕ → Bool
big_sequence s = ltb 16777215 s

unfoldable pub any_of : List Bool → Bool
any_of [] = false
any_of (c ∷ cs) = c || any_of cs

unfoldable pub reasons : ℕ → List ℕ → List ℕ → List Bool
reasons sequence t values =
    reads_as_cut t
    ∷ disagrees t
    ∷ misplaced t values
    ∷ any_row t (not_kept t)
    ∷ any_row t (big_type t)
    ∷ any_row t (big_instance t)
    ∷ any_row t (outside t values)
    ∷ big_sequence sequence
    ∷ []

-- ---- the message, and when it is refused (rule 12.3)

module _ (b : Book) (k typ teid sequence : ℕ) (t values : List ℕ) where
  -- types 1 and 2 carry none
  abbrev pub has_teid : Bool
  has_teid = (message_of b typ).teid

  abbrev pub rest_given : List ℕ
  rest_given = rest_of has_teid teid sequence

  abbrev pub built_length : ℕ
  built_length = 4 + length rest_given + sizes (given_rows t values)

  unfoldable pub built : List ℕ
  built = written (first_of has_teid) typ rest_given (emitted 0 (given_rows t values))

  -- 15: it would pass 4,096 octets or the room
  abbrev pub too_large : ℕ → Bool
  too_large room = ltb largest_message built_length || ltb room built_length

  -- in this order; 16: it would not be accepted with each row kept
  unfoldable pub build_checks : ℕ → List Verdict
  build_checks room =
      check (not (among k b.kinds)) (refused 1 0)
      ∷ check (not (is_message b typ)) (refused 7 0)
      ∷ check (not (among k (message_of b typ).kinds)) (refused 21 0)
      ∷ check (any_of (reasons sequence t values)) (refused 14 0)
      ∷ check (too_large room) (refused 15 0)
      ∷ check (not (accepted_whole b k built)) (refused 16 0)
      ∷ []

  abbrev pub late_verdict : ℕ → Verdict
  late_verdict room = first (build_checks room)

-- the type and the kind are the table's own; one too short to say them is 14 before all else
module _ (b : Book) (teid sequence : ℕ) (t values : List ℕ) where
  abbrev pub built_by : List ℕ
  built_by = built b (table_kind t) (table_type t) teid sequence t values

  unfoldable pub headed_checks : ℕ → List Verdict
  headed_checks room = check (ltb (length t) header_numbers) (refused 14 0) ∷ build_checks b (table_kind t) (table_type t) teid sequence t values room

  abbrev pub build_verdict : ℕ → Verdict
  build_verdict room = first (headed_checks room)

  -- a refusal writes nothing, and its length is 0; the room past the message stays
  unfoldable pub build_room : List ℕ → List ℕ
  build_room room = cond (refuses (build_verdict (length room))) room (laid built_by room)

  unfoldable pub build_length : ℕ → ℕ
  build_length room = cond (refuses (build_verdict room)) 0 (length built_by)

-- the numbers that it is refused with; 14 comes first where the table is too short for a header
abbrev pub build_numbers : List ℕ
build_numbers = 1 ∷ 7 ∷ 21 ∷ 14 ∷ 15 ∷ 16 ∷ []

-- ---- a message rebuilt from itself (rule 12.6)

unfoldable pub teid_of : List ℕ → ℕ
teid_of m = octet m 4 * 16777216 + octet m 5 * 65536 + octet m 6 * 256 + octet m 7

unfoldable pub sequence_of : List ℕ → ℕ
sequence_of m = octet m (header_length m - 4) * 65536 + octet m (header_length m - 3) * 256 + octet m (header_length m - 2)

-- ignored bits are zero: three of octet 0, the last octet of the header, and four of each element's header, by the rows of the table t
pub record ZeroBits (m t : List ℕ) : Type 0 where
  pub flags : octet m 0 % 8 ≡ 0
  pub spare : octet m (header_length m - 1) ≡ 0
  pub elements : (r : ℕ) → r < row_count t → octet m (row_place t r - 1) < 16
