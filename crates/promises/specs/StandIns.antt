-- Functions that stand in for the one call, a cleaner, a builder or a lookup: what it means that one meets its contract. They are asked no more than the code is: of a kind
-- of 32 bits, octets, and numbers of 16 bits. Assumes nothing.
use Rattle.std.specs.Prelude.{◌≡◌, Bool, true, cond, ◌&&◌, List, [], ◌∷◌, map, ℕ, ◌-◌, eqb, ltb, take, drop}
use Rattle.std.specs.Borrow.{Bor}
use Rattle.rules.specs.Listings.{Book, Line, book}
use Rattle.rules.specs.Framing.{octet, header_length}
use Rattle.rules.specs.Standing.{Item, kept, void, value_place}
use Rattle.rules.specs.Verdicts.{items}
use Rattle.rules.specs.Covered.{zeroed, cleared}
use Rattle.rules.specs.Emitting.{Piece, emitted, written}
use Rattle.rules.specs.Cleaned.{pieces}
use Rattle.rules.specs.Built.{first_of, given_rows, has_teid, rest_given}
use Rattle.rules.specs.Answers.{Called, Cleans, Builds, Plain, Desk, Counted}
use Rattle.rules.specs.declared.Verdict.{Verdict}
use Rattle.rules.specs.declared.Sent.{Sent}
use Rattle.rules.specs.declared.Count.{Count}

-- every number is below a bound
unfoldable pub below : ℕ → List ℕ → Bool
below n [] = true
below n (x ∷ xs) = ltb x n && below n xs

abbrev pub octet_bound : ℕ
octet_bound = 256

abbrev pub number_bound : ℕ
number_bound = 65536

abbrev pub kind_bound : ℕ
kind_bound = 4294967296

abbrev pub row_bound : ℕ
row_bound = 18446744073709551616

-- from kind, message, and the table and copy that are lent, a verdict and what is left in these
pub record Answer : Type 0 where
  pub verdict : Verdict
  pub table : List ℕ
  pub copy : List ℕ

abbrev pub Function : Type 0
Function = ℕ → List ℕ → List ℕ → List ℕ → Answer

pub record Asked (k : ℕ) (m t c : List ℕ) : Type 0 where
  pub kind : ltb k kind_bound ≡ true
  pub octets : below octet_bound m ≡ true
  pub numbers : below number_bound t ≡ true
  pub copied : below octet_bound c ≡ true

abbrev pub IsCall : Function → Type 0
IsCall f = (k : ℕ) (m t c : List ℕ) → Asked k m t c → Called k m t c (f k m t c).verdict (f k m t c).table (f k m t c).copy

-- from kind and message a count
pub record AskedCount (k : ℕ) (m : List ℕ) : Type 0 where
  pub kind : ltb k kind_bound ≡ true
  pub octets : below octet_bound m ≡ true

abbrev pub Counter : Type 0
Counter = ℕ → List ℕ → Count

abbrev pub IsCounter : Counter → Type 0
IsCounter f = (k : ℕ) (m : List ℕ) → AskedCount k m → Counted k m (f k m)

-- what the code can be given: a kind, a message, and something lent whose numbers are below a bound
pub record Given (bound k : ℕ) (m lent : List ℕ) : Type 0 where
  pub kind : ltb k kind_bound ≡ true
  pub octets : below octet_bound m ≡ true
  pub numbers : below bound lent ≡ true

-- from kind, message and a buffer, what is answered and what is left
pub record Writing : Type 0 where
  pub sent : Sent
  pub left : List ℕ

abbrev pub Writer : Type 0
Writer = ℕ → List ℕ → List ℕ → Writing

abbrev pub IsCleaner : Writer → Type 0
IsCleaner f = (k : ℕ) (m c : List ℕ) → Given octet_bound k m c → Cleans k m c (f k m c).sent (f k m c).left

-- the message without the rows set aside at its own level alone: those inside groups are taken for kept
abbrev pub taken_outer : Item → Item
taken_outer i = record {
  parent = i.parent;
  place = i.place;
  typ = i.typ;
  inst = i.inst;
  len = i.len;
  stand = cond (eqb i.parent 0) i.stand kept;
  must = i.must;
  inside = i.inside;
  hidden = i.hidden;
}

abbrev pub outer_cleaned : ℕ → List ℕ → List ℕ
outer_cleaned k m =
    written (octet m 0) (octet m 1) (take (header_length m - 4) (drop 4 m)) (emitted 0 (pieces m (map taken_outer (items book k m))))

-- from TEID, sequence number, table, values and room, what is answered and what is left
abbrev pub Builder : Type 0
Builder = ℕ → ℕ → List ℕ → List ℕ → List ℕ → Writing

pub record GivenTable (teid sequence : ℕ) (t values room : List ℕ) : Type 0 where
  pub teid_number : ltb teid kind_bound ≡ true
  pub sequence_number : ltb sequence kind_bound ≡ true
  pub numbers : below number_bound t ≡ true
  pub octets : below octet_bound values ≡ true
  pub lent : below octet_bound room ≡ true

abbrev pub IsBuilder : Builder → Type 0
IsBuilder f =
    (teid sequence : ℕ) (t values room : List ℕ) → GivenTable teid sequence t values room
    → Builds teid sequence t values room (f teid sequence t values room).sent (f teid sequence t values room).left

-- the message of the rows of the message level alone: a group has nothing inside
unfoldable pub outer_pieces : List Piece → List Piece
outer_pieces [] = []
outer_pieces (x ∷ xs) = cond (eqb x.parent 0) (x ∷ outer_pieces xs) (outer_pieces xs)

abbrev pub outer_built : ℕ → ℕ → ℕ → ℕ → List ℕ → List ℕ → List ℕ
outer_built k typ teid sequence t values =
    written (first_of (has_teid book k typ teid sequence t values)) typ (rest_given book k typ teid sequence t values) (emitted 0 (outer_pieces (given_rows t values)))

-- from kind, type, instance, message and table a part
abbrev pub Lookup : Type 0
Lookup = ℕ → ℕ → ℕ → Bor (List ℕ) → List ℕ → Bor (List ℕ)

pub record GivenPair (k y i : ℕ) (m : Bor (List ℕ)) (t : List ℕ) : Type 0 where
  pub kind : ltb k kind_bound ≡ true
  pub typ : ltb y number_bound ≡ true
  pub inst : ltb i number_bound ≡ true
  pub octets : below octet_bound m.now ≡ true
  pub numbers : below number_bound t ≡ true

abbrev pub IsPlain : Lookup → Type 0
IsPlain f = (k y i : ℕ) (m : Bor (List ℕ)) (t : List ℕ) → GivenPair k y i m t → Plain k y i m t (f k y i m t)

-- from kind, row, right, message, copy and table a part
abbrev pub DeskLookup : Type 0
DeskLookup = ℕ → ℕ → Bool → Bor (List ℕ) → Bor (List ℕ) → List ℕ → Bor (List ℕ)

pub record GivenRow (k r : ℕ) (m c : Bor (List ℕ)) (t : List ℕ) : Type 0 where
  pub kind : ltb k kind_bound ≡ true
  pub row : ltb r row_bound ≡ true
  pub octets : below octet_bound m.now ≡ true
  pub copied : below octet_bound c.now ≡ true
  pub numbers : below number_bound t ≡ true

abbrev pub IsDesk : DeskLookup → Type 0
IsDesk f = (k r : ℕ) (right : Bool) (m c : Bor (List ℕ)) (t : List ℕ) → GivenRow k r m c t → Desk k r right m c t (f k r right m c t)

-- the listings with no group's inside, and the same mandatory pairs at the message level
unfoldable pub outer_line : Line → Line
outer_line l = record { typ = l.typ; inst = l.inst; must = l.must; many = l.many; kinds = l.kinds; inside = 0; limits = [] }

unfoldable pub outer_lines : List Line → List Line
outer_lines [] = []
outer_lines (l ∷ ls) = outer_line l ∷ outer_lines ls

unfoldable pub outer_levels : List (List Line) → List (List Line)
outer_levels [] = []
outer_levels (ls ∷ more) = outer_lines ls ∷ outer_levels more

-- it judges the message level, and only pretends inside groups
unfoldable pub outer_book : Book
outer_book = record { kinds = book.kinds; messages = book.messages; levels = outer_levels book.levels }

-- the listings without their limits: what a void group holds is listed as though it were kept
unfoldable pub free_line : Line → Line
free_line l = record { typ = l.typ; inst = l.inst; must = l.must; many = l.many; kinds = l.kinds; inside = l.inside; limits = [] }

unfoldable pub free_book : Book
free_book = record { kinds = book.kinds; messages = book.messages; levels = map (map free_line) book.levels }

-- the masked message, but that of a void row the whole value is zero, headers too
unfoldable pub cleared_whole : List ℕ → List Item → List ℕ
cleared_whole xs [] = xs
cleared_whole xs (i ∷ is) = cleared_whole (cond (eqb i.stand void) (zeroed xs (value_place i) i.len) (cleared xs i)) is
