-- Reading a value: the desk's lookup and the plain lookup, over a table that may hold anything at all. Assumes nothing.
use Rattle.std.specs.Prelude.{◌≡◌, ℕ, zero, suc, ◌+◌, Bool, true, false, cond, not, ◌&&◌, ◌||◌, List, eqb, ltb, leb, length, get_or, take, drop}
use Rattle.std.specs.Borrow.{Bor}
use Rattle.rules.specs.Sizes.{header_numbers, used}
use Rattle.rules.specs.Framing.{octet}
use Rattle.rules.specs.Standing.{kept}
use Rattle.rules.specs.declared.Span.{Span}

-- number j of a row; rows stand behind the header
abbrev pub cell : List ℕ → ℕ → ℕ → ℕ
cell t r j = get_or t (used r + j) 0

abbrev pub row_parent : List ℕ → ℕ → ℕ
row_parent t r = cell t r 0

abbrev pub row_type : List ℕ → ℕ → ℕ
row_type t r = cell t r 1

abbrev pub row_instance : List ℕ → ℕ → ℕ
row_instance t r = cell t r 2

abbrev pub row_place : List ℕ → ℕ → ℕ
row_place t r = cell t r 3

abbrev pub row_length : List ℕ → ℕ → ℕ
row_length t r = cell t r 4

abbrev pub row_standing : List ℕ → ℕ → ℕ
row_standing t r = cell t r 5

-- ---- what a table's header says (rule 5.4); any number may be wrong

abbrev pub row_count : List ℕ → ℕ
row_count t = get_or t 0 0

abbrev pub table_type : List ℕ → ℕ
table_type t = get_or t 4 0

abbrev pub table_kind : List ℕ → ℕ
table_kind t = get_or t 5 0

-- the table is shorter than its header, or than the numbers used
abbrev pub reads_as_cut : List ℕ → Bool
reads_as_cut t = ltb (length t) header_numbers || ltb (length t) (get_or t 3 0)

-- of n rows from r on, those of standing 0
unfoldable pub standing_kept : List ℕ → ℕ → ℕ → ℕ
standing_kept t r zero = 0
standing_kept t r (suc n) = cond (eqb (row_standing t r) kept) (suc (standing_kept t (suc r) n)) (standing_kept t (suc r) n)

-- the header is not that of its rows: where they begin (6), how many numbers they use, or how many of them standing 0 marks is told wrong
abbrev pub disagrees : List ℕ → Bool
disagrees t =
    not (eqb (get_or t 2 0) header_numbers) || not (eqb (get_or t 3 0) (used (row_count t)))
    || not (eqb (get_or t 1 0) (standing_kept t 0 (row_count t)))

-- by its header it is a table of a message of that type on that kind (rule 8.1)
unfoldable pub is_of : ℕ → List ℕ → List ℕ → Bool
is_of k m t = not (reads_as_cut t || disagrees t) && eqb (table_kind t) k && ltb 1 (length m) && eqb (table_type t) (octet m 1)

-- how many rows it has for the lookups: none if it is not
unfoldable pub table_rows : ℕ → List ℕ → List ℕ → ℕ
table_rows k m t = cond (is_of k m t) (row_count t) 0

abbrev pub nowhere : Span
nowhere = record { start = 0; len = 0; there = false }

-- where the value of row r stands in a buffer of n octets; nowhere if there is no such row, or its part would pass the buffer's end (rule 8.4)
unfoldable pub row_span : ℕ → List ℕ → List ℕ → ℕ → ℕ → Span
row_span k m t r n =
    cond (ltb r (table_rows k m t) && leb (row_place t r + row_length t r) n)
    (record { start = row_place t r; len = row_length t r; there = true })
    nowhere

-- ---- the desk's lookup: by row number, and only where message and copy have one length (rule 8.2)

unfoldable pub desk_span : ℕ → ℕ → List ℕ → ℕ → List ℕ → Span
desk_span k r m copy t = cond (eqb (length m) copy) (row_span k m t r copy) nowhere

-- ---- the plain lookup: by pair, among the kept rows of the body (rule 8.3)

unfoldable pub is_plain : List ℕ → ℕ → ℕ → ℕ → Bool
is_plain t typ inst r =
    eqb (row_parent t r) 0 && eqb (row_type t r) typ && eqb (row_instance t r) inst && eqb (row_standing t r) kept

-- the first such row of the next n from r on, or r + n
unfoldable pub seek_plain : List ℕ → ℕ → ℕ → ℕ → ℕ → ℕ
seek_plain t typ inst r zero = r
seek_plain t typ inst r (suc n) = cond (is_plain t typ inst r) r (seek_plain t typ inst (suc r) n)

unfoldable pub plain_span : ℕ → ℕ → ℕ → List ℕ → List ℕ → Span
plain_span k typ inst m t = row_span k m t (seek_plain t typ inst 0 (table_rows k m t)) (length m)

-- ---- a part of a lent buffer: its octets, and where they stand
pub record Stands (buffer : Bor (List ℕ)) (s : Span) (part : Bor (List ℕ)) : Type 0 where
  pub octets : part.now ≡ take s.len (drop s.start buffer.now)
  pub block : part.ref_ptr.0 ≡ buffer.ref_ptr.0
  pub place : part.ref_ptr.1 ≡ buffer.ref_ptr.1 + s.start
