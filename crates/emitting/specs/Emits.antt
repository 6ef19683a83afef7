-- Rows written out, by their numbers. Assumes nothing.
use Rattle.std.specs.Prelude.{◌≡◌, Bool, true, false, cond, List, [], ◌++◌, ℕ, zero, suc, ◌+◌, ◌-◌, ◌*◌, ◌%◌, ◌≤◌, ◌<◌, eqb, ltb, length, get_or, take, drop}
use Rattle.rules.specs.Sizes.{row_numbers}
use Rattle.rules.specs.Types.{is_group}
use Rattle.rules.specs.Standing.{kept}
use Rattle.rules.specs.Emitting.{head_octets}
use Rattle.emitting.specs.declared.Row.{Row}
use Rattle.emitting.specs.declared.Fourth.{Fourth}
use Rattle.emitting.specs.declared.Fourth.TheVariants.{Received, Instance}

-- number c of row i
abbrev pub number : List ℕ → ℕ → ℕ → ℕ
number rows i c = get_or rows (row_numbers * i + c) 0

pub record HasRow (rows : List ℕ) (n : ℕ) : Type 0 where
  pub long : row_numbers * n + row_numbers ≤ length rows
  pub few : n ≤ 65535

pub record HasRows (rows : List ℕ) (count : ℕ) : Type 0 where
  pub long : row_numbers * count ≤ length rows
  pub few : count ≤ 65535

abbrev pub row_at : List ℕ → ℕ → Row
row_at rows n = record {
  parent = number rows n 0;
  typ = number rows n 1;
  inst = number rows n 2;
  place = number rows n 3;
  len = number rows n 4;
  stand = number rows n 5;
}

-- ---- sizes

abbrev pub size_of_row : Row → ℕ
size_of_row row = cond (eqb row.stand kept) (cond (is_group row.typ) 4 (4 + row.len)) 0

abbrev pub size_at_row : List ℕ → ℕ → ℕ
size_at_row rows n = size_of_row (row_at rows n)

pub record Sized (row : Row) (r : ℕ) : Type 0 where
  pub is : r ≡ size_of_row row
  pub low : r ≤ 65539

-- k rows from j on
unfoldable pub sizes_in : List ℕ → ℕ → ℕ → ℕ
sizes_in rows j zero = 0
sizes_in rows j (suc k) = size_at_row rows j + sizes_in rows (j + 1) k

pub record Summed (sum count r : ℕ) : Type 0 where
  pub is : r ≡ sum
  pub low : r ≤ count * 65539

-- those of k rows from j on that stand inside row r
unfoldable pub within_rows : List ℕ → ℕ → ℕ → ℕ → ℕ
within_rows rows r j zero = 0
within_rows rows r j (suc k) = cond (ltb (number rows j 0) r) 0 (size_at_row rows j + within_rows rows r (j + 1) k)

abbrev pub inside_in : List ℕ → ℕ → ℕ → ℕ
inside_in rows n count = within_rows rows (n + 1) (n + 1) (count - (n + 1))

abbrev pub length_in : List ℕ → ℕ → ℕ → ℕ
length_in rows n count = cond (is_group (number rows n 1)) (inside_in rows n count) (number rows n 4)

-- ---- the parts of a row

-- whether the last octet of a header is the one that was received
abbrev pub is_received : Fourth → Bool
is_received Received = true
is_received Instance = false

abbrev pub fourth_of : Row → List ℕ → Bool → ℕ
fourth_of row source own = cond own (get_or source (row.place - 1) 0) (row.inst % 256)

pub record HasFourth (row : Row) (source : List ℕ) (own : Bool) : Type 0 where
  pub least : own ≡ true → 1 ≤ row.place
  pub most : own ≡ true → row.place ≤ length source

abbrev pub last_in : List ℕ → ℕ → List ℕ → Bool → ℕ
last_in rows n source own = fourth_of (row_at rows n) source own

pub record Heading (out : List ℕ) (at typ len : ℕ) : Type 0 where
  pub room : at + 4 ≤ length out
  pub typ_octet : typ < 256
  pub two : len < 65536

abbrev pub headed : List ℕ → ℕ → ℕ → ℕ → ℕ → List ℕ
headed out at typ len end = take at out ++ (head_octets typ len end ++ drop (at + 4) out)

abbrev pub valued : List ℕ → ℕ → ℕ → List ℕ → ℕ → List ℕ
valued source place len out at = take at out ++ (take len (drop place source) ++ drop (at + len) out)

-- ---- a row, and rows

abbrev pub value_in : List ℕ → ℕ → List ℕ → List ℕ
value_in rows n source = cond (is_group (number rows n 1)) [] (take (number rows n 4) (drop (number rows n 3) source))

abbrev pub part_within : List ℕ → ℕ → ℕ → List ℕ → Bool → List ℕ
part_within rows n count source own =
    cond (eqb (number rows n 5) kept) (head_octets (number rows n 1) (length_in rows n count) (last_in rows n source own) ++ value_in rows n source) []

-- k rows from n on
unfoldable pub parts_in : List ℕ → ℕ → List ℕ → Bool → ℕ → ℕ → List ℕ
parts_in rows count source own n zero = []
parts_in rows count source own n (suc k) = part_within rows n count source own ++ parts_in rows count source own (n + 1) k

-- a row that can be written
pub record RowFit (rows : List ℕ) (n count : ℕ) (source : List ℕ) (own : Bool) : Type 0 where
  pub typ : number rows n 1 < 256
  pub len : number rows n 5 ≡ kept → length_in rows n count < 65536
  pub least : own ≡ true → 1 ≤ number rows n 3
  pub most : own ≡ true → number rows n 3 ≤ length source
  pub there : is_group (number rows n 1) ≡ false → number rows n 3 + number rows n 4 ≤ length source

pub record PutsRow (rows : List ℕ) (n count : ℕ) (source : List ℕ) (own : Bool) (out : List ℕ) (at : ℕ) : Type 0 where
  pub one : n < count
  pub fit : RowFit rows n count source own
  pub room : at + length (part_within rows n count source own) ≤ length out

abbrev pub over : List ℕ → ℕ → List ℕ → List ℕ
over out at xs = take at out ++ (xs ++ drop (at + length xs) out)

pub record PutRow (rows : List ℕ) (n count : ℕ) (source : List ℕ) (own : Bool) (out : List ℕ) (at r : ℕ) (out' : List ℕ) : Type 0 where
  pub next : r ≡ at + length (part_within rows n count source own)
  pub left : out' ≡ over out at (part_within rows n count source own)

pub record PutsRows (rows : List ℕ) (count : ℕ) (source : List ℕ) (own : Bool) (out : List ℕ) (at : ℕ) : Type 0 where
  pub fits : (n : ℕ) → n < count → RowFit rows n count source own
  pub room : at + length (parts_in rows count source own 0 count) ≤ length out

abbrev pub put_rows : List ℕ → ℕ → List ℕ → Bool → List ℕ → ℕ → List ℕ
put_rows rows count source own out at = over out at (parts_in rows count source own 0 count)
