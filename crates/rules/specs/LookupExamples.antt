-- Examples of the two lookups over D and its table: what is asked, and where the value stands. Assumes nothing.
use Rattle.std.specs.Prelude.{ℕ, true, List, [], ◌∷◌, set, take}
use Rattle.rules.specs.Values.{plain_span, desk_span, nowhere}
use Rattle.rules.specs.Examples.{message_d}
use Rattle.rules.specs.declared.Span.{Span}

-- the plain lookup of a pair, or the desk's of a row with a copy of so many octets
pub data Asked : Type 0 where
  plain desk : ℕ → ℕ → Asked

pub record Lookup : Type 0 where
  pub kind : ℕ
  pub asked : Asked
  pub message : List ℕ
  pub table : List ℕ
  pub found : Span

abbrev pub lookup : ℕ → Asked → List ℕ → List ℕ → Span → Lookup
lookup k q m t s = record { kind = k; asked = q; message = m; table = t; found = s }

-- the table of D, one number longer than is used
abbrev pub table_d : List ℕ
table_d = 1 ∷ 1 ∷ 6 ∷ 12 ∷ 1 ∷ 1 ∷ 0 ∷ 3 ∷ 0 ∷ 12 ∷ 1 ∷ 0 ∷ 7 ∷ []

-- the one octet of Recovery
abbrev pub recovery : Span
recovery = record { start = 12; len = 1; there = true }

unfoldable pub lookups : List Lookup
lookups =
    lookup 1 (plain 3 0) message_d table_d recovery ∷
    lookup 1 (desk 0 13) message_d table_d recovery ∷
    -- another pair, another row, a copy of another length
    lookup 1 (plain 3 1) message_d table_d nowhere ∷
    lookup 1 (desk 1 13) message_d table_d nowhere ∷
    lookup 1 (desk 0 14) message_d table_d nowhere ∷
    -- another kind is asked for; the table is one of another kind, or of another type; the message has another type, or none
    lookup 2 (plain 3 0) message_d table_d nowhere ∷
    lookup 1 (desk 0 13) message_d (set table_d 5 2) nowhere ∷
    lookup 1 (plain 3 0) message_d (set table_d 4 2) nowhere ∷
    lookup 1 (desk 0 13) (set message_d 1 2) table_d nowhere ∷
    lookup 1 (plain 3 0) (take 1 message_d) table_d nowhere ∷
    -- the header counts a row more, a kept row less, another first place, more numbers, or stands in a table cut before its end
    lookup 1 (plain 3 0) message_d (set table_d 0 2) nowhere ∷
    lookup 1 (desk 0 13) message_d (set table_d 1 0) nowhere ∷
    lookup 1 (plain 3 0) message_d (set table_d 2 4) nowhere ∷
    lookup 1 (desk 0 13) message_d (set table_d 3 13) nowhere ∷
    lookup 1 (plain 3 0) message_d (take 11 table_d) nowhere ∷
    -- the row is not kept, and so counted; the desk finds it all the same
    lookup 1 (plain 3 0) message_d (set (set table_d 1 0) 11 2) nowhere ∷
    lookup 1 (desk 0 13) message_d (set (set table_d 1 0) 11 2) recovery ∷
    -- its value would end past the message; an empty one at the very end does not
    lookup 1 (plain 3 0) message_d (set table_d 10 2) nowhere ∷
    lookup 1 (plain 3 0) message_d (set (set table_d 9 13) 10 0) (record { start = 13; len = 0; there = true }) ∷
    []

abbrev pub lookup_outcome : Lookup → Span
lookup_outcome x = go x.asked
  where
    go : Asked → Span
    go (plain typ inst) = plain_span x.kind typ inst x.message x.table
    go (desk r copy) = desk_span x.kind r x.message copy x.table

abbrev pub lookup_written : Lookup → Span
lookup_written x = x.found
