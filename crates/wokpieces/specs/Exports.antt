-- What the exports of the pieces form answer and leave, for every state, table and part that is lent. Assumes nothing.
use Rattle.std.specs.Prelude.{◌≡◌, ℕ, ◌*◌, ◌≤◌, Bool, true, false, cond, Option, Some, None, List, ◌++◌, ltb, length, take, drop}
use Rattle.rules.specs.Sizes.{header_numbers}
use Rattle.rules.specs.Table.{laid}
use Rattle.rules.specs.Verdicts.{accepted}
use Rattle.rules.specs.Octets.{octets_of, numbers_in, five_laid, table_room}
use Rattle.rules.specs.declared.Verdict.{Verdict}
use Rattle.pieces.specs.declared.Pieces.{Pieces}
use Rattle.pieces.specs.Feeding.{zeros}
use Rattle.pieces.specs.Coded.{feed_all_by}
use Rattle.pieces.specs.Answers.{takes, out, start_of, part_told, part_table, ended_by, verdict_by, end_table}
use Rattle.pieces.specs.Agreements.{FitsAll}
use Rattle.keeping.specs.Kept.{state_size, kept_in, state_in}

-- numbers laid as octets over the start of a table: an odd last octet stays
abbrev pub table_laid : List ℕ → List ℕ → List ℕ
table_laid numbers table = laid (octets_of numbers) table

abbrev pub is_too_short : List ℕ → Bool
is_too_short state = ltb (length state) state_size

-- ---- the start

pub record StartedOctets (kind : ℕ) (state table : List ℕ) (code : ℕ) (state' table' : List ℕ) : Type 0 where
  pub answers : code ≡ cond (is_too_short state) out.code 0
  pub state_left : state' ≡ kept_in (start_of kind (table_room table)) state
  pub table_left : table' ≡ cond (is_too_short state) table (table_laid (zeros (table_room table)) table)

-- ---- a part and the end

-- the state is whole, and is taken with a table of this length
unfoldable pub takes_in : List ℕ → List ℕ → Bool
takes_in state table = cond (is_too_short state) false (takes (state_in state) (table_room table))

abbrev pub part_verdict : List ℕ → List ℕ → Verdict
part_verdict state table = cond (takes_in state table) accepted out

pub record PartedOctets (state part table five : List ℕ) (code : ℕ) (state' table' five' : List ℕ) : Type 0 where
  pub answers : code ≡ (part_verdict state table).code
  pub state_left : state' ≡ cond (takes_in state table) (kept_in (part_told (state_in state) part (numbers_in table)).state state) state
  pub table_left : table' ≡ cond (takes_in state table) (table_laid (part_table (state_in state) part (numbers_in table)) table) table
  pub five_left : five' ≡ five_laid (part_verdict state table) five

abbrev pub end_verdict : List ℕ → List ℕ → Verdict
end_verdict state table = cond (takes_in state table) (verdict_by (state_in state) (table_room table)) out

pub record EndedOctets (state table five : List ℕ) (code : ℕ) (state' table' five' : List ℕ) : Type 0 where
  pub answers : code ≡ (end_verdict state table).code
  pub state_left : state' ≡ cond (takes_in state table) (kept_in (ended_by (state_in state)) state) state
  pub table_left : table' ≡ cond (takes_in state table) (table_laid (end_table (state_in state) (numbers_in table)) table) table
  pub five_left : five' ≡ five_laid (end_verdict state table) five

-- ---- the parts of the exports

-- octets of a part are fed to a table that is lent as octets: its rows stand after its header
pub record FedTable (p : Pieces) (part table : List ℕ) (r : Pieces) (table' : List ℕ) : Type 0 where
  pub state : r ≡ (feed_all_by p part (drop header_numbers (numbers_in table))).state
  pub numbers : numbers_in table' ≡ take header_numbers (numbers_in table) ++ (feed_all_by p part (drop header_numbers (numbers_in table))).rows
  pub long : length table' ≡ length table

-- the five numbers where there is room for them, and the code
pub record Told (v : Verdict) (five : List ℕ) (code : ℕ) (five' : List ℕ) : Type 0 where
  pub answers : code ≡ v.code
  pub five_left : five' ≡ five_laid v five

-- it is the state, if it is taken; and then it is one that a start can have come to
abbrev pub takes_with : List ℕ → ℕ → Bool
takes_with state room = cond (is_too_short state) false (takes (state_in state) room)

pub record Takes (state : List ℕ) (room : ℕ) (r : Option Pieces) : Type 0 where
  pub is : r ≡ cond (takes_with state room) (Some (state_in state)) None
  pub long : takes_with state room ≡ true → state_size ≤ length state
  pub fits : takes_with state room ≡ true → FitsAll (state_in state)

-- the verdict at the end of a state that is taken, for a table of that length
pub record Ending (p : Pieces) (v : Verdict) (table : List ℕ) : Type 0 where
  pub fits : FitsAll p
  pub verdict : v ≡ verdict_by p (table_room table)
  pub half : ℕ
  pub twice : length table ≡ 2 * half

-- the table's numbers afterwards, if it is as long as it was at the start
pub record Finished (p : Pieces) (v : Verdict) (table table' : List ℕ) : Type 0 where
  pub numbers : takes p (table_room table) ≡ true → numbers_in table' ≡ end_table p (numbers_in table)
  pub long : length table' ≡ length table
