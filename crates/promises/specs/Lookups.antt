-- What the lookups find in a table that the one call wrote, and in any other. Assumes nothing.
use Rattle.std.specs.Prelude.{◌≡◌, ◌⊎◌, ◌≢◌, true, ◌||◌, List, ℕ, ◌≤◌, ◌<◌, length}
use Rattle.rules.specs.Framing.{message_type}
use Rattle.rules.specs.Standing.{kept}
use Rattle.rules.specs.Values.{row_parent, row_type, row_instance, row_place, row_length, row_standing, table_type, table_kind, reads_as_cut, disagrees}
use Rattle.rules.specs.declared.Span.{Span}
use Rattle.tables.specs.Words.{rows}

-- where the value of row r stands
abbrev pub value_of : List ℕ → ℕ → Span
value_of t r = record { start = row_place t r; len = row_length t r; there = true }

-- row r is a kept row of the message level with the pair y/i
pub record TopRow (t : List ℕ) (y i r : ℕ) : Type 0 where
  pub there : r < rows t
  pub parent : row_parent t r ≡ 0
  pub typ : row_type t r ≡ y
  pub inst : row_instance t r ≡ i
  pub stand : row_standing t r ≡ kept

pub record FirstTopRow (t : List ℕ) (y i r : ℕ) : Type 0 where
  pub row : TopRow t y i r
  pub none_before : (x : ℕ) → x < r → TopRow t y i x → ⊥

-- a run of numbers that is no table of the message on that kind: its header disagrees with itself, or names another kind, or another type than the
-- message's, or the message has none
pub record SomethingElse (k : ℕ) (m t : List ℕ) : Type 0 where
  pub is : (reads_as_cut t || disagrees t ≡ true) ⊎ ((table_kind t ≢ k) ⊎ ((table_type t ≢ message_type m) ⊎ (length m ≤ 1)))
