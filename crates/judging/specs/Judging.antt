-- The verdict on a reading, and what is asked for a table. Assumes nothing.
use Rattle.std.specs.Prelude.{ℕ, ◌*◌, ◌≤◌, List, [], ◌∷◌, ltb, length}
use Rattle.rules.specs.Sizes.{most_rows, row_numbers, used}
use Rattle.rules.specs.Verdicts.{refused, check, first}
use Rattle.rules.specs.declared.Verdict.{Verdict}
use Rattle.rules.specs.declared.Reading.{Reading}

-- the verdict on a reading, for a table of so many numbers
unfoldable pub given : Reading → ℕ → Verdict
given r room = first (r.refusal ∷ check (ltb room (used r.rows)) (refused 10 0) ∷ r.short ∷ r.lack ∷ [])

-- a table that can be written
pub record Writable (n kept : ℕ) (rows table : List ℕ) : Type 0 where
  pub few : n ≤ most_rows
  pub kept_few : kept ≤ n
  pub there : row_numbers * n ≤ length rows
  pub room : used n ≤ length table
