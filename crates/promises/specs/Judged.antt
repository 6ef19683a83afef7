-- What the one call answers, and leaves in its table, where its copy has room for the message: what checks 1 to 12 say with no copy asked for. Cleaner, builder and
-- the form in parts are held to it. Assumes nothing.
use Rattle.std.specs.Prelude.{◌≡◌, List, ℕ, length}
use Rattle.rules.specs.Listings.{book}
use Rattle.rules.specs.Verdicts.{judge_verdict, judge_table}
use Rattle.rules.specs.declared.Verdict.{Verdict}

pub record Judged (kind : ℕ) (message table : List ℕ) (answer : Verdict) (table' : List ℕ) : Type 0 where
  pub answers : answer ≡ judge_verdict book kind message (length table)
  pub table_left : table' ≡ judge_table book kind message table
