-- What it is that a message is accepted on a kind, and what is then left in the table that was lent. Assumes nothing.
use Rattle.std.specs.Prelude.{◌≡◌, ℕ, ◌≤◌, List, length, get_or}
use Rattle.rules.specs.Sizes.{used}
use Rattle.rules.specs.Listings.{Book}
use Rattle.rules.specs.Taking.{body_level}
use Rattle.rules.proofs.Header.{Passed}
use Rattle.tables.specs.Words.{rows}
use Rattle.tables.specs.IsTable.{IsTable}
use Rattle.verdicts.specs.Missing.{ShortRow, Lacks}

pub record Accepts (b : Book) (k : ℕ) (m t : List ℕ) : Type 0 where
  -- none of 1 to 8 applies
  pub header : Passed b k m
  -- 9 does not: the message has a table, and this is it
  pub table : IsTable b k m t
  -- 11: no row whose pair is mandatory at its level is short
  pub none_short : (r : ℕ) → ShortRow b k (body_level b m) t r → ⊥
  -- 12: no level lacks a kept row of a mandatory pair
  pub none_missing : (p j : ℕ) → Lacks b k (body_level b m) t p j → ⊥

-- a table that is accepted, in as many numbers as were lent (10), those past the ones used as they were
pub record Leaves (b : Book) (k : ℕ) (m lent left : List ℕ) : Type 0 where
  pub accepts : Accepts b k m left
  pub size : length left ≡ length lent
  pub stays : (i : ℕ) → used (rows left) ≤ i → get_or left i 0 ≡ get_or lent i 0
