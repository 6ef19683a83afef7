-- What the parts of the one call ask for and answer. Assumes nothing.
use Rattle.std.specs.Prelude.{◌≡◌, ℕ, cond, List, [], ◌∷◌, ltb}
use Rattle.rules.specs.Sizes.{used}
use Rattle.rules.specs.Table.{numbers_by, laid}
use Rattle.rules.specs.Verdicts.{refused, check, refuses, first}
use Rattle.rules.specs.declared.Verdict.{Verdict}
use Rattle.rules.specs.declared.Reading.{Reading}
use Rattle.rules.specs.declared.Decision.{Decision}
use Rattle.judging.specs.Judging.{Writable}
use Rattle.octets.specs.Stored.{table_stored}

-- what leaves all as it was lent, on a reading of a message of so many octets: 1 to 9, 13, 10
unfoldable pub lent_on : Reading → ℕ → ℕ → ℕ → Verdict
lent_on r size octets room = first (r.refusal ∷ check (ltb octets size) (refused 13 0) ∷ check (ltb room (used r.rows)) (refused 10 0) ∷ [])

-- a refusal, with the counts of its reading
abbrev pub turned : Verdict → Reading → Decision
turned v r = record { verdict = v; rows = r.rows; kept = r.kept; typ = 0; kind = 0 }

-- on acceptance the table of a decision can be written
abbrev pub Settles : Decision → List ℕ → List ℕ → Type 0
Settles d rows table = d.verdict.code ≡ 0 → Writable d.rows d.kept rows table

-- and is written then alone
pub record Settled (d : Decision) (rows table : List ℕ) (answer : Verdict) (table' : List ℕ) : Type 0 where
  pub answers : answer ≡ d.verdict
  pub table_left : table' ≡ cond (refuses d.verdict) table (laid (numbers_by d.rows d.kept d.typ d.kind rows) table)

-- the same as octets
pub record Stored (d : Decision) (rows table : List ℕ) (answer : Verdict) (table' : List ℕ) : Type 0 where
  pub answers : answer ≡ d.verdict
  pub table_left : table' ≡ cond (refuses d.verdict) table (table_stored rows d.rows d.kept d.typ d.kind table)
