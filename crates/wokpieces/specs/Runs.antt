-- A run of calls from C: a start, and then parts, on one state and one table that nobody else touches. Assumes nothing.
use Rattle.std.specs.Prelude.{ℕ, ◌≤◌, List, [], ◌∷◌, ◌++◌, length}
use Rattle.keeping.specs.Kept.{state_size}
use Rattle.wokpieces.specs.Exports.{StartedOctets, PartedOctets}

-- the parts so far, the state and the table as they stand now
pub data Runs (kind : ℕ) : List (List ℕ) → List ℕ → List ℕ → Type 0 where
  begins : {state table state' table' : List ℕ} {code : ℕ} → state_size ≤ length state → StartedOctets kind state table code state' table' → Runs kind [] state' table'
  goes : {ps : List (List ℕ)} {state part table five state' table' five' : List ℕ} {code : ℕ} → Runs kind ps state table
      → PartedOctets state part table five code state' table' five' → Runs kind (ps ++ (part ∷ [])) state' table'
