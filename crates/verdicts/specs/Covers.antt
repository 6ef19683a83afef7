-- Which value octets a row covers, by the row's own numbers, and for a void row by the headers inside its value. Assumes nothing.
use Rattle.std.specs.Prelude.{◌≡◌, ◌⊎◌, ◌≢◌, true, List, ℕ, ◌-◌, ◌≤◌, ◌<◌, take, drop}
use Rattle.rules.specs.Types.{covers_whole, covers_rest}
use Rattle.rules.specs.Frames.{Frame, frames_of, hides}
use Rattle.rules.specs.Standing.{kept, unexpected, repeated, short, void}
use Rattle.rules.specs.Values.{row_type, row_place, row_length, row_standing}
use Rattle.tables.specs.Words.{rows, row_end}

-- octet j is a value octet of row r
pub record ValueOver (t : List ℕ) (j r : ℕ) : Type 0 where
  pub there : r < rows t
  pub begins : row_place t r ≤ j
  pub ends : j < row_end t r

-- the elements that stand directly inside the value of row r
abbrev pub frames_in : List ℕ → List ℕ → ℕ → List Frame
frames_in m t r = frames_of (take (row_length t r) (drop (row_place t r) m))

pub data Covers (m t : List ℕ) (j r : ℕ) : Type 0 where
  -- a row that is set aside, unexpected or repeated, covers its whole value
  aside : (row_standing t r ≡ unexpected) ⊎ (row_standing t r ≡ repeated) → Covers m t j r
  -- and so does one of a type that tells of the subscriber
  secret : covers_whole (row_type t r) ≡ true → Covers m t j r
  -- one of a type whose first octet the rules read covers the others, if it is kept or short
  rest : covers_rest (row_type t r) ≡ true → (row_standing t r ≡ kept) ⊎ (row_standing t r ≡ short) → j ≢ row_place t r → Covers m t j r
  -- a void one covers the value octets of the elements directly inside it, and no header there
  within : row_standing t r ≡ void → hides (frames_in m t r) (j - row_place t r) ≡ true → Covers m t j r
