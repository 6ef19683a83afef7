-- What a message that is made starts with: its header, by the numbers that it carries. Assumes nothing.
use Rattle.std.specs.Prelude.{cond, Option, Some, None, is_some, List, ◌∷◌, ℕ, ◌-◌, ◌/◌, ◌%◌, ◌≤◌, ◌<◌, length}
use Rattle.rules.specs.Built.{first_of, rest_of}

-- the header of a message of n octets, with a TEID or without
abbrev pub header_size : Option ℕ → ℕ
header_size teid = cond (is_some teid) 12 8

abbrev pub teid_in : Option ℕ → ℕ
teid_in (Some teid) = teid
teid_in None = 0

abbrev pub start_of : ℕ → Option ℕ → ℕ → ℕ → List ℕ
start_of typ teid sequence n = first_of (is_some teid) ∷ typ ∷ (n - 4) / 256 ∷ (n - 4) % 256 ∷ rest_of (is_some teid) (teid_in teid) sequence

pub record Starts (n : ℕ) (out : List ℕ) : Type 0 where
  pub least : 4 ≤ n
  pub two : n < 65540
  pub room : 12 ≤ length out
