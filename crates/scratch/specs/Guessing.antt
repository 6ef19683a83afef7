-- Which scratch a caller tries first. A guess that fails costs time, and no answer. Assumes nothing.
use Rattle.std.specs.Prelude.{◌≡◌, ℕ, zero, suc, ◌+◌, ◌*◌, ◌<◌, Bool, false, cond, List, ltb, leb, length}
use Rattle.rules.specs.Framing.{two_octets, element_header, header_length}

-- by their length fields alone, do the next n siblings from `at` on end within the first eighth of the message?
unfoldable pub crowded_from : List ℕ → ℕ → ℕ → Bool
crowded_from m at zero = ltb (8 * at) (length m)
crowded_from m at (suc n) = cond (ltb (length m) (at + element_header)) false (crowded_from m (at + element_header + two_octets m (at + 1)) n)

-- a message that looks as if it had more than 64 rows: of more than 264 octets, the first eight siblings take less than an eighth
unfoldable pub crowded : List ℕ → Bool
crowded m = cond (leb (length m) 264) false (crowded_from m (header_length m) 8)

-- ---- the parts of contracts: numbers that are small enough to be summed

pub record Two (m : List ℕ) (at r : ℕ) : Type 0 where
  pub is : r ≡ two_octets m at
  pub low : r < 65536
