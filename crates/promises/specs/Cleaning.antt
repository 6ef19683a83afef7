-- What a table of the cleaned copy has to do with a table of the message, by the numbers of both and the octets of the two. Assumes nothing.
use Rattle.std.specs.Prelude.{◌≡◌, false, List, ℕ, ◌-◌, ◌<◌, take, drop}
use Rattle.rules.specs.Framing.{octet}
use Rattle.rules.specs.Types.{is_group}
use Rattle.rules.specs.Standing.{kept}
use Rattle.rules.specs.Values.{row_parent, row_type, row_instance, row_place, row_length, row_standing}
use Rattle.tables.specs.Words.{rows, kept_count, kept_among}

module _ (m t clean u : List ℕ) where
  -- row q of u is row r of t: a parent has the number that it has among the kept rows; the header's last octet, with the bits that nothing reads, and the
  -- octets of a value that is no group are the same
  pub record KeptRow (r q : ℕ) : Type 0 where
    pub there : q < rows u
    pub stand : row_standing u q ≡ kept
    pub parent : row_parent u q ≡ kept_among t (row_parent t r)
    pub typ : row_type u q ≡ row_type t r
    pub inst : row_instance u q ≡ row_instance t r
    pub last : octet clean (row_place u q - 1) ≡ octet m (row_place t r - 1)
    pub value : is_group (row_type t r) ≡ false → take (row_length u q) (drop (row_place u q) clean) ≡ take (row_length t r) (drop (row_place t r) m)

  -- every row of u is kept, and they are the kept rows of t in their order: row r is the one that has as many before it as there are kept ones before r
  pub record CleanRows : Type 0 where
    pub all_kept : kept_count u ≡ rows u
    pub as_many : rows u ≡ kept_count t
    pub each : (r : ℕ) → r < rows t → row_standing t r ≡ kept → KeptRow r (kept_among t r)
