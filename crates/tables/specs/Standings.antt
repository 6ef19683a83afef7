-- The standing of a row, over rows: an earlier element of the pair at the level is an earlier row with that parent, type and instance. There are no marks
-- in it. Assumes nothing.
use Rattle.std.specs.Prelude.{◌≡◌, true, false, List, ℕ, ◌<◌, length, get_or, take, drop}
use Rattle.rules.specs.Types.{least_of}
use Rattle.rules.specs.Listings.{Book, Line, Limit, empty_line, seek, listing}
use Rattle.rules.specs.Frames.{Frame, frames_of, exceeds}
use Rattle.rules.specs.Standing.{kept, unexpected, repeated, short, void}
use Rattle.rules.specs.Taking.{body_level}
use Rattle.rules.specs.Values.{row_parent, row_type, row_instance, row_place, row_length}
use Rattle.tables.specs.Words.{first_value}
use Rattle.tables.specs.Levels.{level_of}

-- row x has the parent, the type and the instance of row r
pub record SamePair (t : List ℕ) (x r : ℕ) : Type 0 where
  pub parent : row_parent t x ≡ row_parent t r
  pub typ : row_type t x ≡ row_type t r
  pub inst : row_instance t x ≡ row_instance t r

module _ (b : Book) (k : ℕ) (m t : List ℕ) (r : ℕ) where
  -- the listing of the level that row r stands at, and the number of its pair's line there
  abbrev pub its_listing : List Line
  its_listing = listing b (level_of b k (body_level b m) t (row_parent t r))

  abbrev pub its_number : ℕ
  its_number = seek its_listing k (row_type t r) (row_instance t r)

  -- its pair is listed there for this kind
  abbrev pub Listed : Type 0
  Listed = its_number < length its_listing

  -- its pair may stand once, and an earlier row of its level, short or not, has it
  pub record Again : Type 0 where
    pub once : (get_or its_listing its_number empty_line).many ≡ false
    pub earlier : (x : ℕ) × (x < r) × SamePair t x r

  -- the least length of a value of its type and first octet, and that its own is below it
  abbrev pub its_least : ℕ
  its_least = least_of (row_type t r) (first_value m t r)

  abbrev pub Below : Type 0
  Below = row_length t r < its_least

  -- the elements that stand directly inside its value, by their headers alone, and that there are more of a pair than its line lets stand
  abbrev pub its_frames : List Frame
  its_frames = frames_of (take (row_length t r) (drop (row_place t r) m))

  abbrev pub its_limits : List Limit
  its_limits = (get_or its_listing its_number empty_line).limits

  abbrev pub Over : Type 0
  Over = exceeds its_limits its_frames ≡ true

  -- the five standings: the first that applies
  pub data StandsAs : ℕ → Type 0 where
    is_unexpected : (Listed → ⊥) → StandsAs unexpected
    is_repeated : Listed → Again → StandsAs repeated
    is-short : Listed → (Again → ⊥) → Below → StandsAs short
    is_void : Listed → (Again → ⊥) → (Below → ⊥) → Over → StandsAs void
    is-kept : Listed → (Again → ⊥) → (Below → ⊥) → (Over → ⊥) → StandsAs kept
