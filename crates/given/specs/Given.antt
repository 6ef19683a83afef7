-- What the tests of a table ask and tell, by its numbers. Assumes nothing.
use Rattle.std.specs.Prelude.{◌≡◌, Bool, true, false, List, [], ◌∷◌, ℕ, ◌+◌, ◌≤◌, ◌<◌, length, get_or}
use Rattle.rules.specs.Sizes.{header_numbers, used}
use Rattle.rules.specs.Types.{among, is_group}
use Rattle.rules.specs.Standing.{kept}
use Rattle.rules.specs.Values.{row_count, row_parent, row_type, row_instance, row_place, row_length, row_standing}
use Rattle.rules.specs.Built.{since, depth_first, givens}
use Rattle.rules.proofs.Reasons.{RowRight}
use Rattle.emitting.specs.declared.Row.{Row}

-- a test tells whether something holds
pub record Told (P : Type 0) (r : Bool) : Type 0 where
  pub holds : r ≡ true → P
  pub fails : r ≡ false → P → ⊥

pub record HeaderRight (t : List ℕ) : Type 0 where
  pub long : header_numbers ≤ length t
  pub all_there : used (row_count t) ≤ length t
  pub kept_is : get_or t 1 0 ≡ row_count t
  pub place_is : get_or t 2 0 ≡ header_numbers
  pub used_is : get_or t 3 0 ≡ used (row_count t)

-- the first `count` rows are there
pub record HasCells (t : List ℕ) (count : ℕ) : Type 0 where
  pub long : used count ≤ length t
  pub few : count ≤ 65535

pub record HasCell (t : List ℕ) (n : ℕ) : Type 0 where
  pub long : used n + 6 ≤ length t
  pub few : n ≤ 65535

-- row n, by its numbers' names
abbrev pub row_in : List ℕ → ℕ → Row
row_in t n = record {
  parent = row_parent t n;
  typ = row_type t n;
  inst = row_instance t n;
  place = row_place t n;
  len = row_length t n;
  stand = row_standing t n;
}

-- a row is right, but for its parent
pub record FitRow (row : Row) (values : List ℕ) : Type 0 where
  pub stand : row.stand ≡ kept
  pub typ : row.typ ≤ 255
  pub inst : row.inst ≤ 15
  pub there : is_group row.typ ≡ false → row.place + row.len ≤ length values

pub record RowsRight (t values : List ℕ) (count : ℕ) : Type 0 where
  pub each : (r : ℕ) → r < count → RowRight t values r
  pub deep : depth_first (0 ∷ []) 0 (givens t values 0 count) ≡ true

-- ---- open groups

-- The open groups from the innermost, a, up to the message: from each to its parent, which stands before it. So nothing but the innermost need be kept.
pub data Chain (t : List ℕ) : ℕ → List ℕ → Type 0 where
  root : {a : ℕ} → a ≡ 0 → Chain t a (a ∷ [])
  link : {a : ℕ} {path : List ℕ} (r : ℕ) → a ≡ r + 1 → row_parent t r ≤ r → Chain t (row_parent t r) path → Chain t a (a ∷ path)

pub record Climbs (t : List ℕ) (inner : ℕ) : Type 0 where
  pub has : HasCells t inner
  pub path : List ℕ
  pub chain : Chain t inner path

-- the first open group that does not stand after the parent; it is the parent exactly where that is open
pub record Climbed (t : List ℕ) (inner parent r : ℕ) : Type 0 where
  pub low : r ≤ inner
  pub found : r ≡ parent → (path : List ℕ) → Chain t inner path → (among parent path ≡ true) × Chain t parent (since parent path)
  pub lost : (r ≡ parent → ⊥) → (path : List ℕ) → Chain t inner path → among parent path ≡ false
