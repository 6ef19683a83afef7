-- What is missing or short, over a table's six numbers a row and the rows' parent numbers alone. Assumes nothing.
use Rattle.std.specs.Prelude.{◌≡◌, ◌⊎◌, true, List, ℕ, ◌<◌}
use Rattle.rules.specs.Listings.{Book, Line}
use Rattle.rules.specs.Standing.{kept, short}
use Rattle.rules.specs.Verdicts.{is_mandatory}
use Rattle.rules.specs.Values.{row_parent, row_type, row_instance, row_standing}
use Rattle.tables.specs.Words.{rows, row_start}
use Rattle.tables.specs.Levels.{row_line, insides, level_of, level_place, required}

-- v is the level of the message's body
module _ (b : Book) (k v : ℕ) (t : List ℕ) where
  -- row r is a kept row with parent p of the pair of the line l
  pub record KeptRow (p : ℕ) (l : Line) (r : ℕ) : Type 0 where
    pub there : r < rows t
    pub parent : row_parent t r ≡ p
    pub typ : row_type t r ≡ l.typ
    pub inst : row_instance t r ≡ l.inst
    pub stand : row_standing t r ≡ kept

  -- line j is required at the level of the rows with parent p, and no row of its pair is kept at that level
  pub record Lacks (p j : ℕ) : Type 0 where
    pub level : 0 < level_of b k v t p
    pub must : is_mandatory k (required b k v t p j) ≡ true
    pub none : (r : ℕ) → KeptRow p (required b k v t p j) r → ⊥

  -- levels in the order of their rows, then listing order
  abbrev pub Earlier : ℕ → ℕ → ℕ → ℕ → Type 0
  Earlier p' j' p j = (p' < p) ⊎ ((p' ≡ p) × (j' < j))

  pub record FirstLack (p j : ℕ) : Type 0 where
    pub lacks : Lacks p j
    pub none_before : (p' j' : ℕ) → Earlier p' j' p j → Lacks p' j' → ⊥

  -- row r is short, and its pair is mandatory at its level
  pub record ShortRow (r : ℕ) : Type 0 where
    pub there : r < rows t
    pub stand : row_standing t r ≡ short
    pub must : (row_line b k v t (insides b k v t (rows t)) r).must ≡ true

  pub record FirstShort (r : ℕ) : Type 0 where
    pub is-short : ShortRow r
    pub none_before : (r' : ℕ) → r' < r → ShortRow r' → ⊥

-- what 11 names: the first octet, the type and the instance of the first such row
pub record NamesShort (b : Book) (k v : ℕ) (t : List ℕ) (q y i : ℕ) : Type 0 where
  pub row : ℕ
  pub first : FirstShort b k v t row
  pub place : q ≡ row_start t row
  pub typ : y ≡ row_type t row
  pub inst : i ≡ row_instance t row

-- what 12 names: the first octet of the level, 0 for the message, and the pair of the first such line
pub record NamesLack (b : Book) (k v : ℕ) (t : List ℕ) (q y i : ℕ) : Type 0 where
  pub parent : ℕ
  pub line : ℕ
  pub first : FirstLack b k v t parent line
  pub place : q ≡ level_place b k v t parent
  pub typ : y ≡ (required b k v t parent line).typ
  pub inst : i ≡ (required b k v t parent line).inst
