-- A row has one standing, since each case excludes the others; so each of the five is given exactly where its own words hold. Assumes nothing.
use mathlib.Core.Path.{◌≡◌, refl}
use mathlib.Core.Logic.{◌↔◌}
use mathlib.Core.Bool.{Bool, true, false, cond}
use mathlib.Core.List.{List, [], ◌∷◌}
use Prim.Native.Nat.{ℕ, zero, suc, ◌<◌}
use native.Mathlib.Omega.{arith}
use lib.ListN.{length, get_or}
use Rattle.rules.specs.Listings.{Book, Line, empty_line, lists, seek}
use Rattle.rules.specs.Standing.{kept, unexpected, repeated, short, void}
use Rattle.rules.specs.Values.{row_type, row_instance, row_standing}
use Rattle.rules.proofs.Lines.{seek-lists}
use Rattle.tables.specs.Words.{rows}
use Rattle.tables.specs.Standings.{its_listing, its_number, Listed, Again, Below, Over, StandsAs, is_unexpected, is_repeated, is-short, is_void, is-kept}
use Rattle.tables.specs.IsTable.{IsRows}

-- a row has one standing
pub stands-once : (b : Book) (k : ℕ) (m t : List ℕ) (r : ℕ) {s s' : ℕ} → StandsAs b k m t r s → StandsAs b k m t r s' → s ≡ s'
stands-once b k m t r (is_unexpected a) (is_unexpected a') = refl
stands-once b k m t r (is_unexpected a) (is_repeated l g) = absurd (a l)
stands-once b k m t r (is_unexpected a) (is-short l g c) = absurd (a l)
stands-once b k m t r (is_unexpected a) (is_void l g c o) = absurd (a l)
stands-once b k m t r (is_unexpected a) (is-kept l g c o) = absurd (a l)
stands-once b k m t r (is_repeated l g) (is_unexpected a) = absurd (a l)
stands-once b k m t r (is_repeated l g) (is_repeated l' g') = refl
stands-once b k m t r (is_repeated l g) (is-short l' g' c) = absurd (g' g)
stands-once b k m t r (is_repeated l g) (is_void l' g' c o) = absurd (g' g)
stands-once b k m t r (is_repeated l g) (is-kept l' g' c o) = absurd (g' g)
stands-once b k m t r (is-short l g c) (is_unexpected a) = absurd (a l)
stands-once b k m t r (is-short l g c) (is_repeated l' g') = absurd (g g')
stands-once b k m t r (is-short l g c) (is-short l' g' c') = refl
stands-once b k m t r (is-short l g c) (is_void l' g' c' o) = absurd (c' c)
stands-once b k m t r (is-short l g c) (is-kept l' g' c' o) = absurd (c' c)
stands-once b k m t r (is_void l g c o) (is_unexpected a) = absurd (a l)
stands-once b k m t r (is_void l g c o) (is_repeated l' g') = absurd (g g')
stands-once b k m t r (is_void l g c o) (is-short l' g' c') = absurd (c c')
stands-once b k m t r (is_void l g c o) (is_void l' g' c' o') = refl
stands-once b k m t r (is_void l g c o) (is-kept l' g' c' o') = absurd (o' o)
stands-once b k m t r (is-kept l g c o) (is_unexpected a) = absurd (a l)
stands-once b k m t r (is-kept l g c o) (is_repeated l' g') = absurd (g g')
stands-once b k m t r (is-kept l g c o) (is-short l' g' c') = absurd (c c')
stands-once b k m t r (is-kept l g c o) (is_void l' g' c' o') = absurd (o o')
stands-once b k m t r (is-kept l g c o) (is-kept l' g' c' o') = refl

-- what a standing says; a number that is none of the five is none
says : (b : Book) (k : ℕ) (m t : List ℕ) (r s : ℕ) → StandsAs b k m t r s
    → (s ≡ unexpected → Listed b k m t r → ⊥)
    × (s ≡ repeated → Listed b k m t r × Again b k m t r)
    × (s ≡ short → Listed b k m t r × (Again b k m t r → ⊥) × Below b k m t r)
    × (s ≡ kept → Listed b k m t r × (Again b k m t r → ⊥) × (Below b k m t r → ⊥) × (Over b k m t r → ⊥))
    × (s ≡ void → Listed b k m t r × (Again b k m t r → ⊥) × (Below b k m t r → ⊥) × Over b k m t r)
says b k m t r s (is_unexpected a) = (λ e. a, λ e. absurd (omega arith), λ e. absurd (omega arith), λ e. absurd (omega arith), λ e. absurd (omega arith))
says b k m t r s (is_repeated l g) = (λ e. absurd (omega arith), λ e. (l, g), λ e. absurd (omega arith), λ e. absurd (omega arith), λ e. absurd (omega arith))
says b k m t r s (is-short l g c) = (λ e. absurd (omega arith), λ e. absurd (omega arith), λ e. (l, g, c), λ e. absurd (omega arith), λ e. absurd (omega arith))
says b k m t r s (is-kept l g c o) = (λ e. absurd (omega arith), λ e. absurd (omega arith), λ e. absurd (omega arith), λ e. (l, g, c, o), λ e. absurd (omega arith))
says b k m t r s (is_void l g c o) = (λ e. absurd (omega arith), λ e. absurd (omega arith), λ e. absurd (omega arith), λ e. absurd (omega arith), λ e. (l, g, c, o))

pub kept-listed : (b : Book) (k : ℕ) (m t : List ℕ) (r : ℕ) {s : ℕ} → StandsAs b k m t r s → s ≡ kept → Listed b k m t r
kept-listed b k m t r {s} a e = ((says b k m t r s a).3 e).0

module _ (b : Book) (k : ℕ) (m t : List ℕ) (x : IsRows b k m t) (r : ℕ) (l : r < rows t) where
  is : {s : ℕ} → StandsAs b k m t r s → row_standing t r ≡ s
  is c = stands-once b k m t r (x.standing r l) c

  pub unexpected_iff : (row_standing t r ≡ unexpected) ↔ (Listed b k m t r → ⊥)
  unexpected_iff = ((says b k m t r (row_standing t r) (x.standing r l)).0, λ a. is (is_unexpected a))

  pub repeated_iff : (row_standing t r ≡ repeated) ↔ (Listed b k m t r × Again b k m t r)
  repeated_iff = ((says b k m t r (row_standing t r) (x.standing r l)).1, λ a. is (is_repeated a.0 a.1))

  pub short_iff : (row_standing t r ≡ short) ↔ (Listed b k m t r × (Again b k m t r → ⊥) × Below b k m t r)
  short_iff = ((says b k m t r (row_standing t r) (x.standing r l)).2, λ a. is (is-short a.0 a.1 a.2))

  pub void_iff : (row_standing t r ≡ void) ↔ (Listed b k m t r × (Again b k m t r → ⊥) × (Below b k m t r → ⊥) × Over b k m t r)
  void_iff = ((says b k m t r (row_standing t r) (x.standing r l)).4, λ a. is (is_void a.0 a.1 a.2 a.3))

  pub kept_iff : (row_standing t r ≡ kept) ↔ (Listed b k m t r × (Again b k m t r → ⊥) × (Below b k m t r → ⊥) × (Over b k m t r → ⊥))
  kept_iff = ((says b k m t r (row_standing t r) (x.standing r l)).3, λ a. is (is-kept a.0 a.1 a.2 a.3))

-- ---- a pair is listed where some line lists it

seek-below : (ls : List Line) (k y i j : ℕ) → j < length ls → lists k y i (get_or ls j empty_line) ≡ true → seek ls k y i < length ls
unfolding seek
seek-below [] k y i j l e = absurd (omega arith)
seek-below (a ∷ ls) k y i zero l e = rw e (omega arith)
seek-below (a ∷ ls) k y i (suc j) l e = go (lists k y i a) (seek-below ls k y i j (omega arith) e)
  where
    go : (c : Bool) → seek ls k y i < length ls → cond c 0 (suc (seek ls k y i)) < suc (length ls)
    go true h = omega arith
    go false h = omega arith

pub listed_iff : (b : Book) (k : ℕ) (m t : List ℕ) (r : ℕ)
    → Listed b k m t r ↔ ((j : ℕ) × (j < length (its_listing b k m t r)) × (lists k (row_type t r) (row_instance t r) (get_or (its_listing b k m t r) j empty_line) ≡ true))
listed_iff b k m t r =
    (λ l. (its_number b k m t r, l, seek-lists (its_listing b k m t r) k (row_type t r) (row_instance t r) l), λ x. seek-below (its_listing b k m t r) k (row_type t r) (row_instance t r) x.0 x.1 x.2)
