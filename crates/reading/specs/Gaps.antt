-- How the code finds the first level that lacks a pair as it walks: the least over all levels as they end. A place with a pair is one number
-- that grows with the place; 0 is none. Assumes nothing.
use Rattle.std.specs.Prelude.{◌≡◌, ℕ, ◌+◌, ◌-◌, ◌/◌, ◌%◌, ◌<◌, cond, List, eqb, Option, MatchOption}
use Rattle.rules.specs.Listings.{Book}
use Rattle.rules.specs.Standing.{Item}
use Rattle.rules.specs.Taking.{Out, walk}
use Rattle.rules.specs.Verdicts.{accepted, refused_at, refuses}
use Rattle.rules.specs.declared.Verdict.{Verdict}
use Rattle.standings.specs.Faults.{lesser}
use Rattle.taking.specs.Lacks.{fault, lack_of}

-- the place and pair that a refusal names, or none
unfoldable pub packed : Verdict → ℕ
packed v = cond (refuses v) (fault v.place v.typ v.inst) 0

-- and back: the refusal of that number and cause that names it
unfoldable pub unpacked : ℕ → ℕ → ℕ → Verdict
unpacked n cause f = cond (eqb f 0) accepted (refused_at n cause ((f - 1) / 4096 % 65536) ((f - 1) / 16 % 256) ((f - 1) % 16))

-- the place and the pair that a number names, which 0 does not
abbrev pub Named : ℕ → Option (ℕ × ℕ × ℕ) → Type 0
Named f r = MatchOption r (f ≡ 0) (λ p. (0 < f) × (p.0 ≡ (f - 1) / 4096 % 65536) × (p.1 ≡ (f - 1) / 16 % 256) × (p.2 ≡ (f - 1) % 16))

-- rows so far, and the least gap so far
pub record Gap : Type 0 where
  pub rows : ℕ
  pub gap : ℕ

abbrev pub gap_one : Gap → Item → Gap
gap_one s i = record { rows = s.rows + 1; gap = s.gap }

module _ (b : Book) (k : ℕ) where
  abbrev pub gap_shut : Gap → ℕ → List ℕ → ℕ → Gap
  gap_shut s v m o = record { rows = s.rows; gap = lesser s.gap (lack_of b k v m o) }

  abbrev pub gap_number : Gap → ℕ
  gap_number s = s.rows

  -- level, marks, parent, level's place, place, octets, what was held before
  abbrev pub gap_walk : ℕ → List ℕ → ℕ → ℕ → ℕ → List ℕ → Gap → Out Gap
  gap_walk = walk b k Gap gap_one gap_shut gap_number
