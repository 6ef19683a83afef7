-- The walk of the code, over what it makes of the elements, and the parts of its contracts. Assumes nothing.
use Rattle.std.specs.Prelude.{◌≡◌, ℕ, ◌+◌, ◌≤◌, ◌<◌, List, ⊤, Result, Ok, Err, IfOk}
use Rattle.rules.specs.Sizes.{largest_message}
use Rattle.rules.specs.Listings.{book}
use Rattle.rules.specs.Taking.{Out, cut, whole, walk, inside}
use Rattle.rules.specs.Verdicts.{accepted, invalid_length, mandatory_missing}
use Rattle.rules.specs.declared.Reading.{Reading}
use Rattle.taking.specs.Lent.{AtLevel}
use Rattle.taking.specs.Lacks.{lack_of}
use Rattle.taking.specs.Held.{Held, held, tallied, one, closed, Few}
use Rattle.taking.specs.declared.Counts.{Counts}
use Rattle.taking.specs.declared.Tally.{Tally}
use Rattle.reading.specs.Gaps.{unpacked}
use Rattle.answers.specs.declared.Refusal.{Refusal}
use Rattle.answers.specs.declared.Refusal.TheVariants.{Cut}
use Rattle.answers.specs.Refusals.{verdict_of}
use Rattle.rules.specs.Answers.{refused_reading}

-- what a whole walk's counts say
unfoldable pub whole_reading : Counts → Reading
whole_reading c = record { refusal = accepted; rows = c.rows; kept = c.kept; short = unpacked 11 invalid_length c.short; lack = unpacked 12 mandatory_missing c.gap }

abbrev pub number : Held → ℕ
number s = s.counts.rows

module _ (k : ℕ) where
  unfoldable pub shut : Held → ℕ → List ℕ → ℕ → Held
  shut s v m o = held (closed s.counts (lack_of book k v m o)) s.rows

  -- level, marks, parent, the level's place, place, octets, and what is held before
  abbrev pub scan : ℕ → List ℕ → ℕ → ℕ → ℕ → List ℕ → Held → Out Held
  scan = walk book k Held one shut number

  abbrev pub scan_in : ℕ → ℕ → List ℕ → Held → Out Held
  scan_in = inside book k Held one shut number

-- what refuses a cut run
abbrev pub walk_of : Out Held → Result ⊤ Refusal
walk_of (cut q s) = Err (Cut q)
walk_of (whole s) = Ok tt

abbrev pub reading_by : Result Counts Refusal → Reading
reading_by (Err r) = refused_reading (verdict_of r)
reading_by (Ok c) = whole_reading c

abbrev pub held_of : Out Held → Held
held_of (cut q s) = s
held_of (whole s) = s

-- ---- the parts of contracts

-- the answer r and what the tally t' holds are those of the outcome o, of a run that ends at n; its table stays the lent one of t
pub record Ran (r : Result ⊤ Refusal) (t t' : Tally) (n : ℕ) (o : Out Held) : Type 0 where
  pub same : t'.rows.ghost_name ≡ t.rows.ghost_name
  pub answer : r ≡ walk_of o
  pub holds : tallied t' ≡ held_of o
  pub few : IfOk r (λ _. Few t'.counts n)

-- what a run asks: a kind that there is, a level of the listings, and that it ends within the largest message
pub record Fine (k v o p at n : ℕ) (c : Counts) : Type 0 where
  pub there : AtLevel k v
  pub home : o ≤ largest_message
  pub parent : p ≤ largest_message
  pub few : Few c at
  pub ends : at + n ≤ largest_message

-- what entering a group asks: it has an inside
pub record Enters (k v o n : ℕ) (c : Counts) : Type 0 where
  pub fine : Fine k v o 0 (o + 4) n c
  pub some : 0 < v
