-- Functions that only look like a count of rows are turned down, each by an example. Assumes nothing.
use mathlib.Core.Path.{◌≡◌, refl, ap, ◌∙◌}
use mathlib.Core.List.{List, map}
use Prim.Native.Nat.{ℕ}
use native.Mathlib.Omega.{arith}
use lib.ListN.{length, get_or, set}
use Rattle.rules.specs.Framing.{version, flag_p, flag_t, message_type, length_field, header_length, head_of}
use Rattle.rules.specs.Types.{parteds, least_by_type, least_of}
use Rattle.rules.specs.Listings.{levels, messages, book, seek, seek_message, listing, message_of, is_message}
use Rattle.rules.specs.Frames.{seen, filled_by, frames_by, frames_of, tally, exceeds}
use Rattle.rules.specs.Standing.{is_short, mark_after, standing, marked, entered, item_of}
use Rattle.rules.specs.Taking.{run, walk, items_of, body_level, taken}
use Rattle.rules.specs.Table.{kept_rows}
use Rattle.rules.specs.Verdicts.{accepted, items}
use Rattle.rules.specs.Counting.{quarter_of}
use Rattle.rules.specs.Examples.{message_g, message_k, message_s10}
use Rattle.rules.specs.CountExamples.{Told, countings, count_outcome, count_written}
use Rattle.rules.proofs.Examples.{all-countings}
use Rattle.promises.specs.StandIns.{below, AskedCount, Counter, IsCounter}

abbrev nothing : Told
nothing = record { verdict = accepted; rows = 0 }

-- what comes out of example number n
example : (n : ℕ) → get_or (map count_outcome countings) n nothing ≡ get_or (map count_written countings) n nothing
example n = ap (λ (l : List Told). get_or l n nothing) all-countings

asked-g : AskedCount 1 message_g
unfolding below
asked-g = record { kind = refl; octets = refl }

asked-k : AskedCount 1 message_k
unfolding below
asked-k = record { kind = refl; octets = refl }

-- the innermost element one octet too long for its group
abbrev cut_s10 : List ℕ
cut_s10 = set message_s10 66 0x17

asked-cut : AskedCount 4 cut_s10
unfolding below
asked-cut = record { kind = refl; octets = refl }

kept-k : kept_rows (items book 1 message_k) ≡ 2
unfolding version flag_p flag_t message_type length_field header_length head_of parteds least_by_type least_of levels messages book seek seek_message listing message_of is_message is_short mark_after standing marked entered item_of run walk items_of body_level taken seen filled_by frames_by frames_of tally exceeds kept_rows
kept-k = refl

taken-cut : length (items book 4 cut_s10) ≡ 9
unfolding version flag_p flag_t message_type length_field header_length head_of parteds least_by_type least_of levels messages book seek seek_message listing message_of is_message is_short mark_after standing marked entered item_of run walk items_of body_level taken seen filled_by frames_by frames_of tally exceeds
taken-cut = refl

module _ (f : Counter) (j : IsCounter f) where
  rows_g : (f 1 message_g).rows ≡ 2
  unfolding countings
  rows_g = (j 1 message_g asked-g).rows_is ∙ ap (λ (x : Told). x.rows) (example 0)

  rows-k : (f 1 message_k).rows ≡ 3
  unfolding countings
  rows-k = (j 1 message_k asked-k).rows_is ∙ ap (λ (x : Told). x.rows) (example 1)

  rows_cut : (f 4 cut_s10).rows ≡ 0
  unfolding countings
  rows_cut = (j 4 cut_s10 asked-cut).rows_is ∙ ap (λ (x : Told). x.rows) (example 8)

  -- always the quarter: 3 of G
  pub counts-quarter : ((k : ℕ) (m : List ℕ) → AskedCount k m → (f k m).rows ≡ quarter_of (length m)) → ⊥
  counts-quarter g = omega (arith, rows_g, g 1 message_g asked-g)

  -- the kept rows: 2 of K
  pub counts-kept : ((k : ℕ) (m : List ℕ) → AskedCount k m → (f k m).rows ≡ kept_rows (items book k m)) → ⊥
  counts-kept g = omega (arith, rows-k, g 1 message_k asked-k, kept-k)

  -- nothing at all
  pub counts_zero : ((k : ℕ) (m : List ℕ) → AskedCount k m → (f k m).rows ≡ 0) → ⊥
  counts_zero g = omega (arith, rows_g, g 1 message_g asked-g)

  -- what stands before a cut
  pub counts-cut : ((k : ℕ) (m : List ℕ) → AskedCount k m → (f k m).rows ≡ length (items book k m)) → ⊥
  counts-cut g = omega (arith, rows_cut, g 4 cut_s10 asked-cut, taken-cut)
