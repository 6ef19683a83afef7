-- `line::of_level` lends the numbers from where the level begins to where the next does. Assumes nothing.
use mathlib.Core.Path.{◌≡◌, ap, ◌∙◌}
use mathlib.Core.List.{List}
use Prim.Native.Nat.{ℕ, ◌+◌, ◌-◌, ◌≤◌, ◌<◌}
use native.Mathlib.Omega.{arith}
use lib.ListN.{length, get_or, take, drop}
use Rattle.rules.specs.Listings.{book, listing}
use Rattle.listings.specs.Data.{entries_of, numbers_of}
use Rattle.listings.proofs.Levels.{depth, size, level-part, bounds}
use Rattle.taking.proofs.line.of_level.Goals as goal

size-is : {xs : List ℕ} → xs ≡ numbers_of book → length xs ≡ 145
size-is e = ap length e ∙ size

module _ {xs : List ℕ} {v : ℕ} (numbers : xs ≡ numbers_of book) (level : v < length book.levels) where
  within : (get_or xs v 0 ≤ get_or xs (v + 1) 0) × (get_or xs (v + 1) 0 ≤ length xs)
  within = rw numbers (bounds book v level)

  lines : take (get_or xs (v + 1) 0 - get_or xs v 0) (drop (get_or xs v 0) xs) ≡ entries_of (listing book v)
  lines = rw numbers (level-part book v level)

pub bounds-numbers-level : goal.bounds-numbers-level
bounds-numbers-level c = omega (arith, depth, c.requires)

pub bounds-numbers-level-2 : goal.bounds-numbers-level-2
bounds-numbers-level-2 c = omega (arith, depth, c.requires)

pub slice_bounds-result-count : goal.slice_bounds-result-count
slice_bounds-result-count c = rw c.from-level.ensures (within c.numbers-numbers.ensures c.requires).0

pub slice_bounds-result-start : goal.slice_bounds-result-start
slice_bounds-result-start c = rw c.from-level.ensures (within c.numbers-numbers.ensures c.requires).0

pub slice_bounds-result-end : goal.slice_bounds-result-end
slice_bounds-result-end c =
    let w : get_or c.numbers-numbers.result.now (c.from-level.result + 1) 0 ≤ length c.numbers-numbers.result.now = rw c.from-level.ensures (within c.numbers-numbers.ensures c.requires).1 in
    omega (arith, size-is c.numbers-numbers.ensures, w)

pub returns : goal.returns
returns c = rw c.from-level.ensures (lines c.numbers-numbers.ensures c.requires)
