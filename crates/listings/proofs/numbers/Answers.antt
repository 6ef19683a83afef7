-- `numbers` meets its contract: the constant is the listings as numbers, computed. Assumes nothing.
use mathlib.Core.Path.{refl}
use Rattle.rules.specs.Listings.{levels, book}
use Rattle.listings.specs.Data.{skipped, entry_of, entries_of, joined, begins, numbers_of}
use Rattle.listings.proofs.numbers.Goals as goal

pub returns : goal.returns
unfolding book levels skipped entry_of entries_of joined begins numbers_of
returns c = refl
