-- Messages that differ in covered octets at most, and what the desk is answered of a message. Assumes nothing.
use Rattle.std.specs.Prelude.{◌≡◌, false, List, ℕ, ◌<◌, length, take, drop}
use Rattle.std.specs.Borrow.{Bor}
use Rattle.rules.specs.Framing.{octet}
use Rattle.rules.specs.Listings.{Book}
use Rattle.rules.specs.Verdicts.{call_table}
use Rattle.rules.specs.Covered.{covered, call_copy}
use Rattle.rules.specs.Values.{desk_span}
use Rattle.rules.specs.Answers.{Desk}
use Rattle.rules.specs.declared.Span.{Span}

-- n has the length of m, and its octets wherever m is not covered
pub record SameOpen (b : Book) (k : ℕ) (m n : List ℕ) : Type 0 where
  pub size : length n ≡ length m
  pub octets : (j : ℕ) → j < length m → covered b k m j ≡ false → octet m j ≡ octet n j

module _ (b : Book) (k : ℕ) (copy table : List ℕ) (row : ℕ) where
  -- where the desk's lookup finds the row's value, with the copy and the table that the one call leaves of m in these buffers
  abbrev pub desk_place : List ℕ → Span
  desk_place m = desk_span k row m (length (call_copy b k m (length table) copy)) (call_table b k m (length copy) table)

  -- and the octets that it answers without the right
  abbrev pub desk_octets : List ℕ → List ℕ
  desk_octets m = take (desk_place m).len (drop (desk_place m).start (call_copy b k m (length table) copy))

  -- the same in the words of the lookup's contract
  pub record AtDesk (message copied part : Bor (List ℕ)) : Type 0 where
    pub copied_is : copied.now ≡ call_copy b k message.now (length table) copy
    pub answered : Desk k row false message copied (call_table b k message.now (length copy) table) part
