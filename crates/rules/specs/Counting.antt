-- How many rows a message has, for a caller who is about to lend a table (rule 14). Assumes nothing.
use Rattle.std.specs.Prelude.{cond, List, ℕ, ◌-◌, ◌/◌, length}
use Rattle.rules.specs.Listings.{Book}
use Rattle.rules.specs.Verdicts.{refuses, first, framing_checks, items}
use Rattle.rules.specs.declared.Verdict.{Verdict}

module _ (b : Book) (k : ℕ) (m : List ℕ) where
  -- 1 to 9 alone: what is short or missing stops no count
  abbrev pub count_verdict : Verdict
  count_verdict = first (framing_checks b k m)

  -- the elements taken, whatever their standing; what a void group holds is not taken
  unfoldable pub count_rows : ℕ
  count_rows = cond (refuses count_verdict) 0 (length (items b k m))

-- the most rows that n octets have room for: a header has eight, and an element four
abbrev pub quarter_of : ℕ → ℕ
quarter_of n = (n - 8) / 4
