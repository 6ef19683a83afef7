-- Numbers laid over the start of a lent run, and what the judge lays on acceptance. Assumes nothing.
--     laid-take, laid-drop, laid-length, laid_in, laid-past     the part that was laid, what follows it, and the length
--     judge_framed, enough-room, accepted-table                 what the judge accepts passes 1 to 9, has room, and is laid over what was lent
use mathlib.Core.Path.{◌≡◌, refl, sym, ◌∙◌}
use mathlib.Core.Bool.{false}
use mathlib.Core.List.{List}
use Prim.Native.Nat.{ℕ, ◌+◌, ◌-◌, ◌≤◌, ◌<◌}
use native.Mathlib.Omega.{arith}
use borrow.Author.Tests.{ltb-false}
use lib.Dec.{ltb}
use lib.ListN.{length, take, drop, get_or, length-append, length-drop, get_or-append}
use lib.Seq.{take-append_seam, drop-append_seam, get_or-drop, get_or-append-add}
use Rattle.rules.specs.Framing.{message_type}
use Rattle.rules.specs.Sizes.{used}
use Rattle.rules.specs.Listings.{Book}
use Rattle.rules.specs.Table.{table_of, laid}
use Rattle.rules.specs.Verdicts.{refused, refuses, first, items, table_checks, framing_checks, judge_checks, judge_verdict, judge_table}
use Rattle.rules.proofs.Checks.{AllPass, all_pass, both-pass, check-off}

pub laid-take : (xs lent : List ℕ) → take (length xs) (laid xs lent) ≡ xs
unfolding laid
laid-take xs lent = take-append_seam xs (drop (length xs) lent)

pub laid-drop : (xs lent : List ℕ) → drop (length xs) (laid xs lent) ≡ drop (length xs) lent
unfolding laid
laid-drop xs lent = drop-append_seam xs (drop (length xs) lent)

pub laid-length : (xs lent : List ℕ) → length xs ≤ length lent → length (laid xs lent) ≡ length lent
unfolding laid
laid-length xs lent h = simp (length-append, length-drop) (omega arith)

pub laid_in : (xs lent : List ℕ) (j : ℕ) → j < length xs → get_or (laid xs lent) j 0 ≡ get_or xs j 0
unfolding laid
laid_in xs lent j l = get_or-append xs (drop (length xs) lent) 0 j l

pub laid-past : (xs lent : List ℕ) (j : ℕ) → length xs ≤ j → get_or (laid xs lent) j 0 ≡ get_or lent j 0
unfolding laid
laid-past xs lent j l =
    let e : length xs + (j - length xs) ≡ j = omega arith in
    rw e at (get_or-append-add xs (drop (length xs) lent) (j - length xs) 0 ∙ get_or-drop (length xs) lent (j - length xs) 0)

module _ (b : Book) (k : ℕ) (m : List ℕ) where
  pub judge_framed : (room : ℕ) → refuses (judge_verdict b k m room) ≡ false → refuses (first (framing_checks b k m)) ≡ false
  unfolding judge_checks
  judge_framed room e = (both-pass (framing_checks b k m) (table_checks b k m room) e).0

  -- 10 to 12 pass
  pub table-passes : (room : ℕ) → refuses (judge_verdict b k m room) ≡ false → AllPass (table_checks b k m room)
  unfolding judge_checks
  table-passes room e = (all_pass (table_checks b k m room)).0 (both-pass (framing_checks b k m) (table_checks b k m room) e).1

  pub enough-room : (room : ℕ) → refuses (judge_verdict b k m room) ≡ false → used (length (items b k m)) ≤ room
  unfolding AllPass
  enough-room room e =
      ltb-false room (used (length (items b k m))) (sym (check-off (ltb room (used (length (items b k m)))) (refused 10 0) refl) ∙ (table-passes room e).0)

  pub accepted-table : (t : List ℕ) → refuses (judge_verdict b k m (length t)) ≡ false → judge_table b k m t ≡ laid (table_of (message_type m) k (items b k m)) t
  unfolding judge_table
  accepted-table t e = rw e
