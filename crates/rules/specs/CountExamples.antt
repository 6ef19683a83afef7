-- Examples of the count of rows: what is asked, and what has to come out. Assumes nothing.
use Rattle.std.specs.Prelude.{ℕ, List, [], ◌∷◌, ◌++◌, take, set}
use Rattle.rules.specs.Listings.{book}
use Rattle.rules.specs.Verdicts.{accepted, refused, refused_at}
use Rattle.rules.specs.Counting.{count_verdict, count_rows}
use Rattle.rules.specs.Examples.{message_d, message_e, message_g, message_k, head_f, first_f, second_f, report, empties, message_s10}
use Rattle.rules.specs.declared.Verdict.{Verdict}

-- the kind and the message; then the verdict and the rows
pub record Counting : Type 0 where
  pub kind : ℕ
  pub message : List ℕ
  pub verdict : Verdict
  pub rows : ℕ

pub record Told : Type 0 where
  pub verdict : Verdict
  pub rows : ℕ

abbrev pub counting : ℕ → List ℕ → Verdict → ℕ → Counting
counting k m v n = record { kind = k; message = m; verdict = v; rows = n }

unfoldable pub countings : List Counting
countings =
    counting 1 message_g accepted 2 ∷
    -- rows set aside count: K on kind 1 has 180/1 as its third
    counting 1 message_k accepted 3 ∷
    -- 11 and 12 stop nothing and are not told: F exchanged, and E, K on kind 3
    counting 1 (head_f ++ second_f ++ first_f) accepted 2 ∷
    counting 1 message_e accepted 0 ∷
    counting 3 message_k accepted 3 ∷
    -- a void group is one row; ten APNs are counted
    counting 1 (report (empties 11 [])) accepted 5 ∷
    counting 1 (report (empties 10 [])) accepted 15 ∷
    -- three levels deep
    counting 4 message_s10 accepted 11 ∷
    -- 1 to 9 and 21, with no rows: also where some were taken before a cut
    counting 4 (set message_s10 66 0x17) (refused_at 9 67 64 0 0) 0 ∷
    counting 1 message_s10 (refused 21 0) 0 ∷
    counting 5 message_g (refused 1 0) 0 ∷
    counting 1 [] (refused 2 0) 0 ∷
    counting 1 (take 12 message_d) (refused 6 67) 0 ∷
    -- as many as the quarter: an Echo Request with one empty element
    counting 1 (0x40 ∷ 1 ∷ 0 ∷ 8 ∷ 0 ∷ 0 ∷ 1 ∷ 0 ∷ 0xc8 ∷ 0 ∷ 0 ∷ 0 ∷ []) accepted 1 ∷
    []

-- lengths of messages, and the most rows that each has room for
abbrev pub lengths : List ℕ
lengths = 0 ∷ 7 ∷ 8 ∷ 11 ∷ 12 ∷ 15 ∷ 16 ∷ 4095 ∷ 4096 ∷ []

abbrev pub most : List ℕ
most = 0 ∷ 0 ∷ 0 ∷ 0 ∷ 1 ∷ 1 ∷ 2 ∷ 1021 ∷ 1022 ∷ []

-- what comes out, and what is written
abbrev pub count_outcome : Counting → Told
count_outcome x = record { verdict = count_verdict book x.kind x.message; rows = count_rows book x.kind x.message }

abbrev pub count_written : Counting → Told
count_written x = record { verdict = x.verdict; rows = x.rows }
