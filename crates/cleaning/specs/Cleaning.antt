-- What the functions of `cleaning` ask and leave, by the reading and the rows in the scratch. Assumes nothing.
use Rattle.std.specs.Prelude.{◌≡◌, true, cond, List, [], ◌∷◌, ℕ, ◌+◌, ◌-◌, ◌/◌, ◌%◌, ◌≤◌, ◌<◌, ltb, length, set}
use Rattle.rules.specs.Framing.{header_length}
use Rattle.rules.specs.Verdicts.{refused, check, refuses, first}
use Rattle.rules.specs.declared.Verdict.{Verdict}
use Rattle.rules.specs.declared.Reading.{Reading}
use Rattle.rules.specs.declared.Sent.{Sent}
use Rattle.emitting.specs.Emits.{HasRows, RowFit, sizes_in, valued, parts_in, put_rows}

-- a header of 8 or 12 octets, of a message of n octets
pub record Fronted (start n : ℕ) (m out : List ℕ) : Type 0 where
  pub least : 8 ≤ start
  pub longer : start ≤ n
  pub there : start ≤ length m
  pub room : start ≤ length out
  pub two : n < 65540

abbrev pub front_octets : List ℕ → ℕ → ℕ → List ℕ → List ℕ
front_octets m start n out = set (set (valued m 0 start out 0) 2 ((n - 4) / 256)) 3 ((n - 4) % 256)

-- the first `count` rows are there, and can be written
pub record Held (count : ℕ) (rows m : List ℕ) : Type 0 where
  pub has : HasRows rows count
  pub fits : (n : ℕ) → n < count → RowFit rows n count m true
  pub some : header_length m ≤ length m
  pub size : header_length m + sizes_in rows 0 count ≤ 4096
  pub octets : length (parts_in rows count m true 0 count) ≡ sizes_in rows 0 count

-- the length of the copy, and what it leaves
abbrev pub size : ℕ → List ℕ → List ℕ → ℕ
size count rows m = header_length m + sizes_in rows 0 count

abbrev pub copy_of : ℕ → List ℕ → List ℕ → List ℕ → List ℕ
copy_of count rows m out = put_rows rows count m true (front_octets m (header_length m) (size count rows m) out) (header_length m)

-- 13 if the buffer is shorter
abbrev pub room_check : ℕ → List ℕ → List ℕ → List ℕ → Verdict
room_check count rows m out = check (ltb (length out) (size count rows m)) (refused 13 0)

-- an answer, and a buffer, by a verdict
pub record By (v : Verdict) (count : ℕ) (rows m out : List ℕ) (answer : Sent) (out' : List ℕ) : Type 0 where
  pub verdict_is : answer.verdict ≡ v
  pub length_is : answer.length ≡ cond (refuses v) 0 (size count rows m)
  pub out_left : out' ≡ cond (refuses v) out (copy_of count rows m out)

abbrev pub Copied : ℕ → List ℕ → List ℕ → List ℕ → Sent → List ℕ → Type 0
Copied count rows m out answer out' = By (room_check count rows m out) count rows m out answer out'

-- by a reading: 1 to 9, 11 and 12 before 13
abbrev pub Settles : Reading → List ℕ → List ℕ → Type 0
Settles r rows m = r.refusal.code ≡ 0 → Held r.rows rows m

abbrev pub Settled : Reading → List ℕ → List ℕ → List ℕ → Sent → List ℕ → Type 0
Settled r rows m out answer out' = By (first (r.refusal ∷ r.short ∷ r.lack ∷ room_check r.rows rows m out ∷ [])) r.rows rows m out answer out'
