-- The examples one by one, for whoever cites one of them. Assumes nothing.
use mathlib.Core.Path.{◌≡◌, ap}
use mathlib.Core.List.{List, [], ◌∷◌, ◌++◌, map}
use Prim.Native.Nat.{ℕ}
use lib.ListN.{length, get_or}
use Rattle.rules.specs.Listings.{book}
use Rattle.rules.specs.Verdicts.{accepted, call_verdict, call_table}
use Rattle.rules.specs.Covered.{call_copy}
use Rattle.rules.specs.Examples.{Outcome, examples, rooms, voids, outcome, written, head_f, first_f, second_f, head_g, report_of, empties}
use Rattle.rules.proofs.Examples.{a-to-m, all-rooms, all-voids}

abbrev pub nothing : Outcome
nothing = record { verdict = accepted; table = []; copy = [] }

-- what is written of example number n of the table, counted from 0
abbrev pub written_of : ℕ → Outcome
written_of n = get_or (map written examples) n nothing

-- and what comes out of it
pub example : (n : ℕ) → get_or (map outcome examples) n nothing ≡ written_of n
example n = ap (λ (l : List Outcome). get_or l n nothing) a-to-m

-- of those of CR 9
abbrev pub written_room : ℕ → Outcome
written_room n = get_or (map written rooms) n nothing

pub example-room : (n : ℕ) → get_or (map outcome rooms) n nothing ≡ written_room n
example-room n = ap (λ (l : List Outcome). get_or l n nothing) all-rooms

-- and of those of CR 8: the first is a report with eleven elements 71/0
abbrev pub written_void : ℕ → Outcome
written_void n = get_or (map written voids) n nothing

pub example-void : (n : ℕ) → get_or (map outcome voids) n nothing ≡ written_void n
example-void n = ap (λ (l : List Outcome). get_or l n nothing) all-voids

-- what comes out of the call on kind k, the message m, and a table and a copy lent
abbrev pub called : ℕ → List ℕ → List ℕ → List ℕ → Outcome
called k m t c = record {
  verdict = call_verdict book k m (length c) (length t);
  table = call_table book k m (length c) t;
  copy = call_copy book k m (length t) c;
}

abbrev pub message_i : List ℕ
message_i = head_g 0x0C ++ (0x5D ∷ 0x00 ∷ 0x00 ∷ 0x00 ∷ [])

abbrev pub message_j : List ℕ
message_j = head_g 0x1A ++ (0x5D ∷ 0x00 ∷ 0x05 ∷ 0x00 ∷ 0x49 ∷ 0x00 ∷ 0x0A ∷ 0x00 ∷ 0x05 ∷ 0x5D ∷ 0x00 ∷ 0x05 ∷ 0x00 ∷ 0x49 ∷ 0x00 ∷ 0x01 ∷ 0x00 ∷ 0x06 ∷ [])

-- F with its two elements exchanged
abbrev pub message_short : List ℕ
message_short = head_f ++ second_f ++ first_f

abbrev pub message_void : List ℕ
message_void = report_of 0x4E 0x2D (empties 10 (0x47 ∷ 0x00 ∷ 0x01 ∷ 0x00 ∷ 0x61 ∷ []))
