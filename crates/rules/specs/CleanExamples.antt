-- Examples of the cleaned copy: what is asked, and what has to come out. Assumes nothing.
use Rattle.std.specs.Prelude.{ℕ, List, [], ◌∷◌, ◌++◌, length, take, drop, set, replicate}
use Rattle.rules.specs.Listings.{book}
use Rattle.rules.specs.Verdicts.{accepted, refused, refused_at}
use Rattle.rules.specs.Cleaned.{clean_verdict, clean_length, clean_copy}
use Rattle.rules.specs.Examples.{message_g, head_g, message_k, head_f, first_f, second_f, report, empties}
use Rattle.rules.specs.declared.Verdict.{Verdict}

-- the kind, the message and how many sevens are lent; then the verdict, the length, and what stands before the sevens that stay
pub record Cleaning : Type 0 where
  pub kind : ℕ
  pub message : List ℕ
  pub room : ℕ
  pub verdict : Verdict
  pub length_is : ℕ
  pub copy : List ℕ

pub record Left : Type 0 where
  pub verdict : Verdict
  pub length_is : ℕ
  pub left : List ℕ

abbrev pub cleaning : ℕ → List ℕ → ℕ → Verdict → ℕ → List ℕ → Cleaning
cleaning k m room v n copy = record { kind = k; message = m; room = room; verdict = v; length_is = n; copy = copy }

-- G whose group has one element more inside, of a type that it does not list; spare bits are set in it, in the group's header and in the message's first octet
abbrev pub message_inner : List ℕ
message_inner =
    set (head_g 0x16) 0 0x4F
    ++ (0x5D ∷ 0x00 ∷ 0x0A ∷ 0xA0 ∷ 0xC8 ∷ 0x00 ∷ 0x01 ∷ 0x70 ∷ 0x09 ∷ 0x49 ∷ 0x00 ∷ 0x01 ∷ 0x00 ∷ 0x05 ∷ [])

-- its cleaned copy: G with those spare bits
abbrev pub clean_inner : List ℕ
clean_inner = set (head_g 0x11) 0 0x4F ++ (0x5D ∷ 0x00 ∷ 0x05 ∷ 0xA0 ∷ 0x49 ∷ 0x00 ∷ 0x01 ∷ 0x00 ∷ 0x05 ∷ [])

unfoldable pub cleanings : List Cleaning
cleanings =
    -- K on kind 1: 180/1 is set aside, and G is left; with a buffer of just so many octets, and of one less: 13
    cleaning 1 message_k 25 accepted 21 message_g ∷
    cleaning 1 message_k 21 accepted 21 message_g ∷
    cleaning 1 message_k 20 (refused 13 0) 0 [] ∷
    -- inside a group: both lengths are put right
    cleaning 1 message_inner 25 accepted 21 clean_inner ∷
    -- F: the repeat goes; the two exchanged, 11 comes before 13
    cleaning 1 (head_f ++ first_f ++ second_f) 13 accepted 13 (set head_f 3 0x09 ++ first_f) ∷
    cleaning 1 (head_f ++ second_f ++ first_f) 0 (refused_at 11 67 8 3 0) 0 [] ∷
    -- G has nothing set aside
    cleaning 1 message_g 22 accepted 21 message_g ∷
    -- a void report goes whole
    cleaning 1 (report (empties 11 [])) 34 accepted 33 (set (take 33 (report [])) 3 0x1D) ∷
    -- K on kind 3: 12, as the judge says; on kind 4, which does not take it: 21; on no kind: 1
    cleaning 3 message_k 23 (refused_at 12 70 21 183 0) 0 [] ∷
    cleaning 4 message_k 23 (refused 21 0) 0 [] ∷
    cleaning 5 message_k 23 (refused 1 0) 0 [] ∷
    []

abbrev pub lent_to : Cleaning → List ℕ
lent_to x = replicate x.room 7

-- what comes out, and what is written
abbrev pub clean_outcome : Cleaning → Left
clean_outcome x = record {
  verdict = clean_verdict book x.kind x.message (length (lent_to x));
  length_is = clean_length book x.kind x.message (length (lent_to x));
  left = clean_copy book x.kind x.message (lent_to x);
}

abbrev pub clean_written : Cleaning → Left
clean_written x = record { verdict = x.verdict; length_is = x.length_is; left = x.copy ++ drop (length x.copy) (lent_to x) }
