-- Verdicts: the first check that is true, in the order of rule 6.2. Assumes nothing.
use Rattle.std.specs.Prelude.{ℕ, suc, ◌+◌, Bool, false, cond, not, ◌&&◌, ◌||◌, List, [], ◌∷◌, ◌++◌, eqb, ltb, length}
use Rattle.std.specs.Bool.{beq}
use Rattle.rules.specs.Sizes.{largest_message, used}
use Rattle.rules.specs.Framing.{version, flag_p, flag_t, message_type, length_field, header_length}
use Rattle.rules.specs.Types.{among}
use Rattle.rules.specs.Listings.{Book, Line, is_message, message_of, listing}
use Rattle.rules.specs.Standing.{Item, kept, short}
use Rattle.rules.specs.Taking.{Out, cut, whole, taken, body_level, items_in}
use Rattle.rules.specs.Table.{table_of, laid}
use Rattle.rules.specs.declared.Verdict.{Verdict}

-- nothing is wrong, and nothing is named
abbrev pub accepted : Verdict
accepted = record { code = 0; cause = 0; place = 0; typ = 0; inst = 0 }

-- code and reply cause
abbrev pub refused : ℕ → ℕ → Verdict
refused n cause = record { code = n; cause = cause; place = 0; typ = 0; inst = 0 }

-- and what is named
abbrev pub refused_at : ℕ → ℕ → ℕ → ℕ → ℕ → Verdict
refused_at n cause place t i = record { code = n; cause = cause; place = place; typ = t; inst = i }

-- 67: Invalid length
abbrev pub invalid_length : ℕ
invalid_length = 67

-- 70: Mandatory IE missing
abbrev pub mandatory_missing : ℕ
mandatory_missing = 70

-- a check says its verdict where it applies
unfoldable pub check : Bool → Verdict → Verdict
check applies v = cond applies v accepted

abbrev pub refuses : Verdict → Bool
refuses v = ltb 0 v.code

-- the first that applies is given
unfoldable pub first : List Verdict → Verdict
first [] = accepted
first (v ∷ vs) = cond (refuses v) v (first vs)

-- ---- 9: the place of a cut

abbrev pub cut_check : Out (List Item) → Verdict
cut_check (cut q is) = refused_at 9 invalid_length q 0 0
cut_check (whole is) = accepted

-- ---- 11: an element of a mandatory line is short (a repeat has standing 2, and never is)

abbrev pub short_check : Item → Verdict
short_check i = check (i.must && eqb i.stand short) (refused_at 11 invalid_length i.place i.typ i.inst)

-- in row order
unfoldable pub short_checks : List Item → List Verdict
short_checks [] = []
short_checks (i ∷ is) = short_check i ∷ short_checks is

abbrev pub short_verdict : List Item → Verdict
short_verdict is = first (short_checks is)

-- ---- 12: a mandatory line of which its level keeps no row

-- i is a kept row of the pair t/j with the parent p
abbrev pub is_kept : ℕ → ℕ → ℕ → Item → Bool
is_kept p t j i = eqb i.parent p && eqb i.typ t && eqb i.inst j && eqb i.stand kept

unfoldable pub has_kept : ℕ → ℕ → ℕ → List Item → Bool
has_kept p t j [] = false
has_kept p t j (i ∷ is) = is_kept p t j i || has_kept p t j is

-- a line that is mandatory on kind k
abbrev pub is_mandatory : ℕ → Line → Bool
is_mandatory k l = l.must && among k l.kinds

-- the level of the listing ls, whose rows have the parent p and whose place is o, in listing order; `all` are the message's rows
unfoldable pub level_checks : ℕ → List Item → ℕ → ℕ → List Line → List Verdict
level_checks k all p o [] = []
level_checks k all p o (l ∷ ls) =
    check (is_mandatory k l && not (has_kept p l.typ l.inst all)) (refused_at 12 mandatory_missing o l.typ l.inst)
    ∷ level_checks k all p o ls

-- the inside of a kept group, whose row has number n
abbrev pub inside_checks : Book → ℕ → List Item → ℕ → Item → List Verdict
inside_checks b k all n i = cond (eqb i.inside 0) [] (level_checks k all n i.place (listing b i.inside))

-- the kept groups among the rows from number n + 1 on
unfoldable pub group_checks : Book → ℕ → List Item → ℕ → List Item → List Verdict
group_checks b k all n [] = []
group_checks b k all n (i ∷ is) = inside_checks b k all (suc n) i ++ group_checks b k all (suc n) is

-- the message first, then levels by their first octet, which is row order
unfoldable pub lack_checks : Book → ℕ → ℕ → List Item → List Verdict
lack_checks b k v is = level_checks k is 0 0 (listing b v) ++ group_checks b k is 0 is

abbrev pub lack_verdict : Book → ℕ → ℕ → List Item → Verdict
lack_verdict b k v is = first (lack_checks b k v is)

-- checks 1 to 8, and 21 after 7, of a message of n octets that begins with `head`: none of them reads past octet 3
abbrev pub opening_checks : Book → ℕ → List ℕ → ℕ → List Verdict
opening_checks b k head n =
    check (not (among k b.kinds)) (refused 1 0)
    ∷ check (eqb n 0 || ltb largest_message n) (refused 2 0)
    ∷ check (not (eqb (version head) 2)) (refused 3 0)
    ∷ check (ltb n (header_length head)) (refused 4 0)
    ∷ check (flag_p head) (refused 5 0)
    ∷ check (not (eqb (length_field head + 4) n)) (refused 6 invalid_length)
    ∷ check (not (is_message b (message_type head))) (refused 7 0)
    ∷ check (not (among k (message_of b (message_type head)).kinds)) (refused 21 0)
    ∷ check (not (beq (flag_t head) (message_of b (message_type head)).teid)) (refused 8 0)
    ∷ []

module _ (b : Book) (k : ℕ) (m : List ℕ) where
  -- checks 1 to 8
  unfoldable pub header_checks : List Verdict
  header_checks = opening_checks b k m (length m)

  -- checks 1 to 9
  unfoldable pub framing_checks : List Verdict
  framing_checks = header_checks ++ (cut_check (taken b k m) ∷ [])

  -- the rows: every element taken
  abbrev pub items : List Item
  items = items_in (taken b k m)

  -- 10: the table is shorter than the numbers used
  abbrev pub room_check : ℕ → Verdict
  room_check room = check (ltb room (used (length items))) (refused 10 0)

  -- 13: the copy buffer is shorter than the message
  abbrev pub copy_check : ℕ → Verdict
  copy_check room = check (ltb room (length m)) (refused 13 0)

  -- 10, 11 and 12, with a table of so many numbers
  abbrev pub table_checks : ℕ → List Verdict
  table_checks room = room_check room ∷ short_verdict items ∷ lack_verdict b k (body_level b m) items ∷ []

  -- ---- the one call, with a copy buffer of so many octets and a table of so many numbers

  -- 13 and 10 after framing: these leave all as it was lent
  unfoldable pub lent_checks : ℕ → ℕ → List Verdict
  lent_checks octets room = framing_checks ++ (copy_check octets ∷ room_check room ∷ [])

  -- then 11 and 12
  unfoldable pub call_checks : ℕ → ℕ → List Verdict
  call_checks octets room = framing_checks ++ (copy_check octets ∷ table_checks room)

  abbrev pub call_verdict : ℕ → ℕ → Verdict
  call_verdict octets room = first (call_checks octets room)

  -- the table is written only on acceptance
  unfoldable pub call_table : ℕ → List ℕ → List ℕ
  call_table octets table = cond (refuses (call_verdict octets (length table))) table (laid (table_of (message_type m) k items) table)

  -- ---- its two halves

  -- with no copy asked for: what it says, and leaves in the table, where the copy has room
  unfoldable pub judge_checks : ℕ → List Verdict
  judge_checks room = framing_checks ++ table_checks room

  abbrev pub judge_verdict : ℕ → Verdict
  judge_verdict room = first (judge_checks room)

  unfoldable pub judge_table : List ℕ → List ℕ
  judge_table table = cond (refuses (judge_verdict (length table))) table (laid (table_of (message_type m) k items) table)

  -- with no table asked for: up to 13
  unfoldable pub mask_checks : ℕ → List Verdict
  mask_checks room = framing_checks ++ (copy_check room ∷ [])

  abbrev pub mask_verdict : ℕ → Verdict
  mask_verdict room = first (mask_checks room)

-- the numbers of checks 1 to 9; those of the one call, in the order of its checks; and those without a copy
abbrev pub framing_numbers : List ℕ
framing_numbers = 1 ∷ 2 ∷ 3 ∷ 4 ∷ 5 ∷ 6 ∷ 7 ∷ 21 ∷ 8 ∷ 9 ∷ []

abbrev pub call_numbers : List ℕ
call_numbers = framing_numbers ++ (13 ∷ 10 ∷ 11 ∷ 12 ∷ [])

abbrev pub judge_numbers : List ℕ
judge_numbers = framing_numbers ++ (10 ∷ 11 ∷ 12 ∷ [])
