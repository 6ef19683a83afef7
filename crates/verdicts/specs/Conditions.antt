-- The table of verdicts of rule 6.2, line by line: when each number is given, and what is then said. Assumes nothing.
use Rattle.std.specs.Prelude.{◌≡◌, ◌⊎◌, ◌≢◌, true, false, List, [], ◌∷◌, ◌++◌, ℕ, suc, ◌+◌, ◌<◌, length, drop, get_or}
use Rattle.rules.specs.Sizes.{largest_message, used}
use Rattle.rules.specs.Framing.{version, flag_p, flag_t, message_type, length_field, header_length}
use Rattle.rules.specs.Types.{among}
use Rattle.rules.specs.Listings.{Book, message_of, is_message}
use Rattle.rules.specs.Standing.{fresh}
use Rattle.rules.specs.Taking.{body_level}
use Rattle.rules.specs.Met.{CutAt}
use Rattle.rules.specs.Table.{table_of}
use Rattle.rules.specs.Values.{row_type, row_instance}
use Rattle.rules.specs.Verdicts.{refused, refused_at, invalid_length, mandatory_missing, items}
use Rattle.rules.specs.declared.Verdict.{Verdict}
use Rattle.tables.specs.Levels.{level_place, required}
use Rattle.verdicts.specs.Missing.{Lacks, FirstLack, ShortRow, FirstShort}

-- condition j, counted from 0, holds and none before it does
pub record OwnWords (conditions : List (Type 0)) (j : ℕ) : Type 0 where
  pub holds : get_or conditions j ⊥
  pub none_before : (i : ℕ) → i < j → get_or conditions i ⊥ → ⊥

module _ (b : Book) (k : ℕ) (m : List ℕ) where
  -- the body is cut at the place q
  abbrev pub CutIn : ℕ → Type 0
  CutIn q = CutAt b k (body_level b m) fresh 0 (header_length m) (drop (header_length m) m) q

  -- the numbers of the rows
  abbrev pub numbers : List ℕ
  numbers = table_of (message_type m) k (items b k m)

  -- 1 to 9
  abbrev pub framing_conditions : List (Type 0)
  framing_conditions =
      (among k b.kinds ≡ false)
      ∷ ((length m ≡ 0) ⊎ (largest_message < length m))
      ∷ (version m ≢ 2)
      ∷ (length m < header_length m)
      ∷ (flag_p m ≡ true)
      ∷ (length_field m + 4 ≢ length m)
      ∷ (is_message b (message_type m) ≡ false)
      ∷ (among k (message_of b (message_type m)).kinds ≡ false)
      ∷ (flag_t m ≢ (message_of b (message_type m)).teid)
      ∷ ((q : ℕ) × CutIn q)
      ∷ []

  -- 10 to 12, with a table of so many numbers
  abbrev pub table_conditions : ℕ → List (Type 0)
  table_conditions room =
      (room < used (length (items b k m)))
      ∷ ((r : ℕ) × ShortRow b k (body_level b m) numbers r)
      ∷ ((p : ℕ) × (j : ℕ) × Lacks b k (body_level b m) numbers p j)
      ∷ []

  -- 13, with a copy buffer of so many octets
  abbrev pub copy_conditions : ℕ → List (Type 0)
  copy_conditions room = (room < length m) ∷ []

  -- with no copy asked for
  abbrev pub judge_conditions : ℕ → List (Type 0)
  judge_conditions room = framing_conditions ++ table_conditions room

  -- of the one call: 13 stands between 9 and 10
  abbrev pub call_conditions : ℕ → ℕ → List (Type 0)
  call_conditions octets room = framing_conditions ++ (copy_conditions octets ++ table_conditions room)

  -- what each number comes with: the reply cause, and what is named
  abbrev pub framing_words : List (Verdict → Type 0)
  framing_words =
      (λ v. v ≡ refused 1 0)
      ∷ (λ v. v ≡ refused 2 0)
      ∷ (λ v. v ≡ refused 3 0)
      ∷ (λ v. v ≡ refused 4 0)
      ∷ (λ v. v ≡ refused 5 0)
      ∷ (λ v. v ≡ refused 6 invalid_length)
      ∷ (λ v. v ≡ refused 7 0)
      ∷ (λ v. v ≡ refused 21 0)
      ∷ (λ v. v ≡ refused 8 0)
      ∷ (λ v. (q : ℕ) × CutIn q × (v ≡ refused_at 9 invalid_length q 0 0))
      ∷ []

  abbrev pub table_words : List (Verdict → Type 0)
  table_words =
      (λ v. v ≡ refused 10 0)
      ∷ (λ v. (r : ℕ) × FirstShort b k (body_level b m) numbers r
      × (v ≡ refused_at 11 invalid_length (level_place b k (body_level b m) numbers (suc r)) (row_type numbers r) (row_instance numbers r)))
      ∷ (λ v. (p : ℕ) × (j : ℕ) × FirstLack b k (body_level b m) numbers p j
      × (v ≡ refused_at 12 mandatory_missing (level_place b k (body_level b m) numbers p) (required b k (body_level b m) numbers p j).typ (required b k (body_level b m) numbers p j).inst))
      ∷ []

  abbrev pub copy_words : List (Verdict → Type 0)
  copy_words = (λ v. v ≡ refused 13 0) ∷ []

  abbrev pub call_words : List (Verdict → Type 0)
  call_words = framing_words ++ (copy_words ++ table_words)

-- a copy is made on acceptance, and where 11 or 12 refuse
abbrev pub copying_numbers : List ℕ
copying_numbers = 0 ∷ 11 ∷ 12 ∷ []

abbrev pub Copies : Verdict → Type 0
Copies v = among v.code copying_numbers ≡ true
