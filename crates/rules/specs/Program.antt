-- The judge program: what it writes for what stands on its standard input. Assumes nothing.
use Rattle.std.specs.Prelude.{◌≡◌, ℕ, ◌+◌, ◌/◌, ◌%◌, cond, List, [], ◌∷◌, ◌++◌, ltb, length, take, drop, get_or}
use Rattle.rules.specs.Sizes.{largest_message, most_rows, used}
use Rattle.rules.specs.Listings.{Book, book}
use Rattle.rules.specs.Standing.{Item}
use Rattle.rules.specs.Table.{row, kept_rows, laid}
use Rattle.rules.specs.Verdicts.{items, refuses, call_verdict}
use Rattle.rules.specs.Octets.{five}

-- the kind comes first, in one octet; without input it is 0 (rule 10.1)
abbrev pub input_kind : List ℕ → ℕ
input_kind input = get_or input 0 0

-- then the message, of which one octet more is read than a message may have
abbrev pub input_message : List ℕ → List ℕ
input_message input = take (largest_message + 1) (drop 1 input)

-- ---- text: a digit d is octet 48 + d

-- the digit at a power of ten that the number reaches
unfoldable pub digit_at : ℕ → ℕ → List ℕ
digit_at n power = cond (ltb n power) [] ((48 + n / power % 10) ∷ [])

-- a number below 100,000 in decimal
unfoldable pub decimal : ℕ → List ℕ
decimal n = digit_at n 10000 ++ (digit_at n 1000 ++ (digit_at n 100 ++ (digit_at n 10 ++ ((48 + n % 10) ∷ []))))

-- a blank before each number, and a newline
unfoldable pub blanked : List ℕ → List ℕ
blanked [] = 10 ∷ []
blanked (x ∷ xs) = 32 ∷ (decimal x ++ blanked xs)

-- numbers with single blanks on one line
unfoldable pub line : List ℕ → List ℕ
line [] = 10 ∷ []
line (x ∷ xs) = decimal x ++ blanked xs

unfoldable pub row_lines : List Item → List ℕ
row_lines [] = []
row_lines (i ∷ is) = line (row i) ++ row_lines is

-- `accept`
abbrev pub accept_word : List ℕ
accept_word = 97 ∷ 99 ∷ 99 ∷ 101 ∷ 112 ∷ 116 ∷ []

-- `refuse`
abbrev pub refuse_word : List ℕ
refuse_word = 114 ∷ 101 ∷ 102 ∷ 117 ∷ 115 ∷ 101 ∷ []

-- with a copy buffer and a table that are large enough for any message (rule 10.2): the counts and a line for each row where it is accepted, else the five
-- numbers
module _ (b : Book) (k : ℕ) (m : List ℕ) where
  unfoldable pub text_of : List ℕ
  text_of =
      cond (refuses (call_verdict b k m largest_message (used most_rows)))
      (refuse_word ++ blanked (five (call_verdict b k m largest_message (used most_rows))))
      (accept_word ++ (blanked (length (items b k m) ∷ kept_rows (items b k m) ∷ []) ++ row_lines (items b k m)))

-- How much of the text there is room for, and the buffer with that over its start.
pub record Written (input out : List ℕ) (answer : ℕ) (out' : List ℕ) : Type 0 where
  pub answers : answer ≡ length (take (length out) (text_of book (input_kind input) (input_message input)))
  pub out_left : out' ≡ laid (take (length out) (text_of book (input_kind input) (input_message input))) out
