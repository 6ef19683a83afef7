-- The listings as one table of numbers: where each level begins in it, and after the last its end; then a number for each line, level after
-- level. Assumes nothing.
use Rattle.std.specs.Prelude.{Bool, cond, not, ◌&&◌, ◌||◌, List, [], ◌∷◌, ◌++◌, ℕ, suc, ◌+◌, ◌*◌, ◌/◌, ◌%◌, eqb, length}
use Rattle.rules.specs.Types.{among}
use Rattle.rules.specs.Listings.{Line, Book}
use Rattle.rules.specs.Sound.{is_free}

-- ---- a line as one number
--
--     13 bits   the pair: its type, and its instance in five bits, which hold that of every instance too
--      1 bit    mandatory          1 bit    may repeat          1 bit each    listed on kind 1, 2, 3, 4
--      5 bits   how many lines stand between it and the next mandatory line
--      7 bits   the level of its inside          1 bit    what that holds has limits

abbrev pub key_of : ℕ → ℕ → ℕ
key_of t i = t * 32 + i

abbrev pub bit : Bool → ℕ
bit b = cond b 1 0

-- the lines before the first mandatory one, all of them if none is
unfoldable pub skipped : List Line → ℕ
skipped [] = 0
skipped (l ∷ ls) = cond l.must 0 (suc (skipped ls))

unfoldable pub entry_of : Line → ℕ → ℕ
entry_of l skip =
    key_of l.typ l.inst
    + 8192 * bit l.must
    + 16384 * bit l.many
    + 32768 * bit (among 1 l.kinds)
    + 65536 * bit (among 2 l.kinds)
    + 131072 * bit (among 3 l.kinds)
    + 262144 * bit (among 4 l.kinds)
    + 524288 * skip
    + 16777216 * l.inside
    + 2147483648 * bit (not (is_free l))

-- the numbers of a level's lines
unfoldable pub entries_of : List Line → List ℕ
entries_of [] = []
entries_of (l ∷ ls) = entry_of l (skipped ls) ∷ entries_of ls

-- ---- how such a number is read

abbrev pub key_of_entry : ℕ → ℕ
key_of_entry x = x % 8192

abbrev pub must_in : ℕ → Bool
must_in x = eqb (x / 8192 % 2) 1

abbrev pub many_in : ℕ → Bool
many_in x = eqb (x / 16384 % 2) 1

-- on kind 1, on kind 2, on kind 3, and on any other
unfoldable pub on_of_entry : ℕ → ℕ → Bool
on_of_entry k x = cond (eqb k 1) (eqb (x / 32768 % 2) 1) (cond (eqb k 2) (eqb (x / 65536 % 2) 1) (cond (eqb k 3) (eqb (x / 131072 % 2) 1) (eqb (x / 262144 % 2) 1)))

abbrev pub skip_in : ℕ → ℕ
skip_in x = x / 524288 % 32

abbrev pub inside_in : ℕ → ℕ
inside_in x = x / 16777216 % 128

abbrev pub limited_in : ℕ → Bool
limited_in x = eqb (x / 2147483648 % 2) 1

-- it lists, on kind k, the pair of the key `own` or every instance by the key `any`
unfoldable pub lists_in : ℕ → ℕ → ℕ → ℕ → Bool
lists_in k own any x = (eqb (key_of_entry x) own || eqb (key_of_entry x) any) && on_of_entry k x

-- ---- all levels in one row

unfoldable pub joined : List (List Line) → List ℕ
joined [] = []
joined (ls ∷ more) = entries_of ls ++ joined more

-- where each level begins, counted from n, and the end
unfoldable pub begins : ℕ → List (List Line) → List ℕ
begins n [] = n ∷ []
begins n (ls ∷ more) = n ∷ begins (n + length ls) more

unfoldable pub numbers_of : Book → List ℕ
numbers_of b = begins (suc (length b.levels)) b.levels ++ joined b.levels
