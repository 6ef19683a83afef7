-- What is made of the elements as their octets come. A group that may turn out to be void is entered as though it were kept, and what was made of its inside is
-- taken back at its end if it held too much: the counts go back, the rows of the inside are zero again, and the group's row gets its standing. Assumes nothing.
use Rattle.std.specs.Prelude.{ℕ, zero, suc, ◌+◌, ◌-◌, ◌*◌, Bool, true, false, cond, not, ◌&&◌, ◌||◌, List, [], ◌∷◌, eqb, ltb, set}
use Rattle.std.specs.Bool.{beq}
use Rattle.rules.specs.Sizes.{row_numbers}
use Rattle.rules.specs.Listings.{Line, Book, book}
use Rattle.rules.specs.Sound.{every_line, is_free}
use Rattle.rules.specs.Standing.{Item, void}
use Rattle.taking.specs.Lacks.{lack_of}
use Rattle.taking.specs.Frames.{most_apns, apns_of}
use Rattle.taking.specs.Held.{Held, held, no_counts, count, closed, put_numbers, put_row}
use Rattle.taking.specs.declared.Counts.{Counts}

-- ---- which levels are watched

-- a line with limits has level v inside
unfoldable pub limited_line : List Line → ℕ → Bool
limited_line [] v = false
limited_line (l ∷ ls) v = (eqb l.inside v && not (is_free l)) || limited_line ls v

unfoldable pub limited_by : List (List Line) → ℕ → Bool
limited_by [] v = false
limited_by (ls ∷ more) v = limited_line ls v || limited_by more v

unfoldable pub limited_level : ℕ → Bool
limited_level v = limited_by book.levels v

-- a level is inside lines with limits, or inside lines without
unfoldable pub even_lines : Book → List (List Line) → Bool
even_lines b [] = true
even_lines b (ls ∷ more) = every_line (λ l. eqb l.inside 0 || beq (not (is_free l)) (limited_by b.levels l.inside)) ls && even_lines b more

-- ---- the rows

-- rows m to m + n, the last first, are zero again
unfoldable pub blanks : List ℕ → ℕ → ℕ → List ℕ
blanks rows m zero = rows
blanks rows m (suc n) = blanks (put_numbers rows (m + n) 0 0 0 0 0 0) m n

-- row number m, counted from 1, is that of a void group
unfoldable pub stand_void : List ℕ → ℕ → List ℕ
stand_void rows m = cond (eqb m 0) rows (set rows (row_numbers * m - 1) void)

-- of n rows the first m stay, the last of which is void
unfoldable pub voided : List ℕ → ℕ → ℕ → List ℕ
voided rows m n = stand_void (blanks rows m (n - m)) m

-- n rows were made, and m there are
unfoldable pub back_to : ℕ → ℕ → List ℕ → List ℕ
back_to m n rows = cond (ltb m n) (voided rows m n) rows

-- ---- what is held

-- the counts and the rows; whether the innermost group is watched, the APNs that it held so far, and the counts to go back to
pub record Draft : Type 0 where
  pub counts : Counts
  pub rows : List ℕ
  pub limited : Bool
  pub apns : ℕ
  pub back : Counts

abbrev pub draft : Counts → List ℕ → Bool → ℕ → Counts → Draft
draft c rows limited n back = record { counts = c; rows = rows; limited = limited; apns = n; back = back }

-- nothing is watched
abbrev pub plain : Counts → List ℕ → Draft
plain c rows = draft c rows false 0 no_counts

abbrev pub held_in : Draft → Held
held_in s = held s.counts s.rows

-- the counts of c' with a group not kept that c did not count yet
abbrev pub back_by : Counts → Counts → Counts
back_by c c' = record { rows = c'.rows; kept = c.kept; short = c'.short; gap = c'.gap }

-- after an element: one that is entered is watched or not, another may be an APN
unfoldable pub one_draft : Draft → Item → Draft
one_draft s i =
    cond (eqb i.inside 0)
    (draft (count s.counts i) (put_row s.rows s.counts.rows i) s.limited (s.apns + apns_of i.typ i.inst) s.back)
    (draft (count s.counts i) (put_row s.rows s.counts.rows i) (limited_level i.inside) 0 (back_by s.counts (count s.counts i)))

-- it held too much
abbrev pub is_crowded : Bool → ℕ → Bool
is_crowded limited n = limited && ltb most_apns n

-- at the end of a level
unfoldable pub shut_draft : ℕ → Draft → ℕ → List ℕ → ℕ → Draft
shut_draft k s v m o =
    cond (is_crowded s.limited s.apns)
    (plain s.back (voided s.rows s.back.rows s.counts.rows))
    (plain (closed s.counts (lack_of book k v m o)) s.rows)

abbrev pub draft_rows : Draft → ℕ
draft_rows s = s.counts.rows
