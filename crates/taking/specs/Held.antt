-- What is made of the elements as they are taken: the counts, the first mandatory short element, what the levels lack, and the lent rows. Assumes nothing.
use Rattle.std.specs.Prelude.{◌≡◌, ℕ, ◌+◌, ◌*◌, ◌≤◌, ◌<◌, Bool, true, cond, not, ◌&&◌, List, eqb, leb, length, drop, set, ⊤, Option, MatchOption}
use Rattle.rules.specs.Sizes.{row_numbers, largest_message}
use Rattle.rules.specs.Framing.{head_of, no_head}
use Rattle.rules.specs.Listings.{any_instance, book}
use Rattle.rules.specs.Sound.{is_free}
use Rattle.rules.specs.Frames.{Element}
use Rattle.rules.specs.Standing.{Item, kept, value_place, line_in, standing, item_of, marked, entered}
use Rattle.rules.specs.declared.Head.{Head}
use Rattle.standings.specs.Faults.{first_fault, lesser}
use Rattle.taking.specs.Lent.{Lines, level_of, limited_of}
use Rattle.taking.specs.Lacks.{fault}
use Rattle.taking.specs.declared.Counts.{Counts}
use Rattle.taking.specs.declared.Inside.{Inside}
use Rattle.taking.specs.declared.Tally.{Tally}

abbrev pub no_counts : Counts
no_counts = record { rows = 0; kept = 0; short = 0; gap = 0 }

pub record Held : Type 0 where
  pub counts : Counts
  pub rows : List ℕ

abbrev pub held : Counts → List ℕ → Held
held c rows = record { counts = c; rows = rows }

-- a tally holds its counts and its lent table
abbrev pub tallied : Tally → Held
tallied t = held t.counts t.rows.now

-- the first mandatory element that is short stays
unfoldable pub short_of : ℕ → Bool → ℕ → ℕ → ℕ → ℕ → ℕ
short_of f must stand place t i = first_fault f must stand (fault place t i)

unfoldable pub counted : Counts → ℕ → ℕ → Counts
counted c stand f = record { rows = c.rows + 1; kept = cond (eqb stand kept) (c.kept + 1) c.kept; short = f; gap = c.gap }

unfoldable pub count : Counts → Item → Counts
count c i = counted c i.stand (short_of c.short i.must i.stand i.place i.typ i.inst)

unfoldable pub closed : Counts → ℕ → Counts
closed c l = record { rows = c.rows; kept = c.kept; short = c.short; gap = lesser c.gap l }

-- six numbers at row n, if there is room for it
unfoldable pub put_numbers : List ℕ → ℕ → ℕ → ℕ → ℕ → ℕ → ℕ → ℕ → List ℕ
put_numbers rows n a b c d e f =
    cond (leb (row_numbers * n + row_numbers) (length rows))
    (set (set (set (set (set (set rows (row_numbers * n) a) (row_numbers * n + 1) b) (row_numbers * n + 2) c) (row_numbers * n + 3) d) (row_numbers * n + 4) e) (row_numbers * n + 5) f)
    rows

unfoldable pub put_row : List ℕ → ℕ → Item → List ℕ
put_row rows n i = put_numbers rows n i.parent i.typ i.inst (value_place i) i.len i.stand

unfoldable pub one : Held → Item → Held
one s i = held (count s.counts i) (put_row s.rows s.counts.rows i)

-- ---- the parts of contracts

-- kept rows are rows, and there are no more rows than octets before the place n
pub record Few (c : Counts) (n : ℕ) : Type 0 where
  pub kept : c.kept ≤ c.rows
  pub rows : c.rows ≤ n

-- what the end of a level asks
pub record Closes (k v : ℕ) (xs : List ℕ) (o : ℕ) : Type 0 where
  pub lent : Lines k v xs
  pub home : o ≤ largest_message

-- the head r of the element at `at` of a part
pub record Looked (part : List ℕ) (at : ℕ) (r : Head) : Type 0 where
  pub is : r ≡ head_of (drop at part)
  pub lies : r.whole ≡ true → at + 4 + r.len ≤ length part
  pub inst : r.inst < any_instance

-- what is found there: the head of a whole element, or none
pub record Stands (part : List ℕ) (at : ℕ) (r : Head) : Type 0 where
  pub looked : Looked part at r
  pub whole : r.whole ≡ true

abbrev pub LookedAt : List ℕ → ℕ → Option Head → Type 0
LookedAt part at r = MatchOption r (Looked part at no_head) (Stands part at)

-- what the row of an element asks: its numbers fit
pub record Adds (c : Counts) (place parent len : ℕ) : Type 0 where
  pub few : Few c largest_message
  pub under : parent ≤ largest_message
  pub ends : place + 4 + len ≤ largest_message

-- the row of an element is in the tally's table, and it is counted
pub record Added (t t' : Tally) (h : Head) (place parent stand short : ℕ) : Type 0 where
  pub same : t'.rows.ghost_name ≡ t.rows.ghost_name
  pub counts : t'.counts ≡ counted t.counts stand short
  pub rows : t'.rows.now ≡ put_numbers t.rows.now t.counts.rows parent h.typ h.inst (place + 4) h.len stand

-- what taking the element with head h at `at` asks: the lines xs of its level; n octets of its value are lent
pub record Takes (k v : ℕ) (xs : List ℕ) (h : Head) (n at p : ℕ) (c : Counts) : Type 0 where
  pub lent : Lines k v xs
  pub inst : h.inst < any_instance
  pub parent : p ≤ largest_message
  pub few : Few c at
  pub ends : at + 4 + h.len ≤ largest_message
  pub value : n ≤ largest_message

-- an element that is kept has limits on what its inside holds
abbrev pub has_limits : ℕ → ℕ → List ℕ → Element → Bool
has_limits k v m h = eqb (standing book k v m h) kept && not (is_free (line_in book k v h))

-- what taking the element h leaves: the marks, the counts and the lent rows, and the inside to enter
pub record Took (r : Option Inside) (m' : List ℕ) (s' : Held) (k v : ℕ) (m : List ℕ) (p at : ℕ) (h : Element) (s : Held) : Type 0 where
  pub holds : s' ≡ one s (item_of book k v m p at h)
  pub marks : m' ≡ marked book k v m h
  pub level : level_of r ≡ entered book k v m h
  pub limits : limited_of r ≡ has_limits k v m h
  pub some : MatchOption r ⊤ (λ i. 0 < i.level)
  pub few : Few s'.counts (at + 4)

-- and it leaves that in the tally, whose table stays the same lent one
pub record Tallied (r : Option Inside) (m' : List ℕ) (t' : Tally) (k v : ℕ) (m : List ℕ) (p at : ℕ) (h : Element) (t : Tally) : Type 0 where
  pub same : t'.rows.ghost_name ≡ t.rows.ghost_name
  pub took : Took r m' (tallied t') k v m p at h (tallied t)
