-- Standing of an element: kept, unexpected, repeated, short or void, by the listing of its level and what stood there before it. Assumes nothing.
use Rattle.std.specs.Prelude.{ℕ, ◌+◌, Bool, cond, not, ◌&&◌, ◌||◌, List, [], eqb, ltb, length, get_or, set, replicate}
use Rattle.rules.specs.Framing.{element_header}
use Rattle.rules.specs.Types.{least_of}
use Rattle.rules.specs.Listings.{Line, Book, empty_line, seek, listing}
use Rattle.rules.specs.Frames.{Frame, Element, exceeds}

abbrev pub kept : ℕ
kept = 0

abbrev pub unexpected : ℕ
unexpected = 1

abbrev pub repeated : ℕ
repeated = 2

abbrev pub short : ℕ
short = 3

-- CR 8: a group that holds more of a pair than its limit, and would be kept
abbrev pub void : ℕ
void = 4

-- A level keeps a mark for each line of its listing: 0, the pair has not stood there yet; 1, it has; 2, it has and one was kept or void. The standing
-- asks only whether a mark is 0; the 2 is for whoever asks at the level's end which mandatory pairs were kept, and no limit stands on those (`Sound`).
-- A listing has at most as many lines as there are marks.
abbrev pub most_lines : ℕ
most_lines = 32

-- a level begins with no pair seen
abbrev pub fresh : List ℕ
fresh = replicate most_lines 0

-- a mark after an element of its pair
unfoldable pub mark_after : ℕ → ℕ → ℕ
mark_after old stand = cond (eqb stand kept || eqb stand void || eqb old 2) 2 1

-- below the least length
unfoldable pub is_short : Element → Bool
is_short h = ltb h.len (least_of h.typ h.first)

module _ (b : Book) (k : ℕ) where
  -- the number of the pair's line in the listing of level v, and that line
  abbrev pub line_number : ℕ → Element → ℕ
  line_number v h = seek (listing b v) k h.typ h.inst

  abbrev pub line_in : ℕ → Element → Line
  line_in v h = get_or (listing b v) (line_number v h) empty_line

  -- the pair is listed at this level for this kind
  abbrev pub is_listed : ℕ → Element → Bool
  is_listed v h = ltb (line_number v h) (length (listing b v))

  -- an element of the pair stood here before, however short (rule 4.2)
  abbrev pub stood_earlier : ℕ → List ℕ → Element → Bool
  stood_earlier v m h = not (eqb (get_or m (line_number v h) 0) 0)

  -- it holds more of a pair than its line lets stand
  abbrev pub is_over : ℕ → Element → Bool
  is_over v h = exceeds (line_in v h).limits h.within

  -- the first that applies; a mandatory element that is short counts as 3 here, and is refusal 11
  unfoldable pub standing : ℕ → List ℕ → Element → ℕ
  standing v m h =
      cond (not (is_listed v h)) unexpected
      (cond (not (line_in v h).many && stood_earlier v m h) repeated
      (cond (is_short h) short
      (cond (is_over v h) void kept)))

  -- the marks of the level after the element; a pair that is not listed touches none
  unfoldable pub marked : ℕ → List ℕ → Element → List ℕ
  marked v m h =
      cond (is_listed v h) (set m (line_number v h) (mark_after (get_or m (line_number v h) 0) (standing v m h))) m

  -- Only a kept group is entered: the level of its inside, or 0.
  unfoldable pub entered : ℕ → List ℕ → Element → ℕ
  entered v m h = cond (eqb (standing v m h) kept) (line_in v h).inside 0

-- An element as it is taken. `parent` is 0 for the message, else its parent's row number counted from 1; `place` is its first octet;
-- `must` says that its pair is mandatory here; `inside` is the level that it is entered with, or 0.
pub record Item : Type 0 where
  pub parent : ℕ
  pub place : ℕ
  pub typ : ℕ
  pub inst : ℕ
  pub len : ℕ
  pub stand : ℕ
  pub must : Bool
  pub inside : ℕ
  pub hidden : List Frame

-- where its value begins, and where it ends
abbrev pub value_place : Item → ℕ
value_place i = i.place + element_header

abbrev pub value_end : Item → ℕ
value_end i = i.place + element_header + i.len

-- the element with head h, at level v with marks m and parent p
unfoldable pub item_of : Book → ℕ → ℕ → List ℕ → ℕ → ℕ → Element → Item
item_of b k v m p place h = record {
  parent = p;
  place = place;
  typ = h.typ;
  inst = h.inst;
  len = h.len;
  stand = standing b k v m h;
  must = (line_in b k v h).must;
  inside = entered b k v m h;
  hidden = cond (eqb (standing b k v m h) void) h.within [];
}
