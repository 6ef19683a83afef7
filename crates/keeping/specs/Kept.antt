-- A state's octets, and a state read from them. Numbers stand high octet first; their top octet is written uncut, so that
-- reading gives back every number. Assumes nothing.
use Rattle.std.specs.Prelude.{◌≡◌, ℕ, zero, suc, ◌+◌, ◌*◌, ◌/◌, ◌%◌, ◌<◌, Bool, cond, not, List, [], ◌∷◌, ◌++◌, eqb, ltb, length, get_or, replicate}
use Rattle.rules.specs.Table.{laid}
use Rattle.taking.specs.declared.Counts.{Counts}
use Rattle.pieces.specs.declared.Open.{Open}
use Rattle.pieces.specs.declared.Going.{Going}
use Rattle.pieces.specs.declared.Pieces.{Pieces}
use Rattle.pieces.specs.Depth.{deepest}
use Rattle.pieces.specs.Coded.{no_open}

-- the octets before the levels, and those of a level
abbrev pub levels_from : ℕ
levels_from = 135

abbrev pub level_size : ℕ
level_size = 57

abbrev pub state_size : ℕ
state_size = levels_from + deepest * level_size

-- ---- numbers, bools and arrays

unfoldable pub four_of : ℕ → List ℕ
four_of x = x / 16777216 ∷ x / 65536 % 256 ∷ x / 256 % 256 ∷ x % 256 ∷ []

unfoldable pub eight_of : ℕ → List ℕ
eight_of x =
    x / 72057594037927936 ∷ x / 281474976710656 % 256 ∷ x / 1099511627776 % 256 ∷ x / 4294967296 % 256
    ∷ x / 16777216 % 256 ∷ x / 65536 % 256 ∷ x / 256 % 256 ∷ x % 256 ∷ []

-- and read again
unfoldable pub number_on : ℕ → List ℕ → ℕ
number_on high [] = high
number_on high (x ∷ xs) = number_on (high * 256 + x) xs

unfoldable pub number_of : List ℕ → ℕ
number_of [] = 0
number_of (x ∷ xs) = number_on x xs

-- the k octets from place n on; one that is not there is 0
unfoldable pub run : ℕ → List ℕ → ℕ → List ℕ
run zero s n = []
run (suc k) s n = get_or s n 0 ∷ run k s (suc n)

abbrev pub number_at : List ℕ → ℕ → ℕ
number_at s n = number_of (run 8 s n)

-- a number that was read, and what it stays below
pub record Read (x r most : ℕ) : Type 0 where
  pub is : r ≡ x
  pub low : r < most

-- true is 1; and all but 0 is true
abbrev pub flag_of : Bool → ℕ
flag_of b = cond b 1 0

abbrev pub is_flag : ℕ → Bool
is_flag x = not (eqb x 0)

-- ---- a state into octets

-- kind, room, ended, count, head: 25 octets
unfoldable pub start_octets : Pieces → List ℕ
start_octets p = four_of p.kind ++ eight_of p.room ++ flag_of p.ended ∷ [] ++ eight_of p.count ++ run 4 p.head 0

-- rows, kept, short, gap: 32 octets
unfoldable pub counts_octets : Counts → List ℕ
counts_octets c = eight_of c.rows ++ eight_of c.kept ++ eight_of c.short ++ eight_of c.gap

-- stopped, depth, place, have, some, pass, counts: 69 octets
unfoldable pub walk_octets : Going → List ℕ
walk_octets w =
    flag_of w.stopped ∷ [] ++ eight_of w.depth ++ eight_of w.place ++ eight_of w.have ++ run 4 w.some 0 ++ eight_of w.pass
    ++ counts_octets w.counts

-- limited, apns, back: 41 octets
unfoldable pub watch_octets : Going → List ℕ
watch_octets w = flag_of w.limited ∷ [] ++ eight_of w.apns ++ counts_octets w.back

-- level, marks, parent, home, left: 57 octets
unfoldable pub open_octets : Open → List ℕ
open_octets o = o.level ∷ [] ++ run 32 o.marks 0 ++ eight_of o.parent ++ eight_of o.home ++ eight_of o.left

abbrev pub nth : Going → ℕ → Open
nth w i = get_or w.levels i no_open

-- the k levels from number i on
unfoldable pub opens_octets : ℕ → Going → ℕ → List ℕ
opens_octets zero w i = []
opens_octets (suc k) w i = open_octets (nth w i) ++ opens_octets k w (suc i)

unfoldable pub state_octets : Pieces → List ℕ
state_octets p = (start_octets p ++ walk_octets p.going ++ watch_octets p.going) ++ opens_octets deepest p.going 0

-- a buffer that is too short is left alone; octets past the state's stay
unfoldable pub kept_in : Pieces → List ℕ → List ℕ
kept_in p lent = cond (ltb (length lent) state_size) lent (laid (state_octets p) lent)

-- ---- octets into a state

unfoldable pub open_at : List ℕ → ℕ → Open
open_at s n = record { level = get_or s n 0; marks = run 32 s (n + 1); parent = number_at s (n + 33); home = number_at s (n + 41); left = number_at s (n + 49) }

-- k levels, one after another
unfoldable pub opens_at : ℕ → List ℕ → ℕ → List Open
opens_at zero s n = []
opens_at (suc k) s n = open_at s n ∷ opens_at k s (n + level_size)

unfoldable pub counts_at : List ℕ → ℕ → Counts
counts_at s n = record { rows = number_at s n; kept = number_at s (n + 8); short = number_at s (n + 16); gap = number_at s (n + 24) }

unfoldable pub walk_in : List ℕ → Going
walk_in s = record {
  stopped = is_flag (get_or s 25 0);
  depth = number_at s 26;
  levels = opens_at deepest s levels_from;
  place = number_at s 34;
  have = number_at s 42;
  some = run 4 s 50;
  pass = number_at s 54;
  counts = counts_at s 62;
  limited = is_flag (get_or s 94 0);
  apns = number_at s 95;
  back = counts_at s 103;
}

unfoldable pub fields_in : List ℕ → Pieces
fields_in s = record { kind = number_of (run 4 s 0); room = number_at s 4; ended = is_flag (get_or s 12 0); count = number_at s 13; head = run 4 s 21; going = walk_in s }

-- a buffer that is too short is read as zeros
unfoldable pub state_in : List ℕ → Pieces
state_in s = fields_in (cond (ltb (length s) state_size) (replicate state_size 0) s)

-- ---- a state whose arrays are as long as they are declared

pub record Formed (p : Pieces) : Type 0 where
  pub head_four : length p.head ≡ 4
  pub some_four : length p.going.some ≡ 4
  pub levels_all : length p.going.levels ≡ deepest
  pub marks_all : (i : ℕ) → i < deepest → length (nth p.going i).marks ≡ 32
