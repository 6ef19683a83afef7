-- The parts of contracts over the steps of the code. Assumes nothing.
use Rattle.std.specs.Prelude.{◌≡◌, ℕ, ◌+◌, ◌≤◌, ◌<◌, Bool, true, false, Option, MatchOption, ⊤, List, length, take}
use Rattle.rules.specs.Sizes.{largest_message}
use Rattle.rules.specs.Framing.{element_header, value_length, message_type, length_field, header_length}
use Rattle.rules.specs.Listings.{book, is_message}
use Rattle.taking.specs.declared.Counts.{Counts}
use Rattle.taking.specs.declared.Inside.{Inside}
use Rattle.pieces.specs.declared.Going.{Going}
use Rattle.pieces.specs.declared.Pieces.{Pieces}
use Rattle.pieces.specs.declared.Stride.{Stride}
use Rattle.pieces.specs.Depth.{deepest}
use Rattle.pieces.specs.Coded.{top_of, row_if, Fed, FedPieces, take_by, headed_by, eat_all_by, feed_all_by}
use Rattle.pieces.specs.Fits.{Sized, Fits}
use Rattle.pieces.specs.Answers.{takes}

-- ---- levels

-- a level is open
pub record Within (k : ℕ) (w : Going) : Type 0 where
  pub sized : Sized k w
  pub inside : 0 < w.depth

-- what is entered is the inside of a group
abbrev pub IsGroup : Option Inside → Type 0
IsGroup enters = MatchOption enters ⊤ (λ i. 0 < i.level)

-- an element of so many value octets stands at the place, in the innermost level, and `came` of them have come
pub record Placing (w : Going) (enters : Option Inside) (len came : ℕ) : Type 0 where
  pub deep : w.depth ≤ deepest
  pub inside : 0 < w.depth
  pub came_of : came ≤ len
  pub ends : w.place + 4 + len ≤ largest_message
  pub group : IsGroup enters

-- ---- one element

-- one APN more, or none
pub record Watching (w : Going) (enters : Option Inside) (n : ℕ) : Type 0 where
  pub apns : w.apns ≤ largest_message
  pub one : n ≤ 1
  pub group : IsGroup enters

-- one element is counted with the others
pub record Adds (c e : Counts) : Type 0 where
  pub rows : c.rows ≤ largest_message
  pub kept : c.kept ≤ c.rows
  pub one_row : e.rows ≤ 1
  pub one_kept : e.kept ≤ 1

-- an element is taken at the innermost level, whose header is whole and lies in what is left; `came` octets of its value have come
pub record Taking (k : ℕ) (w : Going) (came : ℕ) : Type 0 where
  pub sized : Sized k w
  pub inside : 0 < w.depth
  pub room : element_header + value_length w.some ≤ (top_of w).left
  pub once : came ≤ 1
  pub came_of : came ≤ value_length w.some

-- whatever rows are lent, f leaves r of the walk; and the rows themselves, or with one more at n, but for what goes back with it
pub record Wrote (r : Going) (row : Option (List ℕ)) (n : ℕ) (f : List ℕ → Fed) : Type 0 where
  pub going : (rows : List ℕ) → (f rows).going ≡ r
  pub rows_left : (rows : List ℕ) → (f rows).rows ≡ row_if rows n row r.counts.rows

-- it is taken, with what came of its value
pub record Takes (k : ℕ) (w : Going) (first came : ℕ) (r : Stride Going) : Type 0 where
  pub taken : r.taken ≡ came
  pub wrote : Wrote r.state r.row w.counts.rows (take_by k w first came)

-- nothing is passed over, and a level is open
pub record Ready (w : Going) : Type 0 where
  pub going : w.stopped ≡ false
  pub none : w.pass ≡ 0
  pub inside : 0 < w.depth

-- the header of an element is whole
pub record Heading (k : ℕ) (w : Going) : Type 0 where
  pub sized : Sized k w
  pub ready : Ready w
  pub four : w.have ≡ 4

-- octets follow what f left
abbrev pub and_then : ℕ → List ℕ → Fed → Fed
and_then k xs f = eat_all_by k f.going xs f.rows

pub record HeadStrode (k : ℕ) (w : Going) (rest : List ℕ) (r : Stride Going) : Type 0 where
  pub most : r.taken ≤ length rest
  pub few : r.taken ≤ 1
  pub wrote : Wrote r.state r.row w.counts.rows (λ rows. and_then k (take r.taken rest) (headed_by k w rows))

-- the next octets of the elements
pub record Stepping (k : ℕ) (w : Going) (part : List ℕ) : Type 0 where
  pub fits : Fits k w
  pub ready : Ready w
  pub some : 0 < length part

-- some of them are taken, at least one
pub record Strode (k : ℕ) (w : Going) (part : List ℕ) (r : Stride Going) : Type 0 where
  pub least : 0 < r.taken
  pub most : r.taken ≤ length part
  pub wrote : Wrote r.state r.row w.counts.rows (eat_all_by k w (take r.taken part))

-- the next octets of the elements, of which some may be passed over
pub record Passing (k : ℕ) (w : Going) (part : List ℕ) : Type 0 where
  pub fits : Fits k w
  pub going : w.stopped ≡ false
  pub inside : w.pass ≡ 0 → 0 < w.depth
  pub some : 0 < length part

-- ---- the message

-- a header that passes checks 1 to 8 for n octets, which it says itself
pub record Enters (h : List ℕ) (n : ℕ) : Type 0 where
  pub is : n ≡ length_field h + 4
  pub room : header_length h ≤ n
  pub listed : is_message book (message_type h) ≡ true

pub record FitsAll (p : Pieces) : Type 0 where
  pub fits : Fits p.kind p.going
  pub count : p.count ≤ 4097

pub record Striding (p : Pieces) (part : List ℕ) : Type 0 where
  pub all : FitsAll p
  pub some : 0 < length part

-- whatever rows are lent, the first `taken` octets leave this state, and one row more where an element was taken, but for what goes back with it
pub record StrodeAll (p : Pieces) (part : List ℕ) (r : Stride Pieces) : Type 0 where
  pub least : 0 < r.taken
  pub most : r.taken ≤ length part
  pub state : (rows : List ℕ) → (feed_all_by p (take r.taken part) rows).state ≡ r.state
  pub rows_left : (rows : List ℕ) → (feed_all_by p (take r.taken part) rows).rows ≡ row_if rows p.going.counts.rows r.row r.state.going.counts.rows

-- r of n octets are only counted: in the header after its fourth and before its last, or where nothing is walked; if none is, an octet of the header comes, or the walk goes on
pub record Idles (p : Pieces) (n r : ℕ) : Type 0 where
  pub most : r ≤ n
  pub head : p.count < header_length p.head → 0 < r → (4 ≤ p.count) × (p.count + r < header_length p.head)
  pub body : header_length p.head ≤ p.count → 0 < r → (p.going.stopped ≡ false → (p.going.pass ≡ 0) × (p.going.depth ≡ 0))
  pub going : 0 < n → r ≡ 0 → header_length p.head ≤ p.count → p.going.stopped ≡ false
  pub inside : 0 < n → r ≡ 0 → header_length p.head ≤ p.count → p.going.pass ≡ 0 → 0 < p.going.depth

-- ---- the table

pub record GaveAll (r : Pieces) (rows : List ℕ) (b : FedPieces) : Type 0 where
  pub state : r ≡ b.state
  pub rows_left : rows ≡ b.rows

pub record Readied (p : Pieces) (room : ℕ) (r : Bool) : Type 0 where
  pub is : r ≡ takes p room
  pub fits : r ≡ true → FitsAll p
