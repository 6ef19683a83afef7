-- What is read off one element: its head, and the elements that stand directly inside its value, by their headers alone. Assumes nothing.
use Rattle.std.specs.Prelude.{ℕ, zero, suc, ◌+◌, ◌-◌, Bool, true, false, cond, ◌&&◌, ◌||◌, List, [], ◌∷◌, eqb, ltb, length, take, drop}
use Rattle.rules.specs.Framing.{element_header, head_of}
use Rattle.rules.specs.Listings.{Limit}
use Rattle.rules.specs.declared.Head.{Head}

-- an element inside a value, as its header says
pub record Frame : Type 0 where
  pub typ : ℕ
  pub inst : ℕ
  pub len : ℕ

abbrev pub frame_of : Head → Frame
frame_of h = record { typ = h.typ; inst = h.inst; len = h.len }

-- Elements fill the octets: no framing fault among them. The first argument is how many turns may be taken, as in a walk.
unfoldable pub filled_by : ℕ → List ℕ → Bool
filled_by zero xs = true
filled_by (suc f) [] = true
filled_by (suc f) (x ∷ xs) = (head_of (x ∷ xs)).whole && filled_by f (drop (element_header + (head_of (x ∷ xs)).len) (x ∷ xs))

unfoldable pub frames_by : ℕ → List ℕ → List Frame
frames_by zero xs = []
frames_by (suc f) [] = []
frames_by (suc f) (x ∷ xs) = frame_of (head_of (x ∷ xs)) ∷ frames_by f (drop (element_header + (head_of (x ∷ xs)).len) (x ∷ xs))

-- the elements that fill the octets, or none if there is a fault
unfoldable pub frames_of : List ℕ → List Frame
frames_of xs = cond (filled_by (length xs) xs) (frames_by (length xs) xs) []

-- ---- one element: all that the rules read of it

pub record Element : Type 0 where
  pub whole : Bool
  pub typ : ℕ
  pub inst : ℕ
  pub len : ℕ
  pub first : ℕ
  pub within : List Frame

-- a head, and what stands directly inside the value
abbrev pub element : Head → List Frame → Element
element h fs = record { whole = h.whole; typ = h.typ; inst = h.inst; len = h.len; first = h.first; within = fs }

-- the octets of its value
abbrev pub value_of : List ℕ → List ℕ
value_of xs = take (head_of xs).len (drop element_header xs)

unfoldable pub seen : List ℕ → Element
seen xs = element (head_of xs) (frames_of (value_of xs))

-- ---- a limit on what an inside holds

-- how many of the pair t/i there are
unfoldable pub tally : ℕ → ℕ → List Frame → ℕ
tally t i [] = 0
tally t i (f ∷ fs) = cond (eqb f.typ t && eqb f.inst i) (suc (tally t i fs)) (tally t i fs)

-- more of some pair than a limit lets stand
unfoldable pub exceeds : List Limit → List Frame → Bool
exceeds [] fs = false
exceeds (l ∷ ls) fs = ltb l.most (tally l.typ l.inst fs) || exceeds ls fs

-- ---- the value octets of the elements inside

-- octet j of a value is a value octet of an element directly inside it
unfoldable pub hides : List Frame → ℕ → Bool
hides [] j = false
hides (f ∷ fs) j =
    cond (ltb j element_header) false (cond (ltb j (element_header + f.len)) true (hides fs (j - (element_header + f.len))))
