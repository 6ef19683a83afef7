-- Elements are taken from the first octet on, and an entered group's inside before what stands behind it (rule 2.4). What is made of them is left open: `one s i` is s after
-- the element i, `shut s v m o` is s at the end of a level, and `number s` is the number of the row taken last. Assumes nothing.
use Rattle.std.specs.Prelude.{ℕ, zero, suc, ◌+◌, cond, List, [], ◌∷◌, ◌++◌, length, take, drop}
use Rattle.rules.specs.Framing.{element_header, header_length, message_type}
use Rattle.rules.specs.Listings.{Book, message_of}
use Rattle.rules.specs.Standing.{Item, fresh, item_of, marked, entered}
use Rattle.rules.specs.Frames.{Element, seen}

-- A run of elements is cut at the place of an element or remnant that does not lie in what its level has left, or it is whole.
pub data Out (S : Type 0) : Type 0 where
  cut : ℕ → S → Out S
  whole : S → Out S

abbrev pub after : {S : Type 0} → Out S → (S → Out S) → Out S
after (cut q s) f = cut q s
after (whole s) f = f s

module _ (b : Book) (k : ℕ) (S : Type 0) (one : S → Item → S) (shut : S → ℕ → List ℕ → ℕ → S) (number : S → ℕ) where
  -- level, its marks, parent, the level's place (its group's first octet, or 0), the place of the first octet left, the octets left, what was made so far
  abbrev pub Walker : Type 0
  Walker = ℕ → List ℕ → ℕ → ℕ → ℕ → List ℕ → S → Out S

  -- the inside of a group whose first octet is at o: a run like any other, with no pair seen; level 0 is not entered
  abbrev pub enter : Walker → ℕ → ℕ → List ℕ → S → Out S
  enter rec zero o xs s = whole s
  enter rec (suc v) o xs s = rec (suc v) fresh (number s) o (o + element_header) xs s

  -- one element and its inside, measured against what its own level has left; then what follows
  abbrev pub step : Walker → ℕ → List ℕ → ℕ → ℕ → ℕ → List ℕ → Element → S → Out S
  step rec v m p o at xs h s =
      cond h.whole
      (after
      (enter rec (entered b k v m h) at (take h.len (drop element_header xs)) (one s (item_of b k v m p at h)))
      (rec v (marked b k v m h) p o (at + element_header + h.len) (drop (element_header + h.len) xs)))
      (cut at s)

  -- the first argument is how many turns may be taken: with as many as there are octets it never runs out
  unfoldable pub run : ℕ → Walker
  run zero v m p o at xs s = whole (shut s v m o)
  run (suc f) v m p o at [] s = whole (shut s v m o)
  run (suc f) v m p o at (x ∷ xs) s = step (run f) v m p o at (x ∷ xs) (seen (x ∷ xs)) s

  unfoldable pub walk : Walker
  walk v m p o at xs s = run (length xs) v m p o at xs s

  unfoldable pub inside : ℕ → ℕ → List ℕ → S → Out S
  inside v o xs s = enter walk v o xs s

-- ---- the elements themselves, in a list

abbrev pub add_item : List Item → Item → List Item
add_item is i = is ++ (i ∷ [])

abbrev pub at_end : List Item → ℕ → List ℕ → ℕ → List Item
at_end is v m o = is

-- the elements of a run of level v at place `at`
unfoldable pub items_of : Book → ℕ → ℕ → ℕ → List ℕ → Out (List Item)
items_of b k v at xs = walk b k (List Item) add_item at_end length v fresh 0 0 at xs []

module _ (b : Book) where
  -- the level of a message's body
  unfoldable pub body_level : List ℕ → ℕ
  body_level m = (message_of b (message_type m)).body

  -- the elements taken of a message
  unfoldable pub taken : ℕ → List ℕ → Out (List Item)
  taken k m = items_of b k (body_level m) (header_length m) (drop (header_length m) m)

-- those taken, up to the cut if there is one
abbrev pub items_in : Out (List Item) → List Item
items_in (cut q is) = is
items_in (whole is) = is
