-- What is met in a run of elements, as derivations: that the run is whole and has these elements, or that it is cut at that place. There are no
-- turns to count and nothing is gathered up: n rows stand before the run, and the elements are the run's own. Assumes nothing.
use Rattle.std.specs.Prelude.{◌≡◌, ℕ, suc, ◌+◌, ◌<◌, true, false, List, [], ◌∷◌, ◌++◌, length, take, drop}
use Rattle.rules.specs.Framing.{element_header}
use Rattle.rules.specs.Listings.{Book}
use Rattle.rules.specs.Standing.{Item, fresh, item_of, marked, entered}
use Rattle.rules.specs.Frames.{Element, seen}

-- a whole element stands at the head
pub record At (xs : List ℕ) (h : Element) : Type 0 where
  pub is : seen xs ≡ h
  pub whole : h.whole ≡ true

-- level, marks, parent, rows before, place of the first octet left, octets left, elements
pub data Met (b : Book) (k : ℕ) : ℕ → List ℕ → ℕ → ℕ → ℕ → List ℕ → List Item → Type 0 where
  ends : {v : ℕ} {m : List ℕ} {p n at : ℕ} → Met b k v m p n at [] []
  alone : {v : ℕ} {m : List ℕ} {p n at : ℕ} {xs : List ℕ} {es : List Item} (h : Element) → At xs h → entered b k v m h ≡ 0
      → Met b k v (marked b k v m h) p (n + 1) (at + element_header + h.len) (drop (element_header + h.len) xs) es
      → Met b k v m p n at xs (item_of b k v m p at h ∷ es)
  group : {v : ℕ} {m : List ℕ} {p n at : ℕ} {xs : List ℕ} {is es : List Item} (h : Element) (g : ℕ) → At xs h → entered b k v m h ≡ suc g
      → Met b k (suc g) fresh (n + 1) (n + 1) (at + element_header) (take h.len (drop element_header xs)) is
      → Met b k v (marked b k v m h) p (n + 1 + length is) (at + element_header + h.len) (drop (element_header + h.len) xs) es
      → Met b k v m p n at xs (item_of b k v m p at h ∷ (is ++ es))

-- level, marks, rows before, place of the first octet left, octets left, place of the cut
pub data CutAt (b : Book) (k : ℕ) : ℕ → List ℕ → ℕ → ℕ → List ℕ → ℕ → Type 0 where
  here : {v : ℕ} {m : List ℕ} {n at : ℕ} {xs : List ℕ} → 0 < length xs → (seen xs).whole ≡ false → CutAt b k v m n at xs at
  later : {v : ℕ} {m : List ℕ} {n at : ℕ} {xs : List ℕ} {q : ℕ} (h : Element) → At xs h → entered b k v m h ≡ 0
      → CutAt b k v (marked b k v m h) (n + 1) (at + element_header + h.len) (drop (element_header + h.len) xs) q
      → CutAt b k v m n at xs q
  within : {v : ℕ} {m : List ℕ} {n at : ℕ} {xs : List ℕ} {q : ℕ} (h : Element) (g : ℕ) → At xs h → entered b k v m h ≡ suc g
      → CutAt b k (suc g) fresh (n + 1) (at + element_header) (take h.len (drop element_header xs)) q
      → CutAt b k v m n at xs q
  behind : {v : ℕ} {m : List ℕ} {n at : ℕ} {xs : List ℕ} {is : List Item} {q : ℕ} (h : Element) (g : ℕ) → At xs h → entered b k v m h ≡ suc g
      → Met b k (suc g) fresh (n + 1) (n + 1) (at + element_header) (take h.len (drop element_header xs)) is
      → CutAt b k v (marked b k v m h) (n + 1 + length is) (at + element_header + h.len) (drop (element_header + h.len) xs) q
      → CutAt b k v m n at xs q
