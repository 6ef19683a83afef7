-- A run as far as it was walked: Met, but it may stop anywhere, also inside a group. What is said of each row of a run holds of it too, so such laws are
-- proved over Walked, and serve runs that are whole (`met-walked`) and runs that are cut. Assumes nothing.
use mathlib.Core.Path.{◌≡◌}
use mathlib.Core.List.{List, [], ◌∷◌, ◌++◌}
use Prim.Native.Nat.{ℕ, suc, ◌+◌}
use lib.ListN.{length, take, drop}
use Rattle.rules.specs.Framing.{element_header}
use Rattle.rules.specs.Listings.{Book}
use Rattle.rules.specs.Standing.{Item, fresh, item_of, marked, entered}
use Rattle.rules.specs.Met.{At, Met}
use Rattle.rules.specs.Frames.{Element}

-- level, marks, parent, rows before, place of the first octet left, octets left, elements
pub data Walked (b : Book) (k : ℕ) : ℕ → List ℕ → ℕ → ℕ → ℕ → List ℕ → List Item → Type 0 where
  ends : {v : ℕ} {m : List ℕ} {p n at : ℕ} {xs : List ℕ} → Walked b k v m p n at xs []
  alone : {v : ℕ} {m : List ℕ} {p n at : ℕ} {xs : List ℕ} {es : List Item} (h : Element) → At xs h → entered b k v m h ≡ 0
      → Walked b k v (marked b k v m h) p (n + 1) (at + element_header + h.len) (drop (element_header + h.len) xs) es
      → Walked b k v m p n at xs (item_of b k v m p at h ∷ es)
  group : {v : ℕ} {m : List ℕ} {p n at : ℕ} {xs : List ℕ} {is es : List Item} (h : Element) (g : ℕ) → At xs h → entered b k v m h ≡ suc g
      → Walked b k (suc g) fresh (n + 1) (n + 1) (at + element_header) (take h.len (drop element_header xs)) is
      → Walked b k v (marked b k v m h) p (n + 1 + length is) (at + element_header + h.len) (drop (element_header + h.len) xs) es
      → Walked b k v m p n at xs (item_of b k v m p at h ∷ (is ++ es))

pub met-walked : {b : Book} {k v : ℕ} {m : List ℕ} {p n at : ℕ} {xs : List ℕ} {es : List Item} → Met b k v m p n at xs es → Walked b k v m p n at xs es
met-walked Met.ends = ends
met-walked (Met.alone h a e t) = alone h a e (met-walked t)
met-walked (Met.group h g a e d t) = group h g a e (met-walked d) (met-walked t)
