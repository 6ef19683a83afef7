-- A run in which every row is kept is what its own rows emit. Assumes nothing.
use mathlib.Core.Path.{◌≡◌, refl, sym, ap, ◌∙◌}
use mathlib.Core.Bool.{true}
use mathlib.Core.List.{List, [], ◌∷◌, ◌++◌, append_assoc}
use Prim.Native.Nat.{ℕ, ◌+◌, ◌/◌, ◌%◌, ◌≤◌, ◌<◌}
use native.Mathlib.Omega.{arith}
use borrow.Author.Tests.{eq-eqb}
use lib.ListN.{length, take, drop, take-append-drop}
use lib.Seq.{take-add}
use Rattle.rules.specs.Framing.{octet, element_header, value_length}
use Rattle.rules.specs.Types.{is_group}
use Rattle.rules.specs.Listings.{Book}
use Rattle.rules.specs.Standing.{Item, kept, standing, item_of}
use Rattle.rules.specs.Met.{At, Met, ends, alone, group}
use Rattle.rules.specs.Sound.{sound}
use Rattle.rules.specs.Frames.{Element}
use Rattle.rules.proofs.Heads.{at_is, at_len, fits, value-length}
use Rattle.rules.proofs.Covers.{group_type}
use Rattle.rules.proofs.Rows.{Every, Octets, octets-drop, octets-take}
use Rattle.rules.specs.Emitting.{Piece, head_octets}
use Rattle.rules.specs.Cleaned.{received, pieces}
use Rattle.emitted.proofs.Forests.{Forest, none, leaf, node, element, grown}
use Rattle.emitted.proofs.Again.{Here, pieces_append, pieces-length, Kept, every-split}
use Rattle.emitted.proofs.Runs.{value-here, rest-here, value-is, fourth-is, both-rows, no_group}

-- the four octets of a header say its length as it is written
header-same : (xs : List ℕ) (n : ℕ) → element_header ≤ length xs → value_length xs ≡ n → Octets xs → head_octets (octet xs 0) n (octet xs 3) ≡ take element_header xs
header-same [] n l e o = absurd (omega arith)
header-same (x ∷ []) n l e o = absurd (omega arith)
header-same (x ∷ y ∷ []) n l e o = absurd (omega arith)
header-same (x ∷ y ∷ z ∷ []) n l e o = absurd (omega arith)
header-same (x ∷ y ∷ z ∷ u ∷ xs) n l e o =
    let c : z < 256 = o 2 in
    let p : n / 256 ≡ y = omega arith in
    let q : n % 256 ≡ z = omega arith in
    rw (p, q)

module _ (xs : List ℕ) (h : Element) (a : At xs h) (o : Octets xs) where
  -- a header with the right length, a value of that length, and what follows
  pub element-same : (f : ℕ) (ys zs : List ℕ) → f ≡ octet xs 3 → ys ≡ take h.len (drop element_header xs) → zs ≡ drop (element_header + h.len) xs
      → element h.typ f ys ++ zs ≡ xs
  element-same f ys zs e c d =
      let t : h.typ ≡ octet xs 0 = ap (λ (x : Element). x.typ) (at_is a) in
      let n : value_length xs ≡ h.len = sym (at_len a) in
      let l : length (take h.len (drop element_header xs)) ≡ h.len = value-length xs h.len (fits a) in
      rw (e, c, d, t, l) (
      ap (λ (us : List ℕ). us ++ (take h.len (drop element_header xs) ++ drop (element_header + h.len) xs)) (header-same xs h.len (omega (arith, fits a)) n o)
      ∙ sym (append_assoc (take element_header xs) (take h.len (drop element_header xs)) (drop (element_header + h.len) xs))
      ∙ ap (λ (us : List ℕ). us ++ drop (element_header + h.len) xs) (sym (take-add element_header h.len xs))
      ∙ take-append-drop (element_header + h.len) xs
      )

module _ (b : Book) (fine : sound b ≡ true) (k : ℕ) (w : List ℕ) where
  -- parent, rows before, octets, rows of the run
  pub record Same (p n : ℕ) (xs : List ℕ) (es : List Item) : Type 0 where
    pub rows : List Piece
    pub rows_are : rows ≡ pieces w es
    pub forest : Forest p n rows
    pub grows_it : grown forest ≡ xs

  kept_is : (v : ℕ) (m : List ℕ) (p at : ℕ) (h : Element) → Kept (item_of b k v m p at h) → standing b k v m h ≡ kept
  unfolding item_of
  kept_is v m p at h z = z

  pub same-run : {v : ℕ} {m : List ℕ} {p n at : ℕ} {xs : List ℕ} {es : List Item} → Met b k v m p n at xs es → Every Kept es → Octets xs → Here w at xs
      → Same p n xs es
  unfolding pieces grown Every received item_of
  same-run ends y o here = record { rows = []; rows_are = refl; forest = none; grows_it = refl }
  same-run (alone {v = v} {m = m} {p = p} {n = n} {at = at} {xs = xs} {es = es} h a e t) y o here =
      let z = kept_is v m p at h y.0 in
      let r = same-run t y.1 (octets-drop (element_header + h.len) xs o) (rest-here w at xs h a here) in
      let g = no_group b fine k w (λ c. c) v m h z e (is_group h.typ) refl in
      record {
        rows = received w (item_of b k v m p at h) ∷ r.rows;
        rows_are = rw r.rows_are;
        forest = leaf (received w (item_of b k v m p at h)) (eq-eqb (standing b k v m h) kept z) refl g r.forest;
        grows_it = rw g (element-same xs h a o (octet w (at + 3)) (take h.len (drop (at + element_header) w)) (grown r.forest) (fourth-is w at xs h a here) (value-is w at xs h a here) r.grows_it);
      }
  same-run (group {v = v} {m = m} {p = p} {n = n} {at = at} {xs = xs} {is = is} {es = es} h g a e d t) y o here =
      let z = kept_is v m p at h y.0 in
      let ks = every-split Kept is es y.1 in
      let q = same-run d ks.0 (octets-take h.len (drop element_header xs) (octets-drop element_header xs o)) (value-here w at xs h a here) in
      let size : length q.rows ≡ length is = ap length q.rows_are ∙ pieces-length w is in
      let r : Same p (n + 1 + length q.rows) (drop (element_header + h.len) xs) es =
      rw size (same-run t ks.1 (octets-drop (element_header + h.len) xs o) (rest-here w at xs h a here)) in
      let c = group_type b fine k v m h g e in
      record {
        rows = received w (item_of b k v m p at h) ∷ (q.rows ++ r.rows);
        rows_are = both-rows (received w (item_of b k v m p at h)) q.rows (pieces w is) r.rows (pieces w es) q.rows_are r.rows_are ∙ rw (pieces_append w is es);
        forest = node (received w (item_of b k v m p at h)) (eq-eqb (standing b k v m h) kept z) refl c (rw c) q.forest r.forest;
        grows_it = element-same xs h a o (octet w (at + 3)) (grown q.forest) (grown r.forest) (fourth-is w at xs h a here) q.grows_it r.grows_it;
      }
