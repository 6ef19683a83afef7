-- The elements directly inside a void row: they fill its value, since more of a pair than a limit are found only where elements fill it; each stands in the
-- message as its header says; and of their octets just those of values are covered. Assumes nothing.
--     kept-filled, report-filled, inner-says   elements fill the value of a kept group and of a report, and say what the message's octets say
--     covers-void, inner-header_open, inner-value-covered  what is covered in a void row's value, octet by octet, and of an element inside
use mathlib.Core.Path.{◌≡◌, refl, sym, ap, ◌∙◌}
use mathlib.Core.Bool.{Bool, true, false}
use mathlib.Core.List.{List}
use Prim.Native.Nat.{ℕ, ◌+◌, ◌-◌, ◌≤◌, ◌<◌}
use native.Mathlib.Omega.{arith}
use native.Mathlib.Decide.{dec_lt}
use lib.ListN.{length, take, drop, length-take, length-drop}
use lib.Seq.{get_or-drop, drop-drop}
use Rattle.rules.specs.Framing.{element_header, header_length, head_of}
use Rattle.rules.specs.Types.{groups, is_group}
use Rattle.rules.specs.Listings.{Book, book}
use Rattle.rules.specs.Frames.{Frame, frames_of, hides}
use Rattle.rules.specs.Standing.{Item, void, item_of, value_place}
use Rattle.rules.specs.Taking.{body_level, items_in}
use Rattle.rules.specs.Met.{Met, ends, alone, group}
use Rattle.rules.specs.Table.{nth}
use Rattle.rules.specs.Verdicts.{items}
use Rattle.rules.specs.Covered.{covered}
use Rattle.rules.specs.Sound.{sound}
use Rattle.rules.specs.Values.{row_place, row_length, row_standing}
use Rattle.rules.proofs.Header.{Passed}
use Rattle.rules.proofs.Rows.{Every, every_append, every-at, body-met}
use Rattle.rules.proofs.Book.{book-sound}
use Rattle.rules.proofs.Heads.{fits}
use Rattle.rules.proofs.Unseen.{Lies, lies-drop, lies-take, lies-is, value_in, Shown, rows-shown}
use Rattle.rules.proofs.Frames.{Filled, frames-of, head-some, over-filled, hides-head, hides-value, hides-rest}
use Rattle.tables.specs.Words.{rows, row_end, KeptGroup}
use Rattle.tables.specs.Standings.{its_limits}
use Rattle.tables.specs.IsTable.{IsTable}
use Rattle.tables.proofs.Standings.{void_iff, kept-listed}
use Rattle.tables.proofs.Levels.{group-level}
use Rattle.tables.proofs.Trees.{backward}
use Rattle.tables.proofs.Rowed.{count_of, row_of}
use Rattle.verdicts.specs.Covers.{frames_in, within}
use Rattle.verdicts.proofs.Completeness.{complete}
use Rattle.verdicts.proofs.Covers.{hidden-void, covered_iff}
use Rattle.promises.specs.Voids.{Report, points, Inner, front, later, Says}
use Rattle.promises.proofs.Covering.{met-filled, void-header_open}
use Rattle.promises.proofs.Voids.{report-void, report-kept, row-level}

body-lies : (m : List ℕ) → header_length m ≤ length m → Lies m (header_length m) (drop (header_length m) m)
body-lies m h = record { ends = simp length-drop (omega arith); same = λ j u. get_or-drop (header_length m) m j 0 }

-- ---- one of them

inner-header : {fs : List Frame} {c : ℕ} {f : Frame} → Inner fs c f → (j : ℕ) → j < element_header → hides fs (c + j) ≡ false
inner-header (front {f = f} {fs = fs}) j l = let z : 0 + j ≡ j = omega arith in rw z (hides-head f fs j l)
inner-header (later {g = g} {fs = fs} {c = c} i) j l =
    let z : element_header + g.len + c + j ≡ element_header + g.len + (c + j) = omega arith in rw z (hides-rest g fs (c + j) ∙ inner-header i j l)

inner-value : {fs : List Frame} {c : ℕ} {f : Frame} → Inner fs c f → (j : ℕ) → j < f.len → hides fs (c + (element_header + j)) ≡ true
inner-value (front {f = f} {fs = fs}) j l =
    let z : 0 + (element_header + j) ≡ element_header + j = omega arith in rw z (hides-value f fs (element_header + j) (omega arith) (omega arith))
inner-value (later {g = g} {fs = fs} {c = c} i) j l =
    let z : element_header + g.len + c + (element_header + j) ≡ element_header + g.len + (c + (element_header + j)) = omega arith in
    rw z (hides-rest g fs (c + (element_header + j)) ∙ inner-value i j l)

-- it stands there, and its header says what it is
inner-at : {xs : List ℕ} {fs : List Frame} {c : ℕ} {f : Frame} → Filled xs fs → Inner fs c f → Says (drop c xs) f
inner-at (Filled.more w d) front = record { whole = w; is = refl }
inner-at {f = f} (Filled.more {xs = xs} w d) (later {c = c} i) =
    let s : Says (drop (element_header + (head_of xs).len + c) xs) f = rw (drop-drop c (element_header + (head_of xs).len) xs) at (inner-at d i) in s
inner-at {c = c} {f = f} Filled.none i = elim i [ ]

-- ---- a kept group is filled too

abbrev FilledIn : List ℕ → Item → Type 0
FilledIn m i = 0 < i.inside → Filled (value_in m i) (frames_of (value_in m i))

met-within : {b : Book} {k v : ℕ} {s : List ℕ} {p n at : ℕ} {xs : List ℕ} {es : List Item} → Met b k v s p n at xs es → (m : List ℕ) → Lies m at xs → Every (FilledIn m) es
unfolding Every item_of
met-within ends m l = tt
met-within (alone {at = at} h a e t) m l =
    let c : at + (element_header + h.len) ≡ at + element_header + h.len = omega arith in
    (λ z. absurd (omega (arith, z, e)), met-within t m (rw c at (lies-drop l (element_header + h.len) (fits a))))
met-within (group {at = at} {xs = xs} {is = is} {es = es} h g a e d t) m l =
    let c : at + (element_header + h.len) ≡ at + element_header + h.len = omega arith in
    let inner = lies-drop l element_header (omega (arith, fits a)) in
    let value : take h.len (drop element_header xs) ≡ take h.len (drop (at + element_header) m) = lies-is inner h.len (simp length-drop (omega (arith, fits a))) in
    let f = met-filled d in
    let filled : Filled (take h.len (drop element_header xs)) (frames_of (take h.len (drop element_header xs))) = rw (frames-of f.1) f.1 in (
      λ z. rw value at filled,
      every_append (FilledIn m) is es (met-within d m (lies-take inner h.len)) (met-within t m (rw c at (lies-drop l (element_header + h.len) (fits a)))),
    )

-- ---- all of them

module _ (b : Book) (fine : sound b ≡ true) (k : ℕ) (m : List ℕ) (p : Passed b k m) (t : List ℕ) (x : IsTable b k m t) (r : ℕ) (l : r < rows t) (e : row_standing t r ≡ void) where
  void-filled : Filled (take (row_length t r) (drop (row_place t r) m)) (frames_in m t r)
  void-filled = over-filled (its_limits b k m t r) (take (row_length t r) (drop (row_place t r) m)) ((void_iff b k m t x.right r l).0 e).3

  pub inner-says : (c : ℕ) (f : Frame) → Inner (frames_in m t r) c f → Says (drop c (take (row_length t r) (drop (row_place t r) m))) f
  inner-says c f i = inner-at void-filled i

  hidden_open : (j : ℕ) → row_place t r ≤ j → j < row_end t r → hides (frames_in m t r) (j - row_place t r) ≡ false → covered b k m j ≡ false
  hidden_open j a d h =
      let y = complete b fine k m t x in
      let es = y.0 in
      let z : items b k m ≡ y.0 = ap items_in y.1 in
      let u : r < length y.0 = rw (count_of t y.0 y.2) at l in
      let shows = every-at (Shown m) y.0 (rows-shown b fine k m y.0 y.1 p.has_header) r u in
      let place : row_place t r ≡ value_place (nth y.0 r) = row_of t y.0 y.2 r 3 u (omega arith) in
      let len : row_length t r ≡ (nth y.0 r).len = row_of t y.0 y.2 r 4 u (omega arith) in
      let stand : (nth y.0 r).stand ≡ void = sym (row_of t y.0 y.2 r 5 u (omega arith)) ∙ e in
      let hidden : (nth y.0 r).hidden ≡ frames_in m t r = hidden-void m t y.0 y.2 r j u shows stand in
      let shut : hides (nth y.0 r).hidden (j - value_place (nth y.0 r)) ≡ false = rw (hidden, ← place) h in
      void-header_open b fine k m r (rw z u) (rw z stand) j (rw z (omega (arith, a, place))) (rw z (omega (arith, d, place, len))) (rw z shut)

  pub covers-void : (j : ℕ) → row_place t r ≤ j → j < row_end t r → covered b k m j ≡ hides (frames_in m t r) (j - row_place t r)
  covers-void j a d = go (hides (frames_in m t r) (j - row_place t r)) refl
    where
      go : (c : Bool) → hides (frames_in m t r) (j - row_place t r) ≡ c → covered b k m j ≡ c
      go true h = (covered_iff b fine k m j).1 (p, (t, x, (r, record { there = l; begins = a; ends = d }, within e h)))
      go false h = hidden_open j a d h

  -- an element inside, c octets from the start of the value
  module _ (c : ℕ) (f : Frame) (i : Inner (frames_in m t r) c f) where
    pub inner-ends : row_place t r + c + element_header + f.len ≤ row_end t r
    inner-ends =
        let xs = take (row_length t r) (drop (row_place t r) m) in
        let s = inner-at void-filled i in
        omega (arith, head-some (drop c xs) s.whole, ap (λ (g : Frame). g.len) s.is, length-drop c xs, length-take (row_length t r) (drop (row_place t r) m))

    pub inner-value-covered : (j : ℕ) → row_place t r + c + element_header ≤ j → j < row_place t r + c + element_header + f.len → covered b k m j ≡ true
    inner-value-covered j a d =
        let z : j - row_place t r ≡ c + (element_header + (j - (row_place t r + c + element_header))) = omega arith in
        covers-void j (omega arith) (omega (arith, inner-ends)) ∙ rw z (inner-value i (j - (row_place t r + c + element_header)) (omega arith))

    pub inner-header_open : (j : ℕ) → row_place t r + c ≤ j → j < row_place t r + c + element_header → covered b k m j ≡ false
    inner-header_open j a d =
        let z : j - row_place t r ≡ c + (j - (row_place t r + c)) = omega arith in
        covers-void j (omega arith) (omega (arith, inner-ends)) ∙ rw z (inner-header i (j - (row_place t r + c)) (omega arith))

-- ---- the value of an overload report, kept or void

module _ (b : Book) (fine : sound b ≡ true) (k : ℕ) (m : List ℕ) (p : Passed b k m) (t : List ℕ) (x : IsTable b k m t) (r : ℕ) (g : KeptGroup t r) where
  pub kept-filled : Filled (take (row_length t r) (drop (row_place t r) m)) (frames_in m t r)
  kept-filled =
      let y = complete b fine k m t x in
      let u : r < length y.0 = rw (count_of t y.0 y.2) at g.there in
      let back = backward b k m t x.right r g.there in
      let in-level = group-level b fine k (body_level b m) t r g.there back (kept-listed b k m t r (x.right.standing r g.there) g.stand) g in
      let place : row_place t r ≡ value_place (nth y.0 r) = row_of t y.0 y.2 r 3 u (omega arith) in
      let len : row_length t r ≡ (nth y.0 r).len = row_of t y.0 y.2 r 4 u (omega arith) in
      rw (place, len)
      (every-at (FilledIn m) y.0 (met-within (body-met b k m y.0 y.1) m (body-lies m p.has_header)) r u (omega (arith, in-level, row-level b fine k m p t x r)))

pub report-filled : (k : ℕ) (m : List ℕ) (p : Passed book k m) (t : List ℕ) (x : IsTable book k m t) (r : ℕ) (l : r < rows t) → Report m t r
    → Filled (take (row_length t r) (drop (row_place t r) m)) (frames_in m t r)
unfolding is_group groups
report-filled k m p t x r l o = go (dec_lt 10 (points m t r))
  where
    go : Dec (10 < points m t r) → Filled (take (row_length t r) (drop (row_place t r) m)) (frames_in m t r)
    go (yes n) = void-filled book book-sound k m p t x r l ((report-void k m p t x r l).1 (o, n))
    go (no n) = kept-filled book book-sound k m p t x r (record { there = l; stand = report-kept k m p t x r l o (omega arith); group = rw o.typ refl })
