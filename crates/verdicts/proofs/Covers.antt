-- An octet is covered exactly where the message has its table and a row of that table covers it: the test over the elements, taken apart. Assumes nothing.
use mathlib.Core.Path.{◌≡◌, refl, sym, ap, ◌∙◌}
use mathlib.Core.Logic.{◌⊎◌, inl, inr, ◌↔◌}
use mathlib.Core.Bool.{Bool, true, false, cond, not, ◌&&◌, ◌||◌}
use mathlib.Core.List.{List, [], ◌∷◌}
use Prim.Native.Nat.{ℕ, zero, suc, ◌-◌, ◌<◌}
use native.Mathlib.Omega.{arith}
use borrow.Author.Tests.{eqb-true, eqb-false, eq-eqb, ne_eqb, leb-true, le-leb, ltb-true, lt-ltb}
use lib.Dec.{eqb, leb, ltb}
use lib.ListN.{length, take, drop}
use Rattle.rules.specs.Framing.{message_type}
use Rattle.rules.specs.Frames.{frames_of, hides}
use Rattle.rules.specs.Types.{covers_whole, covers_rest}
use Rattle.rules.specs.Listings.{Book}
use Rattle.rules.specs.Standing.{Item, kept, unexpected, repeated, short, void, value_place, value_end}
use Rattle.rules.specs.Taking.{items_in}
use Rattle.rules.specs.Table.{table_of, header, nth}
use Rattle.rules.specs.Verdicts.{refuses, first, framing_checks, items}
use Rattle.rules.specs.Covered.{is_value_octet, is_aside, covers_but_first, own_covered, covered_by, covered_in, covered}
use Rattle.rules.specs.Sound.{sound}
use Rattle.rules.specs.Values.{row_type, row_place, row_length, row_standing}
use Rattle.rules.proofs.Header.{Passed, framed}
use Rattle.rules.proofs.Lines.{and_left, and_right}
use Rattle.rules.proofs.Rows.{every-at}
use Rattle.rules.proofs.Unseen.{Shown, rows-shown}
use Rattle.tables.specs.IsTable.{IsTable}
use Rattle.verdicts.specs.Covers.{ValueOver, frames_in, Covers, aside, secret, rest, within}
use Rattle.tables.proofs.Tests.{true_or, un_not, and-true, or_either, or_left, or_right}
use Rattle.tables.proofs.Rowed.{own_of, Begins, own-begins, row_of, count_of}
use Rattle.tables.proofs.Soundness.{is-table}
use Rattle.verdicts.proofs.Completeness.{complete}
use Rattle.verdicts.proofs.Accepting.{passes}

either_number : (n a c : ℕ) → eqb n a || eqb n c ≡ true → (n ≡ a) ⊎ (n ≡ c)
either_number n a c e = go (or_either (eqb n a) (eqb n c) e)
  where
    go : (eqb n a ≡ true) ⊎ (eqb n c ≡ true) → (n ≡ a) ⊎ (n ≡ c)
    go (inl f) = inl (eqb-true n a f)
    go (inr f) = inr (eqb-true n c f)

number-either : (n a c : ℕ) → (n ≡ a) ⊎ (n ≡ c) → eqb n a || eqb n c ≡ true
number-either n a c (inl e) = or_left (eqb n a) (eqb n c) (eq-eqb n a e)
number-either n a c (inr e) = or_right (eqb n a) (eqb n c) (eq-eqb n c e)

-- ---- some element covers

covered-at : (is : List Item) (j r : ℕ) → r < length is → covered_by (nth is r) j ≡ true → covered_in is j ≡ true
unfolding covered_in
covered-at [] j r l e = absurd (omega arith)
covered-at (i ∷ is) j zero l e = or_left (covered_by i j) (covered_in is j) e
covered-at (i ∷ is) j (suc r) l e = or_right (covered_by i j) (covered_in is j) (covered-at is j r (omega arith) e)

covered-some : (is : List Item) (j : ℕ) → covered_in is j ≡ true → (r : ℕ) × (r < length is) × (covered_by (nth is r) j ≡ true)
unfolding covered_in
covered-some [] j e = let z : ◌≡◌ {A = ℕ} 0 1 = cc in absurd (omega arith)
covered-some (i ∷ is) j e = go (or_either (covered_by i j) (covered_in is j) e) (covered-some is j)
  where
    go : (covered_by i j ≡ true) ⊎ (covered_in is j ≡ true) → (covered_in is j ≡ true → (r : ℕ) × (r < length is) × (covered_by (nth is r) j ≡ true))
        → (r : ℕ) × (r < suc (length is)) × (covered_by (nth (i ∷ is) r) j ≡ true)
    go (inl f) more = (0, omega arith, f)
    go (inr f) more = let x = more f in (suc x.0, omega (arith, x.1), x.2)

-- ---- one element and its row

module _ (m t : List ℕ) (es : List Item) (ok : Begins t es) (r j : ℕ) (l : r < length es) (shows : Shown m (nth es r)) where
  abbrev i : Item
  i = nth es r

  typ : row_type t r ≡ i.typ
  typ = row_of t es ok r 1 l (omega arith)

  place : row_place t r ≡ value_place i
  place = row_of t es ok r 3 l (omega arith)

  len : row_length t r ≡ i.len
  len = row_of t es ok r 4 l (omega arith)

  stand : row_standing t r ≡ i.stand
  stand = row_of t es ok r 5 l (omega arith)

  value-over : is_value_octet i j ≡ true → ValueOver t j r
  unfolding table_of header
  value-over e =
      let a = leb-true (value_place i) j (and_left (leb (value_place i) j) (ltb j (value_end i)) e) in
      let c = ltb-true j (value_end i) (and_right (leb (value_place i) j) (ltb j (value_end i)) e) in
      record { there = rw (count_of t es ok) l; begins = omega (arith, a, place); ends = omega (arith, c, place, len) }

  over-value : ValueOver t j r → is_value_octet i j ≡ true
  over-value v =
      and-true (leb (value_place i) j) (ltb j (value_end i)) (le-leb (value_place i) j (omega (arith, v.begins, place))) (lt-ltb j (value_end i) (omega (arith, v.ends, place, len)))

  -- what stands inside the row's value, as the message has it
  frames : frames_in m t r ≡ frames_of (take i.len (drop (value_place i) m))
  frames = rw (len, place)

  pub hidden-void : i.stand ≡ void → i.hidden ≡ frames_in m t r
  hidden-void e = shows.hidden ∙ ap (λ (c : Bool). cond c (frames_of (take i.len (drop (value_place i) m))) []) (eq-eqb i.stand void e) ∙ sym frames

  hides-void : hides i.hidden (j - value_place i) ≡ true → i.stand ≡ void
  unfolding hides
  hides-void e = go (true_or (eqb i.stand void))
    where
      go : (eqb i.stand void ≡ true) ⊎ (eqb i.stand void ≡ false) → i.stand ≡ void
      go (inl c) = eqb-true i.stand void c
      go (inr c) =
          let n : i.hidden ≡ [] = shows.hidden ∙ ap (λ (c : Bool). cond c (frames_of (take i.len (drop (value_place i) m))) []) c in
          let w : false ≡ true = rw n at e in
          let z : ◌≡◌ {A = ℕ} 0 1 = cc in absurd (omega arith)

  abbrev own : Bool
  own = is_aside i.stand || covers_whole i.typ || covers_but_first i j

  abbrev inner : Bool
  inner = hides i.hidden (j - value_place i)

  covers-row : Covers m t j r → own || inner ≡ true
  covers-row (aside f) =
      or_left own inner
      (or_left (is_aside i.stand || covers_whole i.typ) (covers_but_first i j)
      (or_left (is_aside i.stand) (covers_whole i.typ) (number-either i.stand unexpected repeated (rw stand at f))))
  covers-row (secret f) =
      or_left own inner (or_left (is_aside i.stand || covers_whole i.typ) (covers_but_first i j) (or_right (is_aside i.stand) (covers_whole i.typ) (rw typ at f)))
  covers-row (rest f g h) =
      or_left own inner
      (or_right (is_aside i.stand || covers_whole i.typ) (covers_but_first i j)
      (and-true (covers_rest i.typ && (eqb i.stand kept || eqb i.stand short)) (not (eqb j (value_place i)))
      (and-true (covers_rest i.typ) (eqb i.stand kept || eqb i.stand short) (rw typ at f) (number-either i.stand kept short (rw stand at g)))
      (rw (ne_eqb j (value_place i) (rw place at h)))))
  covers-row (within f g) = or_right own inner (rw (hidden-void (sym stand ∙ f), ← place) g)

  row-covers : own || inner ≡ true → Covers m t j r
  row-covers e = all (or_either own inner e)
    where
      front : (is_aside i.stand ≡ true) ⊎ (covers_whole i.typ ≡ true) → Covers m t j r
      front (inl f) = aside (rw stand (either_number i.stand unexpected repeated f))
      front (inr f) = secret (rw typ f)

      go : (is_aside i.stand || covers_whole i.typ ≡ true) ⊎ (covers_but_first i j ≡ true) → Covers m t j r
      go (inl f) = front (or_either (is_aside i.stand) (covers_whole i.typ) f)
      go (inr f) =
          let a = and_left (covers_rest i.typ && (eqb i.stand kept || eqb i.stand short)) (not (eqb j (value_place i))) f in
          let c = and_right (covers_rest i.typ && (eqb i.stand kept || eqb i.stand short)) (not (eqb j (value_place i))) f in
          rest (rw typ (and_left (covers_rest i.typ) (eqb i.stand kept || eqb i.stand short) a))
          (rw stand (either_number i.stand kept short (and_right (covers_rest i.typ) (eqb i.stand kept || eqb i.stand short) a)))
          (rw place (eqb-false j (value_place i) (un_not (eqb j (value_place i)) c)))

      all : (own ≡ true) ⊎ (inner ≡ true) → Covers m t j r
      all (inl f) = go (or_either (is_aside i.stand || covers_whole i.typ) (covers_but_first i j) f)
      all (inr f) = let v = hides-void f in within (stand ∙ v) (rw (← hidden-void v, place) f)

  -- both tests are of a value octet
  both : covered_by i j ≡ is_value_octet i j && (own || inner)
  unfolding covered_by own_covered
  both = spread (is_value_octet i j)
    where
      spread : (c : Bool) → (c && own) || (c && inner) ≡ c && (own || inner)
      spread true = refl
      spread false = refl

  pub by_row : covered_by i j ≡ true → ValueOver t j r × Covers m t j r
  by_row e = let f : is_value_octet i j && (own || inner) ≡ true = sym both ∙ e in
      (value-over (and_left (is_value_octet i j) (own || inner) f), row-covers (and_right (is_value_octet i j) (own || inner) f))

  pub row_by : ValueOver t j r → Covers m t j r → covered_by i j ≡ true
  row_by v c = both ∙ and-true (is_value_octet i j) (own || inner) (over-value v) (covers-row c)

-- ---- the message

module _ (b : Book) (fine : sound b ≡ true) (k : ℕ) (m : List ℕ) (j : ℕ) where
  abbrev pub CoveredByRow : Type 0
  CoveredByRow = Passed b k m × ((t : List ℕ) × IsTable b k m t × ((r : ℕ) × ValueOver t j r × Covers m t j r))

  to : covered b k m j ≡ true → CoveredByRow
  unfolding covered
  to e =
      let f = framed b k m (un_not (refuses (first (framing_checks b k m))) (and_left (not (refuses (first (framing_checks b k m)))) (covered_in (items b k m) j) e)) in
      let es = f.1.0 in
      let z : items b k m ≡ f.1.0 = ap items_in f.1.1 in
      let c = covered-some f.1.0 j (rw z at (and_right (not (refuses (first (framing_checks b k m)))) (covered_in (items b k m) j) e)) in
      let t = table_of (message_type m) k es in
      let ok = own-begins (message_type m) k es in
      let shows = every-at (Shown m) es (rows-shown b fine k m es f.1.1 f.0.has_header) c.0 c.1 in
      let o = by_row m t es ok c.0 j c.1 shows c.2 in
      (f.0, (t, is-table b fine k m t es ok f.1.1 f.0.has_header f.0.listed (own_of k m es), (c.0, o.0, o.1)))

  from : CoveredByRow → covered b k m j ≡ true
  unfolding covered
  from (p, (t, x, (r, v, c))) =
      let y = complete b fine k m t x in
      let es = y.0 in
      let l : r < length y.0 = rw (count_of t y.0 y.2) at v.there in
      let z : items b k m ≡ y.0 = ap items_in y.1 in
      let shows = every-at (Shown m) es (rows-shown b fine k m es y.1 p.has_header) r l in
      let d : covered_by (nth y.0 r) j ≡ true = row_by m t es y.2 r j l shows v c in
      and-true (not (refuses (first (framing_checks b k m)))) (covered_in (items b k m) j) (rw (passes b fine k m p es y.1)) (rw z (covered-at es j r l d))

  pub covered_iff : (covered b k m j ≡ true) ↔ CoveredByRow
  covered_iff = (to, from)
