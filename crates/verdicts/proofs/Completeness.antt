-- A table that is as IsTable says is the table of the message's elements, and the message is whole: the body is a level like any other, with no row
-- behind, and no row is left after it, since none begins behind the message's end. Assumes nothing.
--     complete   IsTable b k m t gives elements es with taken b k m ≡ whole es, and their table stands at the start of t
--     one_table  two such tables have the same numbers, as far as they are used
use mathlib.Core.Path.{◌≡◌, refl, sym, ap, ◌∙◌}
use mathlib.Core.Bool.{true}
use mathlib.Core.List.{List}
use Prim.Native.Nat.{ℕ, zero, suc, ◌+◌, ◌*◌, ◌≤◌, ◌/◌, ◌%◌, ◌<◌}
use native.Mathlib.Omega.{arith}
use native.Mathlib.Decide.{dec_lt}
use lib.ListN.{length-drop, length, drop, get_or}
use Rattle.rules.specs.Sizes.{row_numbers, used}
use Rattle.rules.specs.Framing.{element_header, header_length}
use Rattle.rules.specs.Listings.{Book}
use Rattle.rules.specs.Standing.{Item, fresh}
use Rattle.rules.specs.Taking.{whole, taken, body_level}
use Rattle.rules.specs.Table.{kept_rows, header, table_of}
use Rattle.rules.specs.Sound.{sound}
use Rattle.rules.specs.Values.{table_type, table_kind, cell}
use Rattle.rules.proofs.Mets.{met-whole}
use Rattle.rules.proofs.Rows.{quarter, body-met}
use Rattle.rules.proofs.Walked.{met-walked}
use Rattle.tables.proofs.Rowed.{begins-of, kept_from, Begins, own-begins, row_of, count_of}
use Rattle.tables.specs.Words.{rows, kept_among, CoversTo}
use Rattle.tables.specs.IsTable.{IsRows, IsTable}
use Rattle.tables.proofs.Trees.{start_is, in_message}
use Rattle.verdicts.proofs.Body.{body-ready}
use Rattle.verdicts.proofs.Rebuilding.{Built, build}

module _ (b : Book) (fine : sound b ≡ true) (k : ℕ) (m t : List ℕ) (w : IsTable b k m t) where
  abbrev x : IsRows b k m t
  x = w.right

  abbrev covers-to : CoversTo m t (length m)
  covers-to p lv j a c d = w.covers p lv j a c

  body-built : Built b fine k m t x (length m) covers-to (body_level b m) 0 0 (header_length m) (drop (header_length m) m) fresh
  body-built = build b fine k m t x (length m) covers-to (body_level b m) 0 0 (header_length m) (drop (header_length m) m) fresh (omega arith) (body-ready b fine k m t x (length m) covers-to)

  abbrev elements : List Item
  elements = body-built.es

  is_whole : taken b k m ≡ whole body-built.es
  unfolding taken
  is_whole = met-whole b k (body_level b m) (header_length m) (drop (header_length m) m) body-built.met

  all-rows : length body-built.es ≡ rows t
  all-rows = go (dec_lt (length body-built.es) (rows t))
    where
      go : Dec (length body-built.es < rows t) → length body-built.es ≡ rows t
      go (yes h) =
          let j = length body-built.es in
          absurd (omega (arith, body-built.behind (length body-built.es) (omega arith) h, in_message b k m t x (length body-built.es) h, start_is b k m t x (length body-built.es) h))
      go (no h) = omega (arith, body-built.rows_are.room)

  -- ---- the numbers

  kept_same : kept_among t (length body-built.es) ≡ kept_rows body-built.es
  unfolding kept_among
  kept_same =
      let z : 0 + length body-built.es ≡ length body-built.es = omega arith in
      let y : 0 + kept_rows body-built.es ≡ kept_rows body-built.es = omega arith in
      rw (z, y) at (kept_from t 0 body-built.es (λ j l. body-built.rows_are.same j l 5 (omega arith)))

  cell_same : (r c : ℕ) → r < length body-built.es → c < row_numbers → cell t r c ≡ cell (table_of (table_type t) (table_kind t) body-built.es) r c
  cell_same r c l h =
      let z : 0 + r ≡ r = omega arith in
      (rw z at (body-built.rows_are.same r l c h)) ∙ sym (row_of (table_of (table_type t) (table_kind t) body-built.es) body-built.es (own-begins (table_type t) (table_kind t) body-built.es) r c l h)

  number_same : (i : ℕ) → i < used (length body-built.es) → get_or t i 0 ≡ get_or (table_of (table_type t) (table_kind t) body-built.es) i 0
  unfolding table_of header
  number_same zero l = sym all-rows
  number_same (suc zero) l = x.kept-rows ∙ ap (kept_among t) (sym all-rows) ∙ kept_same
  number_same (suc (suc zero)) l = x.first-row
  number_same (suc (suc (suc zero))) l = x.numbers-used ∙ ap used (sym all-rows)
  number_same (suc (suc (suc (suc zero)))) l = refl
  number_same (suc (suc (suc (suc (suc zero))))) l = refl
  number_same (suc (suc (suc (suc (suc (suc i)))))) l =
      let e : suc (suc (suc (suc (suc (suc i))))) ≡ used (i / 6) + i % 6 = omega arith in
      rw e (cell_same (i / 6) (i % 6) (omega (arith, l)) (omega arith))

  pub complete : (es : List Item) × (taken b k m ≡ whole es) × Begins t es
  complete = (body-built.es, is_whole, record { room = rw all-rows x.size; same = number_same })

-- at most one table of a message on a kind is as IsTable says
pub one_table : (b : Book) → sound b ≡ true → (k : ℕ) (m t u : List ℕ) → IsTable b k m t → IsTable b k m u
    → (rows t ≡ rows u) × ((i : ℕ) → i < used (rows t) → get_or t i 0 ≡ get_or u i 0)
one_table b fine k m t u x y =
    let c = complete b fine k m t x in
    let d = complete b fine k m u y in
    let e : whole c.0 ≡ whole d.0 = sym c.1 ∙ d.1 in
    let z : c.0 ≡ d.0 = cc in
    let f : Begins u c.0 = rw z d.2 in
    let n : rows t ≡ length c.0 = count_of t c.0 c.2 in (
      count_of t c.0 c.2 ∙ sym (count_of u c.0 f),
      λ i l. begins-of k m t c.0 x.right.of c.2 i (rw n at l) ∙ sym (begins-of k m u c.0 y.right.of f i (rw n at l)),
    )

-- each row has its own header in the body
pub few : (b : Book) → sound b ≡ true → (k : ℕ) (m t : List ℕ) → IsTable b k m t → header_length m + element_header * rows t ≤ length m
few b fine k m t x =
    let c = complete b fine k m t x in
    omega (arith, quarter (met-walked (body-met b k m c.0 c.1)), length-drop (header_length m) m, x.right.has_body, count_of t c.0 c.2)
