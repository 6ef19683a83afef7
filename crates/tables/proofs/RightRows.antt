-- Each row of what was walked of a message is right: the laws of its elements, carried to the numbers of a table that theirs stands at the start of.
-- Assumes nothing.
use mathlib.Core.Path.{◌≡◌, refl, sym, ap, ◌∙◌}
use mathlib.Core.Bool.{true}
use mathlib.Core.List.{List}
use Prim.Native.Nat.{ℕ, zero, suc, ◌+◌, ◌%◌, ◌≤◌, ◌<◌}
use native.Mathlib.Omega.{arith}
use lib.ListN.{length}
use Rattle.rules.specs.Sizes.{used}
use Rattle.rules.specs.Framing.{octet, two_octets, header_length, message_type}
use Rattle.rules.specs.Types.{is_group}
use Rattle.rules.specs.Listings.{Book, is_message}
use Rattle.rules.specs.Standing.{Item, value_place, value_end}
use Rattle.rules.specs.Taking.{body_level}
use Rattle.rules.specs.Table.{kept_rows, nth}
use Rattle.rules.specs.Sound.{sound}
use Rattle.rules.specs.Values.{row_parent, row_type, row_instance, row_place, row_length, row_standing}
use Rattle.tables.specs.Words.{rows, kept_count, kept_among, row_start, row_end, RowOver, KeptGroup, IsLevel, Inside, Faithful}
use Rattle.tables.specs.Levels.{level_of}
use Rattle.tables.specs.Standings.{StandsAs}
use Rattle.tables.specs.IsTable.{IsOf, IsRows}
use Rattle.tables.specs.Places.{Within, Lies}
use Rattle.tables.proofs.Rowed.{kept_from, Begins, row_of, count_of, kept_of, first_of, used-of, level-of}
use Rattle.tables.proofs.Messages.{WalkedOf, all-stand, all_placed, all-backward, parent-before}
use Rattle.tables.proofs.Elements.{within, siblings, in_order, parent-kept}
use Rattle.tables.proofs.Marks.{tells-fresh}
use Rattle.tables.proofs.Standings.{kept-listed}
use Rattle.tables.proofs.Levels.{level-group, group-level}
use Rattle.tables.proofs.Faithful.{rows-faithful, sub-body}
use Rattle.tables.proofs.Filling.{Over}
use Rattle.tables.proofs.Stood.{stood}

module _ (b : Book) (fine : sound b ≡ true) (k : ℕ) (m t : List ℕ) (es : List Item) (ok : Begins t es) (d : WalkedOf b k m es)
    (body : header_length m ≤ length m) (listed : is_message b (message_type m) ≡ true) where
  pub count : rows t ≡ length es
  count = count_of t es ok

  -- ---- a row's numbers are its element's

  pub record Same (r : ℕ) : Type 0 where
    pub there : r < length es
    pub parent : row_parent t r ≡ (nth es r).parent
    pub typ : row_type t r ≡ (nth es r).typ
    pub inst : row_instance t r ≡ (nth es r).inst
    pub start : row_start t r ≡ (nth es r).place
    pub place : row_place t r ≡ value_place (nth es r)
    pub len : row_length t r ≡ (nth es r).len
    pub end : row_end t r ≡ value_end (nth es r)
    pub stand : row_standing t r ≡ (nth es r).stand

  pub same : (r : ℕ) → r < rows t → Same r
  same r l =
      let h : r < length es = rw count at l in
      let p : row_place t r ≡ value_place (nth es r) = row_of t es ok r 3 h (omega arith) in
      let n : row_length t r ≡ (nth es r).len = row_of t es ok r 4 h (omega arith) in record {
        there = h;
        parent = row_of t es ok r 0 h (omega arith);
        typ = row_of t es ok r 1 h (omega arith);
        inst = row_of t es ok r 2 h (omega arith);
        start = omega (arith, p);
        place = p;
        len = n;
        end = omega (arith, p, n);
        stand = row_of t es ok r 5 h (omega arith);
      }

  -- ---- the levels

  pub levels : (q : ℕ) → level_of b k (body_level b m) t (suc q) ≡ (nth es q).inside
  levels q = level-of b k (body_level b m) t es ok (all_placed b fine k m es d listed) (all-backward b fine k m es d) (suc q)

  pub back : (r : ℕ) → r < length es → (nth es r).parent ≤ r
  back = parent-before b fine k m es d

  -- ---- line by line

  kept-rows : kept_count t ≡ kept_among t (rows t)
  unfolding kept_among
  kept-rows =
      let z : 0 + length es ≡ length es = omega arith in
      let y : 0 + kept_rows es ≡ kept_rows es = omega arith in
      kept_of t es ok ∙ sym (rw (z, y) at (kept_from t 0 es (λ j l. let w : 0 + j ≡ j = omega arith in rw w (row_of t es ok j 5 l (omega arith))))) ∙ ap (kept_among t) (sym count)

  faithful : (r : ℕ) → r < rows t → Faithful m t r
  faithful r l =
      let s = same r l in
      let f = rows-faithful m d r s.there in record {
        place = omega (arith, s.place);
        typ = s.typ ∙ f.typ ∙ ap (octet m) (sym s.start);
        len = s.len ∙ f.len ∙ ap (λ (j : ℕ). two_octets m (j + 1)) (sym s.start);
        inst = s.inst ∙ f.inst ∙ ap (λ (j : ℕ). octet m (j + 3) % 16) (sym s.start);
      }

  parents : (r : ℕ) → r < rows t → IsLevel t (row_parent t r)
  parents r l = go (row_parent t r) (same r l).parent
    where
      go : (p : ℕ) → p ≡ (nth es r).parent → IsLevel t p
      go zero z = tt
      go (suc q) z =
          let s = same r l in
          let p = parent-kept b fine k m es d listed q r s.there (sym z) in
          let o = same q (omega (arith, p.0)) in
          record { there = omega (arith, p.0); stand = o.stand ∙ p.1; group = ap is_group o.typ ∙ p.2 }

  inside : (r : ℕ) → r < rows t → Inside m t r
  unfolding Within
  inside r l = go (row_parent t r) refl
    where
      s : Same r
      s = same r l

      home : Lies es (header_length m) (length m) (nth es r)
      home = within b fine k m es d body r s.there

      go : (p : ℕ) → row_parent t r ≡ p → Inside m t r
      go zero z =
          let w : Within es (header_length m) (length m) zero (nth es r).place (value_end (nth es r)) = rw (sym s.parent ∙ z) at home in
          record { begins = rw z (omega (arith, w.0, s.start)); ends = rw z (omega (arith, w.1, s.end)) }
      go (suc q) z =
          let w : Within es (header_length m) (length m) (suc q) (nth es r).place (value_end (nth es r)) = rw (sym s.parent ∙ z) at home in
          let o = same q (rw count w.0) in
          record { begins = rw z (omega (arith, w.1, s.start, o.place)); ends = rw z (omega (arith, w.2, s.end, o.end)) }

  order : (x y : ℕ) → x < y → y < rows t → row_place t x < row_place t y
  order x y l h = let s = same y h in omega (arith, in_order b fine k m es d x y l s.there, s.place, (same x (omega arith)).place)

  apart : (x y : ℕ) → x < y → y < rows t → row_parent t x ≡ row_parent t y → row_end t x ≤ row_start t y
  apart x y l h z =
      let s = same y h in
      let o = same x (omega arith) in
      omega (arith, siblings b fine k m es d x y l s.there (sym o.parent ∙ z ∙ s.parent), s.start, o.end)

  pub standing : (r : ℕ) → r < rows t → StandsAs b k m t r (row_standing t r)
  standing r l =
      let s = same r l in
      let z : 0 + r ≡ r = omega arith in
      let c = stood b fine k m t es ok levels back d (all-stand b fine k m es d) refl (omega arith) (sub-body m (header_length m))
      (tells-fresh b fine k (body_level b m) t 0 0 (λ y h. absurd (omega arith))) r s.there in
      rw s.stand (rw z at c)

  -- ---- what a cover by elements says of the table

  pub over : (p j r : ℕ) → r < length es → Over p j (nth es r) → RowOver t p j r
  over p j r l o =
      let s = same r (rw count l) in
      record { there = rw count l; parent = s.parent ∙ o.parent; begins = omega (arith, s.start, o.begins); ends = omega (arith, s.end, o.ends_after) }

  pub is-group : (q : ℕ) → q < length es → 0 < (nth es q).inside → KeptGroup t q
  is-group q l some = level-group b fine k (body_level b m) t q (rw count l) (omega (arith, (same q (rw count l)).parent, back q l)) (omega (arith, some, levels q))

  pub is-entered : (q : ℕ) → KeptGroup t q → 0 < (nth es q).inside
  is-entered q g =
      let s = same q g.there in
      let some = group-level b fine k (body_level b m) t q g.there (omega (arith, s.parent, back q s.there)) (kept-listed b k m t q (standing q g.there) g.stand) g in
      omega (arith, some, levels q)

  pub is-rows : IsOf k m t → IsRows b k m t
  is-rows of = record {
    size = rw count ok.room;
    kept-rows = kept-rows;
    first-row = first_of t es ok;
    numbers-used = used-of t es ok ∙ ap used (sym count);
    of = of;
    has_body = body;
    faithful = faithful;
    parents = parents;
    inside = inside;
    order = order;
    apart = apart;
    standing = standing;
  }
