-- What is built has the rows that were given, row by row and number by number; a group's place and length are worked out, and a value stands where it was put.
-- Assumes nothing.
--     BuiltAs     how a row agrees with the row given
--     built-count, built-kept, built_as    the law
use mathlib.Core.Path.{◌≡◌, refl, sym, ap, ◌∙◌}
use mathlib.Core.Bool.{true, false}
use mathlib.Core.List.{List}
use Prim.Native.Nat.{ℕ, zero, suc, ◌+◌, ◌-◌, ◌%◌, ◌≤◌, ◌<◌}
use native.Mathlib.Omega.{arith}
use native.Mathlib.Nat.{add-zero}
use lib.ListN.{length, take, drop, get_or, length-drop}
use lib.Seq.{length-take-le}
use Rattle.rules.specs.Framing.{octet, header_length}
use Rattle.rules.specs.Types.{is_group}
use Rattle.rules.specs.Listings.{Book}
use Rattle.rules.specs.Standing.{Item, kept, value_place}
use Rattle.rules.specs.Table.{kept_rows, nth}
use Rattle.rules.specs.Values.{row_count, row_parent, row_type, row_instance, row_place, row_length}
use Rattle.rules.specs.Verdicts.{refuses, items}
use Rattle.rules.specs.Sound.{sound}
use Rattle.rules.specs.Emitting.{Piece}
use Rattle.rules.specs.Cleaned.{received, pieces}
use Rattle.rules.specs.Built.{given, givens, given_rows, built, late_verdict}
use Rattle.rules.proofs.Rows.{every-at, body-met}
use Rattle.rules.proofs.Places.{Ranged, ranged}
use Rattle.emitted.proofs.Again.{pieces-length}
use Rattle.emitted.proofs.Cleaning.{here-from}
use Rattle.emitted.proofs.KeptRows.{nobodys, pieces-at}
use Rattle.emitted.proofs.Wholes.{Wholly, accepted-wholly, all-kept-rows}
use Rattle.emitted.proofs.Building.{instances, right, build-accepted, build-rows}

-- row r of the elements es of the octets m is row r of the table t, with the octets that it has in `values`
pub record BuiltAs (t values m : List ℕ) (es : List Item) (r : ℕ) : Type 0 where
  pub parent : (nth es r).parent ≡ row_parent t r
  pub typ : (nth es r).typ ≡ row_type t r
  pub inst : (nth es r).inst ≡ row_instance t r
  pub stand : (nth es r).stand ≡ kept
  pub len : is_group (row_type t r) ≡ false → (nth es r).len ≡ row_length t r
  pub value : is_group (row_type t r) ≡ false → take (nth es r).len (drop (value_place (nth es r)) m) ≡ take (row_length t r) (drop (row_place t r) values)
  pub low : octet m (value_place (nth es r) - 1) < 16

pub givens-length : (t values : List ℕ) (r n : ℕ) → length (givens t values r n) ≡ n
unfolding givens
givens-length t values r zero = refl
givens-length t values r (suc n) = rw (givens-length t values (suc r) n)

givens-at : (t values : List ℕ) (r n j : ℕ) → j < n → get_or (givens t values r n) j nobodys ≡ given t values (r + j)
unfolding givens
givens-at t values r zero j l = absurd (omega arith)
givens-at t values r (suc n) zero l = let e : r + 0 ≡ r = add-zero r in rw e
givens-at t values r (suc n) (suc j) l = let e : r + suc j ≡ suc r + j = omega arith in rw e (givens-at t values (suc r) n j (omega arith))

module _ (b : Book) (fine : sound b ≡ true) (k typ teid sequence : ℕ) (t values : List ℕ) (room : ℕ) (ok : refuses (late_verdict b k typ teid sequence t values room) ≡ false) where
  abbrev made : List ℕ
  made = built b k typ teid sequence t values

  abbrev es : List Item
  es = items b k made

  wholly : Wholly b k made es
  wholly =
      let r = accepted-wholly b k made (build-accepted b fine k typ teid sequence t values room ok) in
      rw r.1.taken_whole r.1

  same_rows : pieces made es ≡ given_rows t values
  same_rows = build-rows b fine k typ teid sequence t values room ok

  pub built-count : length es ≡ row_count t
  built-count = sym (pieces-length made es) ∙ ap length same_rows ∙ givens-length t values 0 (row_count t)

  pub built-kept : kept_rows es ≡ row_count t
  built-kept = all-kept-rows es wholly.all_kept ∙ built-count

  row_same : (r : ℕ) → r < length es → received made (nth es r) ≡ given t values r
  row_same r l =
      let z : 0 + r ≡ r = omega arith in
      sym (pieces-at made es r l) ∙ ap (λ (ps : List Piece). get_or ps r nobodys) same_rows ∙ givens-at t values 0 (row_count t) r (omega (arith, built-count)) ∙ rw z

  last-octet : (r : ℕ) → r < length es → octet made ((nth es r).place + 3) ≡ row_instance t r
  unfolding received given
  last-octet r l = ap (λ (x : Piece). x.fourth) (row_same r l)

  same-typ : (r : ℕ) → r < length es → (nth es r).typ ≡ row_type t r
  unfolding received given
  same-typ r l = ap (λ (x : Piece). x.typ) (row_same r l)

  low_instance : (r : ℕ) → r < length es → (nth es r).inst ≡ octet made ((nth es r).place + 3) % 16
  low_instance r l =
      every-at (λ (i : Item). i.inst ≡ octet made (i.place + 3) % 16) es
      (instances (body-met b k made es wholly.taken_whole) made (here-from made (header_length made))) r l

  in_message : (r : ℕ) → r < length es → value_place (nth es r) + (nth es r).len ≤ length made
  in_message r l =
      let met = body-met b k made es wholly.taken_whole in
      let f = every-at (Ranged 0 0 (header_length made) (header_length made + length (drop (header_length made) made)) (0 + length es)) es (ranged met (omega arith)) r l in
      omega (arith, f.finishes, length-drop (header_length made) made, wholly.passed.has_header)

  pub built_as : (r : ℕ) → r < row_count t → BuiltAs t values made es r
  unfolding received given
  built_as r c =
      let l : r < length es = omega (arith, built-count) in
      let w = (right b fine k typ teid sequence t values room ok).each r c in
      let value : is_group (row_type t r) ≡ false → take (nth es r).len (drop (value_place (nth es r)) made) ≡ take (row_length t r) (drop (row_place t r) values) =
      λ g. rw (same-typ r l, g) at (ap (λ (x : Piece). x.value) (row_same r l)) in
      record {
        parent = ap (λ (x : Piece). x.parent) (row_same r l);
        typ = same-typ r l;
        inst = omega (arith, low_instance r l, last-octet r l, w.inst);
        stand = ap (λ (x : Piece). x.stand) (row_same r l) ∙ w.stand;
        len = λ g.
            sym (length-take-le (nth es r).len (drop (value_place (nth es r)) made) (omega (arith, in_message r l, length-drop (value_place (nth es r)) made)))
            ∙ ap length (value g)
            ∙ length-take-le (row_length t r) (drop (row_place t r) values) (omega (arith, w.there g, length-drop (row_place t r) values));
        value = value;
        low = let e : value_place (nth es r) - 1 ≡ (nth es r).place + 3 = omega arith in rw e (omega (arith, last-octet r l, w.inst));
      }
