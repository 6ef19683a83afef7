-- A row's line has at most 158 octets where values are cut: of a value at most 32 octets are shown, or one and that the rest is covered, and of a
-- void group none. Assumes nothing.
use mathlib.Core.Path.{◌≡◌, refl}
use mathlib.Core.Bool.{Bool, true, false, cond, ◌&&◌, ◌||◌}
use mathlib.Core.List.{List, [], ◌∷◌, ◌++◌}
use Prim.Native.Nat.{ℕ, ◌*◌, ◌≤◌}
use native.Mathlib.Omega.{arith}
use lib.Dec.{eqb, ltb}
use borrow.Author.Tests.{eqb-false, ltb-false}
use lib.ListN.{length, take, length-append, length-take}
use Rattle.rules.specs.Types.{covers_whole, covers_rest}
use Rattle.rules.specs.Standing.{kept, short, void}
use Rattle.rules.specs.Covered.{is_aside, open_octets}
use Rattle.rules.specs.Values.{table_rows, row_parent, row_type, row_place, row_standing}
use Rattle.rules.specs.declared.Verdict.{Verdict}
use Rattle.wording.specs.Pieces.{hexes}
use Rattle.wording.proofs.Turns.{turns-length, hexes-length}
use Rattle.phrases.specs.Words.{words}
use Rattle.phrases.specs.Table.{rows, endings, marks, covers, voids}
use Rattle.phrases.specs.Sentences.{said, narrow}
use Rattle.phrases.proofs.Lengths.{row-length, ending-length, mark-length, cover_length, void-length}
use Rattle.columns.specs.Values.{entered, seen_octets, octets_text, value_text, ending}
use Rattle.columns.specs.Rows.{row_run, value_of, marked, row_line, row_lines}
use Rattle.columns.specs.declared.View.{View}

-- what is not seen whole has at most one octet that is seen
one_case : (a r z : Bool) (n : ℕ) → (cond a 0 (cond (r && z) 1 n) ≡ n → ⊥) → cond a 0 (cond (r && z) 1 n) ≤ 1
one_case true r z n e = omega arith
one_case false true true n e = omega arith
one_case false true false n e = absurd (e refl)
one_case false false z n e = absurd (e refl)

seen_one : (right : Bool) (t s n : ℕ) → (seen_octets right t s n ≡ n → ⊥) → seen_octets right t s n ≤ 1
unfolding seen_octets open_octets
seen_one true t s n e = absurd (e refl)
seen_one false t s n e = one_case (is_aside s || covers_whole t) (covers_rest t && (eqb s kept || eqb s short)) (ltb 0 n) n e

octets-length : (part : List ℕ) → length (octets_text false part) ≤ 66
unfolding octets_text
octets-length part = go (ltb 32 (length part)) refl
  where
    go : (c : Bool) → ltb 32 (length part) ≡ c → length (cond c (hexes (take 32 part) ++ words "..") (hexes part)) ≤ 66
    go true e = omega (arith, length-append (hexes (take 32 part)) (words ".."), hexes-length (take 32 part), length-take 32 part)
    go false e = omega (arith, hexes-length part, ltb-false 32 (length part) e)

module _ (names : List ℕ) where
  module _ (run : List ℕ) where
    value-length : (n : ℕ) (part : List ℕ) → ((n ≡ length part → ⊥) → n ≤ 1) → length (value_text names run false n part) ≤ 66
    unfolding value_text
    value-length n part one = go (eqb n (length part)) refl
      where
        go : (c : Bool) → eqb n (length part) ≡ c → length (cond c (octets_text false part) (hexes (take n part) ++ said names run covers (narrow n))) ≤ 66
        go true e = octets-length part
        go false e =
            omega (
              arith,
              one (eqb-false n (length part) e),
              length-append (hexes (take n part)) (said names run covers (narrow n)),
              hexes-length (take n part),
              length-take n part,
              cover_length names run (narrow n),
            )

    end-length : (w : View) → w.full ≡ false → (t s : ℕ) (part : List ℕ) → length (ending names run w t s part) ≤ 77
    unfolding ending
    end-length w f t s part = rw f (go (eqb s void) (entered t s || eqb (length part) 0))
      where
        n : ℕ
        n = seen_octets w.right t s (length part)

        go : (a c : Bool)
            → length (cond a (said names run endings 1 ++ said names run voids s) (cond c (said names run endings 0) (said names run endings 1 ++ value_text names run false n part))) ≤ 77
        go true c = omega (arith, ending-length names run 1, void-length names run s, length-append (said names run endings 1) (said names run voids s))
        go false true = omega (arith, ending-length names run 0)
        go false false = omega (arith, ending-length names run 1, value-length n part (seen_one w.right t s (length part)), length-append (said names run endings 1) (value_text names run false n part))

  module _ (w : View) (f : w.full ≡ false) (v : Verdict) (table m c : List ℕ) where
    line-length : (r : ℕ) → length (row_line names w v table m c r) ≤ 158
    unfolding row_line
    line-length r =
        let run = row_run table r in
        let numbers = said names run rows (row_parent table r) in
        let part = value_of w.kind table m (length c) (cond w.right m c) r in
        let end = ending names run w (row_type table r) (row_standing table r) part in
        let mark = said names run marks (marked v (row_place table r)) in
        omega (
          arith,
          row-length names run (row_parent table r),
          end-length run w f (row_type table r) (row_standing table r) part,
          mark-length names run (marked v (row_place table r)),
          length-append numbers (end ++ (mark ++ (10 ∷ []))),
          length-append end (mark ++ (10 ∷ [])),
          length-append mark (10 ∷ []),
        )

    pub lines-length : length (row_lines names w v table m c) ≤ 158 * table_rows w.kind m table
    unfolding row_lines
    lines-length = omega (arith, turns-length (row_line names w v table m c) 158 line-length 0 (table_rows w.kind m table))
