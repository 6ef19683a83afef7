-- A part and a table that are lent as octets hold the numbers that the same would leave in a table of numbers. Assumes nothing.
--     fed_table   a part          ended_zero, ended_header   the end
use Rattle.std.specs.Prelude.{min}
use mathlib.Core.Path.{◌≡◌, refl, sym, ap, ◌∙◌}
use mathlib.Core.Bool.{Bool, true, false}
use mathlib.Core.List.{List, [], ◌∷◌, ◌++◌, append-nil}
use Prim.Native.Nat.{ℕ, ◌-◌, ◌*◌, ◌≤◌, ◌<◌}
use native.Mathlib.Omega.{arith}
use borrow.Author.Tests.{ltb-true, ltb-false}
use lib.Dec.{ltb}
use lib.ListN.{length, take, drop, replicate, length-append, length-take, length-drop, drop_of_length-le}
use lib.Seq.{take_all}
use Rattle.rules.specs.Sizes.{used}
use Rattle.rules.specs.Framing.{octet, message_type}
use Rattle.rules.specs.Octets.{octets_of, numbers_in, table_room}
use Rattle.rules.specs.Verdicts.{refuses}
use Rattle.rules.specs.declared.Verdict.{Verdict}
use Rattle.rules.proofs.Numbers.{numbers-length}
use Rattle.answers.proofs.Refusing.{refusing, accepting}
use Rattle.promises.proofs.Exports.{read-numbers}
use Rattle.pieces.specs.declared.Pieces.{Pieces}
use Rattle.pieces.specs.Feeding.{zeros}
use Rattle.pieces.specs.Coded.{feed_all_by}
use Rattle.pieces.specs.Answers.{takes, reading_by, verdict_by, end_table}
use Rattle.pieces.proofs.Accepting.{cond_yes, cond_no}
use Rattle.pieces.proofs.Main.{all-length}
use Rattle.pieces.proofs.Ends.{room-enough}
use Rattle.wokpieces.specs.Exports.{FedTable}
use Rattle.pieces.specs.Agreements.{GaveAll}
use Rattle.pieces.proofs.Twos.{numbers_append, numbers-take, numbers-drop, zeros-read}

-- ---- a part

none_of : (xs : List ℕ) → length xs ≡ 0 → xs ≡ []
none_of [] e = refl
none_of (x ∷ xs) e = absurd (omega arith)

module _ (p : Pieces) (part table : List ℕ) {r : Pieces} (rows : List ℕ) where
  -- a table without a whole header has no rows
  fed-short : length table < 12 → length rows ≡ 0 → GaveAll r (numbers_in rows) (feed_all_by p part (numbers_in [])) → FedTable p part table r (table ++ rows)
  unfolding numbers_in
  fed-short l n f =
      let z : rows ≡ [] = none_of rows n in
      let s : length (numbers_in table) ≤ 6 = omega (arith, numbers-length table) in
      let d : drop 6 (numbers_in table) ≡ [] = drop_of_length-le (numbers_in table) {i = 6} s in
      let w : (feed_all_by p part []).rows ≡ [] = none_of _ (all-length p part []) in
      rw (z, append-nil) (record { state = rw d f.state; numbers = rw (d, take_all 6 (numbers_in table) s, w, append-nil); long = refl })

  fed-long : 12 ≤ length table → length rows ≡ length (drop 12 table) → GaveAll r (numbers_in rows) (feed_all_by p part (numbers_in (drop 12 table)))
      → FedTable p part table r (take 12 table ++ rows)
  fed-long l n f =
      let half : numbers_in (drop 12 table) ≡ drop 6 (numbers_in table) = numbers-drop 6 table in
      record {
        state = rw (← half) f.state;
        numbers = rw (numbers_append 6 (take 12 table) rows (length-take 12 table ∙ omega arith), numbers-take 6 table, f.rows_left, half);
        long = length-append (take 12 table) rows ∙ omega (arith, n, length-take 12 table, length-drop 12 table);
      }

  pub fed_table : (from : ℕ) → from ≡ min (length table) 12 → length rows ≡ length (take (length table - from) (drop from table))
      → GaveAll r (numbers_in rows) (feed_all_by p part (numbers_in (take (length table - from) (drop from table))))
      → FedTable p part table r (take from table ++ (rows ++ drop (length table - from) (drop from table)))
  fed_table from e n f =
      let all : take (length table - from) (drop from table) ≡ drop from table = take_all (length table - from) (drop from table) (simp length-drop (omega arith)) in
      let gone : drop (length table - from) (drop from table) ≡ [] = drop_of_length-le (drop from table) {i = length table - from} (simp length-drop (omega arith)) in
      rw (gone, append-nil) (go (ltb (length table) 12) refl (rw all at n) (rw all at f))
    where
      go : (c : Bool) → ltb (length table) 12 ≡ c → length rows ≡ length (drop from table) → GaveAll r (numbers_in rows) (feed_all_by p part (numbers_in (drop from table))) → FedTable p part table r (take from table ++ rows)
      go true u n f =
          let l : length table < 12 = ltb-true _ _ u in
          let w : from ≡ length table = omega arith in
          let d : drop from table ≡ [] = drop_of_length-le table {i = from} (omega (arith, w)) in
          rw (take_all from table (omega (arith, w))) (fed-short l (rw d at n) (rw d at f))
      go false u n f =
          let l : 12 ≤ length table = ltb-false _ _ u in
          let w : from ≡ 12 = omega arith in
          rw w (fed-long l (rw w at n) (rw w at f))

-- ---- the end

-- acceptance has room for a header
pub header_room : (p : Pieces) (table : List ℕ) {v : Verdict} → v ≡ verdict_by p (table_room table) → v.code ≡ 0 → 12 ≤ length table
header_room p table e z = omega (arith, room-enough (reading_by p) (table_room table) (rw (← e) z))

module _ (p : Pieces) (table : List ℕ) {v : Verdict} (e : v ≡ verdict_by p (table_room table)) (ok : takes p (table_room table) ≡ true) where
  room_is : length (numbers_in table) ≡ table_room table
  room_is = numbers-length table

  pub ended_zero : {t : List ℕ} → (v.code ≡ 0 → ⊥) → t ≡ replicate (length table) 0 → (n : ℕ) → length table ≡ 2 * n → numbers_in t ≡ end_table p (numbers_in table)
  unfolding end_table
  ended_zero {t} n z k h =
      let c : refuses (verdict_by p (table_room table)) ≡ true = rw (← e) (refusing v n) in
      let m : table_room table ≡ k = omega arith in
      ap numbers_in (z ∙ ap (λ (j : ℕ). replicate j 0) h) ∙ zeros-read k ∙ ap (λ (j : ℕ). zeros j) (sym m)
      ∙ sym (rw room_is (cond_yes _ _ _ ok ∙ cond_yes _ _ _ c))

  pub ended_header : {t : List ℕ} → v.code ≡ 0
      → t ≡ octets_of (p.going.counts.rows ∷ p.going.counts.kept ∷ 6 ∷ used p.going.counts.rows ∷ octet p.head 1 ∷ p.kind ∷ []) ++ drop 12 table
      → numbers_in t ≡ end_table p (numbers_in table)
  unfolding end_table message_type
  ended_header {t} z h =
      let c : refuses (verdict_by p (table_room table)) ≡ false = rw (← e) (accepting v z) in
      let s = p.going.counts.rows ∷ p.going.counts.kept ∷ 6 ∷ used p.going.counts.rows ∷ octet p.head 1 ∷ p.kind ∷ [] in
      ap numbers_in h ∙ read-numbers s (drop 12 table) ∙ ap (λ (l : List ℕ). s ++ l) (numbers-drop 6 table)
      ∙ sym (rw room_is (cond_yes _ _ _ ok ∙ cond_no _ _ _ c))

-- as many octets as before
pub header_long : (table : List ℕ) {t : List ℕ} (a b c d e f : ℕ) → 12 ≤ length table → t ≡ octets_of (a ∷ b ∷ c ∷ d ∷ e ∷ f ∷ []) ++ drop 12 table → length t ≡ length table
unfolding octets_of
header_long table a b c d e f l h = ap length h ∙ omega (arith, length-drop 12 table)
