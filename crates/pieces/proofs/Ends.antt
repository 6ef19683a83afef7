-- The verdict at the end, and what start, part and end leave: one law for each way out of the code. Assumes nothing.
use Rattle.std.specs.Prelude.{min}
use mathlib.Core.Path.{◌≡◌, refl, sym, ◌∙◌}
use mathlib.Core.Bool.{Bool, true, false, cond}
use mathlib.Core.List.{List, [], ◌∷◌, ◌++◌, append-nil}
use Prim.Native.Nat.{ℕ, ◌-◌, ◌≤◌, ◌<◌}
use native.Mathlib.Omega.{arith}
use borrow.Author.Tests.{ltb-true, ltb-false}
use lib.Dec.{ltb}
use lib.ListN.{length, take, drop, drop_of_length-le, length-drop}
use lib.Seq.{take_all}
use Rattle.rules.specs.Sizes.{largest_message, header_numbers, used}
use Rattle.rules.specs.Framing.{octet, message_type}
use Rattle.rules.specs.Answers.{refused_reading}
use Rattle.rules.specs.Verdicts.{accepted, refused, refused_at, check, refuses, first}
use Rattle.rules.specs.declared.Verdict.{Verdict}
use Rattle.rules.specs.declared.Reading.{Reading}
use Rattle.rules.proofs.Checks.{AllPass, all_pass, check-off}
use Rattle.rules.proofs.Book.{kind-low}
use Rattle.answers.proofs.Refusing.{refusing, accepting}
use Rattle.reading.specs.Scan.{whole_reading}
use Rattle.judging.specs.Judging.{given}
use Rattle.pieces.specs.declared.Pieces.{Pieces}
use Rattle.pieces.specs.declared.Told.{Told}
use Rattle.pieces.specs.Feeding.{zeros}
use Rattle.pieces.specs.Coded.{feed_all_by}
use Rattle.pieces.specs.Answers.{takes, told_out, part_told, part_table, Parted, ended_by, header_by, reading_by, verdict_by, end_told, end_table, Ended}
use Rattle.pieces.specs.Agreements.{FitsAll, GaveAll}
use Rattle.pieces.proofs.Accepting.{cond_yes, cond_no}
use Rattle.pieces.proofs.Bodies.{heads}
use Rattle.pieces.proofs.Feeds.{row_low}

-- ---- the verdict

-- a reading has as many rows as an octet each
pub reading_rows : (p : Pieces) → FitsAll p → (reading_by p).rows ≤ largest_message
unfolding reading_by whole_reading
reading_rows p f = go (refuses (header_by p)) p.going.stopped
  where
    go : (c d : Bool) → (cond c (refused_reading (header_by p)) (cond d (refused_reading (refused_at 9 67 p.going.place 0 0)) (whole_reading p.going.counts))).rows ≤ largest_message
    go true d = omega arith
    go false true = omega arith
    go false false = row_low f

-- where it is acceptance, checks 1 to 8 passed, and the kind is a small number
pub kind_fits : (p : Pieces) (room : ℕ) {v : Verdict} → v ≡ verdict_by p room → v.code ≡ 0 → p.kind < 65536
unfolding reading_by given first
kind_fits p room {v} f z = go (refuses (header_by p)) refl (rw (← f) z)
  where
    go : (c : Bool) → refuses (header_by p) ≡ c
        → (given (cond c (refused_reading (header_by p)) (cond p.going.stopped (refused_reading (refused_at 9 67 p.going.place 0 0)) (whole_reading p.going.counts))) room).code ≡ 0 → p.kind < 65536
    go true e y = let n : 0 < (header_by p).code = ltb-true 0 (header_by p).code e in absurd (omega (arith, rw e at y))
    go false e y = omega (arith, kind-low p.kind (heads p.kind p.head p.count e).kind)

-- and the table has room for a header
pub room-enough : (r : Reading) (room : ℕ) → (given r room).code ≡ 0 → used r.rows ≤ room
unfolding given AllPass
room-enough r room z =
    let a = (all_pass (r.refusal ∷ check (ltb room (used r.rows)) (refused 10 0) ∷ r.short ∷ r.lack ∷ [])).0 (accepting (given r room) z) in
    ltb-false _ _ (sym (check-off (ltb room (used r.rows)) (refused 10 0) refl) ∙ a.1.0)

-- ---- a part

module _ (p : Pieces) (part table : List ℕ) where
  pub part_out : {r : Told} → takes p (length table) ≡ false → r ≡ told_out p → Parted p part table r table
  unfolding part_told part_table
  part_out n e = record { answers = e ∙ sym (cond_no _ _ _ n); table_left = sym (cond_no _ _ _ n) }

  same_rows : (from : ℕ) → from ≡ min (length table) header_numbers → (drop from table ≡ drop header_numbers table) × (take from table ≡ take header_numbers table)
  same_rows from f = go (ltb (length table) header_numbers) refl
    where
      go : (c : Bool) → ltb (length table) header_numbers ≡ c → (drop from table ≡ drop header_numbers table) × (take from table ≡ take header_numbers table)
      go true u =
          let l : length table < header_numbers = ltb-true _ _ u in
          let n : from ≡ length table = omega arith in
          rw n (drop_of_length-le table {i = length table} (omega arith) ∙ sym (drop_of_length-le table {i = header_numbers} (omega arith)), take_all (length table) table (omega arith) ∙ sym (take_all header_numbers table (omega arith)))
      go false u = let l : header_numbers ≤ length table = ltb-false _ _ u in let n : from ≡ header_numbers = omega arith in rw n (refl, refl)

  pub part_in : {r : Pieces} {v : Verdict} {rows : List ℕ} (from : ℕ) → takes p (length table) ≡ true → from ≡ min (length table) header_numbers
      → GaveAll r rows (feed_all_by p part (take (length table - from) (drop from table))) → v ≡ accepted
      → Parted p part table (record { state = r; verdict = v }) (take from table ++ (rows ++ drop (length table - from) (drop from table)))
  unfolding part_told part_table
  part_in {r} {v} {rows} from t f g e =
      let s = same_rows from f in
      let lent : take (length table - from) (drop from table) ≡ drop header_numbers table = take_all (length table - from) (drop from table) (simp length-drop (omega arith)) ∙ s.0 in
      let gone : drop (length table - from) (drop from table) ≡ [] = drop_of_length-le (drop from table) {i = length table - from} (simp length-drop (omega arith)) in
      let g' : GaveAll r rows (feed_all_by p part (drop header_numbers table)) = rw lent at g in
      let told : ◌≡◌ {A = Told} (record { state = r; verdict = v }) (record { state = (feed_all_by p part (drop header_numbers table)).state; verdict = accepted }) = rw (g'.state, e) in
      let left : take from table ++ (rows ++ drop (length table - from) (drop from table)) ≡ take header_numbers table ++ (feed_all_by p part (drop header_numbers table)).rows
      = rw (gone, append-nil, s.1, g'.rows_left) in
      record { answers = told ∙ sym (cond_yes _ _ _ t); table_left = left ∙ sym (cond_yes _ _ _ t) }

-- ---- the end

module _ (p : Pieces) (table : List ℕ) where
  pub end_out : {r : Told} → takes p (length table) ≡ false → r ≡ told_out p → Ended p table r table
  unfolding end_told end_table
  end_out n e = record { answers = e ∙ sym (cond_no _ _ _ n); table_left = sym (cond_no _ _ _ n) }

  module _ {v : Verdict} {s : Pieces} {t : List ℕ} (ok : takes p (length table) ≡ true) (e : v ≡ verdict_by p (length table)) (f : s ≡ ended_by p) where
    pub end_refused : (v.code ≡ 0 → ⊥) → t ≡ zeros (length table) → Ended p table (record { state = s; verdict = v }) t
    unfolding end_told end_table
    end_refused n h =
        let c : refuses (verdict_by p (length table)) ≡ true = rw (← e) (refusing v n) in
        let told : ◌≡◌ {A = Told} (record { state = s; verdict = v }) (record { state = ended_by p; verdict = verdict_by p (length table) }) = rw (f, e) in
        record { answers = told ∙ sym (cond_yes _ _ _ ok); table_left = h ∙ sym (cond_yes _ _ _ ok ∙ cond_yes _ _ _ c) }

    pub end_accepted : v.code ≡ 0 → t ≡ (p.going.counts.rows ∷ p.going.counts.kept ∷ header_numbers ∷ used p.going.counts.rows ∷ octet p.head 1 ∷ p.kind ∷ []) ++ drop header_numbers table
        → Ended p table (record { state = s; verdict = v }) t
    unfolding end_told end_table message_type
    end_accepted z h =
        let c : refuses (verdict_by p (length table)) ≡ false = rw (← e) (accepting v z) in
        let told : ◌≡◌ {A = Told} (record { state = s; verdict = v }) (record { state = ended_by p; verdict = verdict_by p (length table) }) = rw (f, e) in
        record { answers = told ∙ sym (cond_yes _ _ _ ok); table_left = h ∙ sym (cond_yes _ _ _ ok ∙ cond_no _ _ _ c) }

  pub end_room : {v : Verdict} → v ≡ verdict_by p (length table) → v.code ≡ 0 → header_numbers ≤ length table
  end_room e z = omega (arith, room-enough (reading_by p) (length table) (rw (← e) z))
