-- What a decision says of table and copy, where the scratch has room for its rows. Assumes nothing.
--     most-rows   a scratch for every message has it          settles, called   the table can be written, and then it is the call's
--     stored_as   so it is as octets                          small-left        where the scratch has not, nothing was written
use mathlib.Core.Path.{◌≡◌, refl, sym, ap, ◌∙◌}
use mathlib.Core.Bool.{Bool, true, false, cond}
use mathlib.Core.List.{List}
use Prim.Native.Nat.{ℕ, ◌*◌, ◌≤◌, ◌<◌}
use native.Mathlib.Omega.{arith}
use borrow.Author.Tests.{lt-ltb, le-ltb}
use lib.ListN.{length}
use Rattle.rules.specs.Sizes.{most_rows, row_numbers, used}
use Rattle.rules.specs.Framing.{message_type}
use Rattle.rules.specs.Listings.{book}
use Rattle.rules.specs.Table.{table_of, numbers_by, laid}
use Rattle.rules.specs.Verdicts.{refuses, items, judge_verdict, mask_verdict, call_verdict, call_table}
use Rattle.rules.specs.Covered.{call_copy}
use Rattle.rules.specs.Octets.{octets_of, table_room, call_octets}
use Rattle.rules.specs.Answers.{reading_of, decision_of, Read, Decided, Called, CalledStored}
use Rattle.rules.specs.declared.Verdict.{Verdict}
use Rattle.rules.specs.declared.Decision.{Decision}
use Rattle.rules.proofs.Calls.{call_masked, call_judged}
use Rattle.rules.proofs.Readings.{few}
use Rattle.judging.proofs.Accepted.{Ready, ready}
use Rattle.octets.specs.Stored.{table_stored}
use Rattle.octets.proofs.Octets.{fits}
use Rattle.calling.specs.Calling.{Settles, Settled, Stored}

module _ (k : ℕ) (m : List ℕ) {rows rows' copy copy' : List ℕ} {room : ℕ} {d : Decision} (x : Decided k m rows room copy d rows' copy') where
  pub verdict_is : d.verdict ≡ call_verdict book k m (length copy) room
  unfolding decision_of
  verdict_is = ap (λ (a : Decision). a.verdict) x.answers

  rows_are : d.rows ≡ (reading_of book k m).rows
  unfolding decision_of
  rows_are = ap (λ (a : Decision). a.rows) x.answers

  kept_are : d.kept ≡ (reading_of book k m).kept
  unfolding decision_of
  kept_are = ap (λ (a : Decision). a.kept) x.answers

  pub most-rows : d.rows ≤ most_rows
  most-rows = rw rows_are (few book k m)

  -- a scratch too small for the rows: the copy is as it was
  pub small-left : length rows < row_numbers * d.rows → copy' ≡ copy
  small-left l = x.copy_left ∙ rw (← rows_are, lt-ltb (length rows) (row_numbers * d.rows) l)

  module _ (held : row_numbers * d.rows ≤ length rows) where
    pub copy_is : copy' ≡ call_copy book k m room copy
    copy_is = x.copy_left ∙ rw (← rows_are, le-ltb (length rows) (row_numbers * d.rows) held)

    module _ (ok : refuses (call_verdict book k m (length copy) room) ≡ false) where
      typ-is : d.typ ≡ message_type m
      unfolding decision_of
      typ-is = ap (λ (a : Decision). a.typ) x.answers ∙ rw ok

      kind-of : d.kind ≡ k
      unfolding decision_of
      kind-of = ap (λ (a : Decision). a.kind) x.answers ∙ rw ok

      -- the judge accepts where the call does
      judged : refuses (judge_verdict book k m room) ≡ false
      judged = go (refuses (mask_verdict book k m (length copy))) refl
        where
          go : (c : Bool) → refuses (mask_verdict book k m (length copy)) ≡ c → refuses (judge_verdict book k m room) ≡ false
          go true e = let f : true ≡ false = sym e ∙ rw (call_masked book k m (length copy) room e) at ok in let y : ◌≡◌ {A = ℕ} 0 1 = cc in absurd (omega arith)
          go false e = rw (call_judged book k m (length copy) room e) at ok

      read : Read k m rows (reading_of book k m) rows'
      read = record { answers = refl; rows_left = x.rows_left }

      there : Ready k m rows' room (reading_of book k m)
      there = ready k m read room judged (rw rows_are at held)

      pub numbers_are : numbers_by d.rows d.kept d.typ d.kind rows' ≡ table_of (message_type m) k (items book k m)
      numbers_are = rw (rows_are, kept_are, typ-is, kind-of) there.numbers

      pub fitting : (d.rows ≤ most_rows) × (d.kept ≤ d.rows) × (row_numbers * d.rows ≤ length rows') × (used d.rows ≤ room)
      fitting = rw (rows_are, kept_are) (there.few, there.kept_few, there.there, there.fits)

module _ (k : ℕ) (m table : List ℕ) {rows rows' copy copy' : List ℕ} {d : Decision} (x : Decided k m rows (length table) copy d rows' copy') (held : row_numbers * d.rows ≤ length rows) where
  pub settles : Settles d rows' table
  settles ok =
      let f = fitting k m x held (rw (← verdict_is k m x, ok)) in
      record { few = f.0; kept_few = f.1; there = f.2; room = f.3 }

  pub called : {v : Verdict} {table' : List ℕ} → Settled d rows' table v table' → Called k m table copy v table' copy'
  unfolding call_table
  called s = record { answers = s.answers ∙ verdict_is k m x; table_left = s.table_left ∙ go (refuses d.verdict) refl; copy_left = copy_is k m x held }
    where
      go : (c : Bool) → refuses d.verdict ≡ c → cond c table (laid (numbers_by d.rows d.kept d.typ d.kind rows') table) ≡ call_table book k m (length copy) table
      go true e = rw (← verdict_is k m x, e)
      go false e = let f : refuses (call_verdict book k m (length copy) (length table)) ≡ false = rw (← verdict_is k m x) e in rw (f, numbers_are k m x held f)

module _ (k : ℕ) (m table : List ℕ) {rows rows' copy copy' : List ℕ} {d : Decision} (x : Decided k m rows (table_room table) copy d rows' copy') (held : row_numbers * d.rows ≤ length rows) where
  pub stored_as : {v : Verdict} {table' : List ℕ} → Stored d rows' table v table' → CalledStored k m table copy v table' copy'
  unfolding call_octets table_stored
  stored_as s = record { answers = s.answers ∙ verdict_is k m x; table_left = s.table_left ∙ go (refuses d.verdict) refl; copy_left = copy_is k m x held }
    where
      go : (c : Bool) → refuses d.verdict ≡ c → cond c table (table_stored rows' d.rows d.kept d.typ d.kind table) ≡ call_octets book k m (length copy) table
      go true e = rw (← verdict_is k m x, e)
      go false e =
          let o : refuses (call_verdict book k m (length copy) (table_room table)) ≡ false = rw (← verdict_is k m x) e in
          let f = fitting k m x held o in
          rw (o, fits rows' d.rows d.kept d.typ d.kind table f.0 f.1 f.2 (omega (arith, f.3))) (ap (λ (q : List ℕ). laid (octets_of q) table) (numbers_are k m x held o))
