-- The owner's demands of a message in parts: the end of a run is what the one call's contract says of the joined octets, a table of zeros and a copy buffer that holds
-- them, so that all that is promised of that contract is promised of it. Assumes nothing.
--     ends-called   the call's contract          ends-table   the table          ends-void   standing 4          ends-alike   two messages that agree where the first is open
use mathlib.Core.Path.{◌≡◌, refl, sym, ap, ◌∙◌}
use mathlib.Core.Logic.{◌↔◌}
use mathlib.Core.List.{List}
use Prim.Native.Nat.{ℕ, ◌≤◌, ◌<◌}
use native.Mathlib.Omega.{arith}
use lib.ListN.{length, length-replicate}
use Rattle.rules.specs.Listings.{book}
use Rattle.rules.specs.Octets.{numbers_in, five_laid, table_room}
use Rattle.rules.specs.Standing.{void}
use Rattle.rules.specs.Verdicts.{accepted, judge_verdict, call_numbers}
use Rattle.rules.specs.Covered.{call_copy}
use Rattle.rules.specs.Answers.{Called}
use Rattle.rules.specs.declared.Verdict.{Verdict}
use Rattle.tables.specs.IsTable.{IsTable}
use Rattle.rules.specs.Values.{row_standing}
use Rattle.tables.specs.Words.{rows}
use Rattle.promises.specs.Agreeing.{SameOpen}
use Rattle.promises.specs.Voids.{Report, points}
use Rattle.promises.proofs.Exports.{zero-accepted}
use Rattle.promises.proofs.Unique.{called_unique}
use Rattle.promises.proofs.Main.{with_room, with_room-table, called-one-of, called-table, called-void, both-called}
use Rattle.pieces.specs.Feeding.{zeros, joined_parts}
use Rattle.wokpieces.proofs.Main.{AsJudged}

module _ {k : ℕ} {ps : List (List ℕ)} {table five : List ℕ} {code : ℕ} {table' five' : List ℕ} (a : AsJudged k ps table five code table' five') where
  abbrev verdict : Verdict
  verdict = judge_verdict book k (joined_parts ps) (table_room table)

  ends_so : (copy : List ℕ) → length (joined_parts ps) ≤ length copy
      → Called k (joined_parts ps) (zeros (table_room table)) copy verdict (numbers_in table') (call_copy book k (joined_parts ps) (length (zeros (table_room table))) copy)
  ends_so copy l = record {
    answers = ap (judge_verdict book k (joined_parts ps)) (sym (length-replicate {A = ℕ} (table_room table) 0)) ∙ sym (with_room k (joined_parts ps) (length copy) (length (zeros (table_room table))) l);
    table_left = a.numbers_are ∙ sym (with_room-table k (joined_parts ps) (length copy) (zeros (table_room table)) l);
    copy_left = refl;
  }

  -- the code and the five numbers are those of the call, and so are the table's
  pub ends-called : {copy : List ℕ} {v : Verdict} {t c : List ℕ} → Called k (joined_parts ps) (zeros (table_room table)) copy v t c → length (joined_parts ps) ≤ length copy
      → (code ≡ v.code) × (five' ≡ five_laid v five) × (numbers_in table' ≡ t)
  ends-called {copy} {v} {t} {c} x l =
      let u = called_unique k (joined_parts ps) (zeros (table_room table)) copy verdict v (numbers_in table') t _ c (ends_so copy l) x in
      (a.code_is ∙ ap (λ (w : Verdict). w.code) u.0, a.five_is ∙ ap (λ (w : Verdict). five_laid w five) u.0, u.1)

  own : Called k (joined_parts ps) (zeros (table_room table)) (joined_parts ps) verdict (numbers_in table') (call_copy book k (joined_parts ps) (length (zeros (table_room table))) (joined_parts ps))
  own = ends_so (joined_parts ps) (omega arith)

  module _ (zero : code ≡ 0) where
    is-accepted : verdict ≡ accepted
    is-accepted = zero-accepted call_numbers refl verdict (called-one-of own) (sym a.code_is ∙ zero)

    -- on acceptance the table's numbers are a table of the joined message
    pub ends-table : IsTable book k (joined_parts ps) (numbers_in table')
    ends-table = called-table own is-accepted

    -- whose standing 4 is that of a report with more than ten APNs
    pub ends-void : (r : ℕ) → r < rows (numbers_in table') → (row_standing (numbers_in table') r ≡ void) ↔ (Report (joined_parts ps) (numbers_in table') r × (10 < points (joined_parts ps) (numbers_in table') r))
    ends-void = called-void own is-accepted

-- two messages of one length that differ in covered octets alone, each in parts of its own, with tables of one length and equal five numbers lent
pub ends-alike : {k : ℕ} {ps qs : List (List ℕ)} {t u five : List ℕ} {c d : ℕ} {t' u' f g : List ℕ} → SameOpen book k (joined_parts ps) (joined_parts qs) → table_room u ≡ table_room t
    → AsJudged k ps t five c t' f → AsJudged k qs u five d u' g → (d ≡ c) × (g ≡ f) × (numbers_in u' ≡ numbers_in t')
ends-alike {k} {ps} {qs} {t} {u} {five} s e a b =
    let j : Called k (joined_parts qs) (zeros (table_room t)) (joined_parts ps) (judge_verdict book k (joined_parts qs) (table_room t)) _ _ =
    rw e at (ends_so b (joined_parts ps) (omega (arith, s.size))) in
    let w = both-called s (own a) j in
    let v : judge_verdict book k (joined_parts qs) (table_room u) ≡ judge_verdict book k (joined_parts ps) (table_room t) = ap (judge_verdict book k (joined_parts qs)) e ∙ w.0 in
    (b.code_is ∙ ap (λ (z : Verdict). z.code) v ∙ sym a.code_is, b.five_is ∙ ap (λ (z : Verdict). five_laid z five) v ∙ sym a.five_is, w.1)
