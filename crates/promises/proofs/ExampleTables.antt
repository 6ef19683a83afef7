-- `IsTable` holds of the examples' own tables, so it is not empty: of D, F with its repeat, G with its group, K with its unexpected group, and a void report. And J, which is
-- cut inside a group, has no table at all, and is cut at 16. Assumes nothing.
use mathlib.Core.Path.{◌≡◌, refl, sym, ap, ◌∙◌}
use mathlib.Core.List.{List, [], ◌++◌}
use Prim.Native.Nat.{ℕ, zero, suc, ◌-◌, ◌≤◌, ◌<◌}
use native.Mathlib.Omega.{arith}
use lib.ListN.{length, take, drop}
use Rattle.rules.specs.Framing.{octet, flag_t, message_type, header_length}
use Rattle.rules.specs.Listings.{book}
use Rattle.rules.specs.Standing.{void}
use Rattle.rules.specs.Values.{row_place, row_standing}
use Rattle.rules.specs.Built.{teid_of, sequence_of, ZeroBits}
use Rattle.rules.specs.Answers.{Called, Builds}
use Rattle.rules.specs.declared.Verdict.{Verdict}
use Rattle.rules.specs.declared.Sent.{Sent}
use Rattle.rules.proofs.Rows.{Octets}
use Rattle.rules.specs.Verdicts.{accepted}
use Rattle.rules.specs.Examples.{Outcome, examples, voids, roomy, paper, empties, sevens, sheet, message_d, head_f, first_f, second_f, message_g, message_k, head, line}
use Rattle.tables.specs.Words.{rows}
use Rattle.tables.specs.IsTable.{IsTable}
use Rattle.verdicts.specs.IsCut.{IsCut}
use Rattle.promises.specs.StandIns.{below}
use Rattle.promises.proofs.Examples.{example, written_of, called, message_j, written_void, example-void, message_void}
use Rattle.promises.proofs.CleanStandIns.{below-octets}
use Rattle.promises.proofs.Main.{called-table, nine_exactly, nine-at_exactly, comes_back}

-- the table that an accepted message leaves in what was lent
tabled : (k : ℕ) (m t c : List ℕ) (o : Outcome) → called k m t c ≡ o → o.verdict ≡ accepted → IsTable book k m o.table
tabled k m t c o e a =
    called-table {t = t} {c = c} {v = o.verdict} {c' = o.copy}
    (record {
      answers = sym (ap (λ (x : Outcome). x.verdict) e);
      table_left = sym (ap (λ (x : Outcome). x.table) e);
      copy_left = sym (ap (λ (x : Outcome). x.copy) e);
    }) a

pub table-d : IsTable book 1 message_d (head 1 1 6 12 1 1 (line 0 3 0 12 1 0 []) ++ drop 12 sevens)
unfolding examples
table-d = tabled 1 message_d sevens sheet (written_of 3) (example 3) refl

pub table-f : IsTable book 1 (head_f ++ first_f ++ second_f) (head 2 1 6 18 1 1 (line 0 3 0 12 1 0 (line 0 3 0 17 0 2 [])) ++ drop 18 sevens)
unfolding examples
table-f = tabled 1 (head_f ++ first_f ++ second_f) sevens sheet (written_of 6) (example 6) refl

pub table-g : IsTable book 1 message_g (head 2 2 6 18 66 1 (line 0 93 0 16 5 0 (line 1 73 0 20 1 0 [])) ++ drop 18 sevens)
unfolding examples
table-g = tabled 1 message_g sevens sheet (written_of 8) (example 8) refl

pub table-k : IsTable book 1 message_k (head 3 2 6 24 66 1 (line 0 93 0 16 5 0 (line 1 73 0 20 1 0 (line 0 180 1 25 0 1 []))) ++ drop 24 sevens)
unfolding examples
table-k = tabled 1 message_k sevens sheet (written_of 12) (example 12) refl

-- a report with eleven elements 71/0 has the standing 4 in its table, and no row stands in it
pub table-void : IsTable book 1 message_void (written_void 0).table
unfolding voids empties
table-void = tabled 1 message_void roomy (paper 82) (written_void 0) (example-void 0) refl

pub row-void : (rows (written_void 0).table ≡ 5) × (row_standing (written_void 0).table 4 ≡ void)
unfolding voids
row-void = (refl, refl)

pub none_j : (t : List ℕ) → IsTable book 1 message_j t → ⊥
unfolding examples
none_j = ((nine_exactly 1 message_j 31 25).0 (ap (λ (x : Outcome). x.verdict.code) (example 11))).1

pub cut_j : (t : List ℕ) × IsCut book 1 message_j t 16
unfolding examples
cut_j = ((nine-at_exactly 1 message_j 31 25 16).0 (ap (λ (x : Outcome). x.verdict) (example 11))).1

-- ---- `ZeroBits` holds of G, so that it does come back

abbrev judged_g : List ℕ
judged_g = head 2 2 6 18 66 1 (line 0 93 0 16 5 0 (line 1 73 0 20 1 0 [])) ++ drop 18 sevens

octets-g : Octets message_g
unfolding below
octets-g = below-octets message_g refl

bits_g : ZeroBits message_g judged_g
unfolding header_length flag_t
bits_g = record { flags = refl; spare = refl; elements = each }
  where
    each : (r : ℕ) → r < 2 → octet message_g (row_place judged_g r - 1) < 16
    each zero l = omega arith
    each (suc zero) l = omega arith
    each (suc (suc r)) l = absurd (omega arith)

pub g_comes_back : {v : Verdict} {t d : List ℕ} → Called 1 message_g sevens sheet v t d → {lent : List ℕ} {s : Sent} {left : List ℕ} → Builds 1 2 t message_g lent s left
    → 21 ≤ length lent → (s.verdict ≡ accepted) × (s.length ≡ 21) × (take s.length left ≡ message_g)
unfolding examples message_type teid_of sequence_of header_length flag_t
g_comes_back {v} {t} {d} j {lent} {s} {left} c l =
    let e = example 8 in
    let a : v ≡ accepted = j.answers ∙ ap (λ (x : Outcome). x.verdict) e in
    let is : t ≡ judged_g = j.table_left ∙ ap (λ (x : Outcome). x.table) e in
    comes_back j a (rw is refl) octets-g (rw is bits_g) c l
