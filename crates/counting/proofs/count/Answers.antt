-- `count` answers the refusal of a reading, or its rows, which are those of rule 14 whatever was lent for rows. Assumes nothing.
use mathlib.Core.Path.{◌≡◌, sym, ap, ◌∙◌}
use mathlib.Core.Bool.{true, false}
use mathlib.Core.List.{List, [], ◌∷◌}
use Prim.Native.Nat.{ℕ}
use Rattle.std.proofs.lemmas.Result.{err_from_is_err_and}
use Rattle.rules.specs.Listings.{book}
use Rattle.rules.specs.Verdicts.{accepted, refuses, first, framing_checks}
use Rattle.rules.specs.Counting.{count_verdict, count_rows}
use Rattle.rules.specs.Answers.{Read, Counted}
use Rattle.rules.specs.declared.Verdict.{Verdict}
use Rattle.rules.specs.declared.Reading.{Reading}
use Rattle.rules.proofs.Checks.{first-pass, all_pass}
use Rattle.rules.proofs.Readings.{refusal_is, rows_are}
use Rattle.answers.proofs.Refusing.{handed_on}
use Rattle.counting.proofs.count.Goals as goal

module _ {k : ℕ} {m rows rows' : List ℕ} {r : Reading} (x : Read k m rows r rows') where
  framing : r.refusal ≡ count_verdict book k m
  framing = ap (λ (a : Reading). a.refusal) x.answers ∙ refusal_is book k m

  refused : {v : Verdict} → v ≡ first (r.refusal ∷ []) → true ≡ refuses r.refusal → Counted k m (record { verdict = v; rows = 0 })
  unfolding first count_rows
  refused e n = record { verdict_is = e ∙ rw (← n, framing); rows_is = rw (← framing, ← n) }

  passed : false ≡ refuses r.refusal → Counted k m (record { verdict = accepted; rows = r.rows })
  passed n =
      let none : refuses (count_verdict book k m) ≡ false = rw (← framing) (sym n) in
      record {
        verdict_is = sym (first-pass (framing_checks book k m) ((all_pass (framing_checks book k m)).0 none));
        rows_is = ap (λ (a : Reading). a.rows) x.answers ∙ rows_are book k m;
      }

pub returns-in_err-check-clause-counted : goal.returns-in_err-check-clause-counted
returns-in_err-check-clause-counted c =
    let p = err_from_is_err_and c.from_residual.result c.from_residual.ensures.1 in
    rw (p.1, p.2) (refused c.read-r.ensures c.in_err-check.ensures.value c.in_err-check.ensures.refuses)

pub returns-in_err-check-clause-refuses : goal.returns-in_err-check-clause-refuses
returns-in_err-check-clause-refuses c =
    let p = err_from_is_err_and c.from_residual.result c.from_residual.ensures.1 in
    rw (p.1, p.2) (handed_on c.read-r.result.refusal c.in_err-check.ensures.value c.in_err-check.ensures.refuses)

pub returns-clause-counted : goal.returns-clause-counted
returns-clause-counted c = passed c.read-r.ensures c.in_ok-check.ensures.refuses
