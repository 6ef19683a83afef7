-- `settle` refuses as the reading does, or else the copy decides. Assumes nothing.
use mathlib.Core.Path.{◌≡◌, sym, ◌∙◌}
use mathlib.Core.Bool.{true}
use mathlib.Core.List.{[], ◌∷◌}
use Rattle.std.proofs.lemmas.Result.{err_from_is_err_and}
use Rattle.rules.specs.Verdicts.{refuses, first}
use Rattle.rules.specs.declared.Verdict.{Verdict}
use Rattle.answers.proofs.Refusing.{handed_on}
use Rattle.cleaning.proofs.Settling.{by-refusal, by_copy, passes}
use Rattle.cleaning.proofs.settle.Goals as goal

nested : (a : Verdict) {v w x : Verdict} → v ≡ first (a ∷ w ∷ []) → w ≡ x → v ≡ first (a ∷ x ∷ [])
nested a e f = rw (← f) e

handed : {w : Verdict} (v : Verdict) → w ≡ first (v ∷ []) → true ≡ refuses v → w ≡ v
unfolding first
handed v e n = e ∙ rw (← n)

pub returns-in_err-check-clause-sent : goal.returns-in_err-check-clause-sent
returns-in_err-check-clause-sent c =
    let p = err_from_is_err_and c.from_residual.result c.from_residual.ensures.1 in
    let v = c.first_of.result in
    rw (p.1, p.2, handed v c.in_err-check.ensures.value c.in_err-check.ensures.refuses)
    (by-refusal c.args.r c.args.scratch.now c.args.message.now c.args.out.now v (nested c.args.r.refusal c.first_of.ensures c.first_of-late.ensures) (sym c.in_err-check.ensures.refuses))

pub returns-in_err-check-clause-refuses : goal.returns-in_err-check-clause-refuses
returns-in_err-check-clause-refuses c =
    let p = err_from_is_err_and c.from_residual.result c.from_residual.ensures.1 in
    rw (p.1, p.2) (handed_on c.first_of.result c.in_err-check.ensures.value c.in_err-check.ensures.refuses)

pub invariant_of-rows : goal.invariant_of-rows
invariant_of-rows c =
    record { has = (c.requires (passes c.args.r c.args.scratch.now c.args.message.now c.args.out.now c.first_of.result (nested c.args.r.refusal c.first_of.ensures c.first_of-late.ensures) (sym c.in_ok-check.ensures.refuses))).has }

pub put_copy-requires : goal.put_copy-requires
put_copy-requires c =
    c.requires (passes c.args.r c.args.scratch.now c.args.message.now c.args.out.now c.first_of.result (nested c.args.r.refusal c.first_of.ensures c.first_of-late.ensures) (sym c.in_ok-check.ensures.refuses))

pub returns-clause-sent : goal.returns-clause-sent
returns-clause-sent c =
    by_copy c.args.r c.args.scratch.now c.args.message.now c.args.out.now c.first_of.result (nested c.args.r.refusal c.first_of.ensures c.first_of-late.ensures) (sym c.in_ok-check.ensures.refuses) c.put_copy.ensures.sent
