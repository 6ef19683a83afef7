-- `whole` goes by what the reading refuses, and by its counts. Assumes nothing.
use mathlib.Core.Path.{◌≡◌}
use mathlib.Core.List.{[], ◌∷◌}
use borrow.Author.Tests.{ne_eqb}
use Rattle.rules.specs.Verdicts.{first}
use Rattle.rules.specs.declared.Verdict.{Verdict}
use Rattle.building.proofs.Wholes.{not-whole, whole-counts}
use Rattle.building.proofs.making.whole.Goals as goal

nested : (a : Verdict) {v w x : Verdict} → v ≡ first (a ∷ w ∷ []) → w ≡ x → v ≡ first (a ∷ x ∷ [])
nested a e f = rw (← f) e

pub returns-then-v-eq0 : goal.returns-then-v-eq0
returns-then-v-eq0 c =
    whole-counts c.args.kind c.args.message.now c.read-r.result c.read-r.ensures.answers c.first_of-v.result (nested c.read-r.result.refusal c.first_of-v.ensures c.first_of.ensures) c.if-v-eq0.true

pub returns-else-v-eq0 : goal.returns-else-v-eq0
returns-else-v-eq0 c =
    rw (ne_eqb c.first_of-v.result.code 0 c.if-v-eq0.false)
    (not-whole c.args.kind c.args.message.now c.read-r.result c.read-r.ensures.answers c.first_of-v.result (nested c.read-r.result.refusal c.first_of-v.ensures c.first_of.ensures) c.if-v-eq0.false)
