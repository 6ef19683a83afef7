-- `text` passes over the texts of other sections and numbers. Assumes nothing.
use mathlib.Core.Path.{sym, ◌∙◌}
use Rattle.phrases.proofs.Search.{is_every, is_own, is-elsewhere, is-other, not-every, seek-start, seek_hit, seek-next, seek-end}
use Rattle.phrases.proofs.finding.text.Goals.{then-n, else-n, else-number-section-via-then-number-section+else-from-number, else-number-section-via-else-number-section}
use Rattle.phrases.proofs.finding.text.Goals as goal

pub loop-s-init : goal.loop-s-init
loop-s-init c = seek-start _ _ _ c.texts-s-items.ensures

pub returns-then-from-number : goal.returns-then-from-number
returns-then-from-number c =
    seek_hit _ _ _ _ c.loop-s.invariant c.loop-s-test.true c.number.ensures (
    elim c.if-n.branch [
      | then-n w ↦ is_every _ _ _ _ c.if-number-section.true w.if-n.true
      | else-n w ↦ is_own _ _ _ _ w.from.ensures c.if-number-section.true (sym w.value-is ∙ c.if-from-number.true)
    ]
    )

pub loop-s-preserved : goal.loop-s-preserved
loop-s-preserved c =
    seek-next _ _ _ _ c.loop-s.invariant c.loop-s-test.true c.number.ensures (
    elim c.else-number-section.branch [
      | else-number-section-via-then-number-section+else-from-number w ↦ elim w.if-n.branch [
        | then-n w' ↦ absurd (not-every w'.if-n.true w'.value-is w.if-from-number.false)
        | else-n w' ↦ is-other _ _ _ _ w'.from.ensures w'.if-n.false (sym w'.value-is ∙ w.if-from-number.false)
      ]
      | else-number-section-via-else-number-section w ↦ is-elsewhere _ _ _ _ w.if-number-section.false
    ]
    )

pub returns : goal.returns
returns c = seek-end _ _ _ _ c.loop-s.invariant c.loop-s-test.false
