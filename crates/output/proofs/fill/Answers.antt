-- `fill` puts what each read gives behind what it has. Assumes nothing.
use Rattle.std.proofs.Common.{◌≡◌, ◌-◌, length, arith, ℕ, ◌∙◌, length-drop}
use Rattle.std.proofs.lemmas.List.{length-take}
use borrow.Rule.Slice.PartMut.{same_len_mid, put_mid}
use Rattle.output.proofs.Filling.{further}
use Rattle.output.proofs.fill.Goals as goal

pub loop-at-preserved : goal.loop-at-preserved
loop-at-preserved g c =
    let i = c.loop-at.invariant in
    let same : length (put_mid c.loop-at.at (length c.loop-at.buf - c.loop-at.at) c.loop-at.buf c.read.new.buf) ≡ length c.loop-at.buf = same_len_mid _ _ _ _ c.read.auto.buf in (
      omega (arith, same, c.in_ok-got.ensures.bound.0, c.read.auto.buf, length-take {A = ℕ}, length-drop {A = ℕ}),
      same ∙ i.1,
      further _ _ _ c.loop-at.at c.in_ok-got.got c.loop-at.buf c.read.new.buf _ i.0 c.in_ok-got.ensures.bound.0 i.2 c.in_ok-got.ensures.bytes.0,
    )
