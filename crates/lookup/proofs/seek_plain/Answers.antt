-- `seek_plain` goes by the rows: what the rows left say is what all say. Assumes nothing.
use mathlib.Core.Path.{sym, ◌∙◌}
use native.Mathlib.Omega.{arith}
use Rattle.lookup.proofs.Seeking.{hits, misses, ends}
use Rattle.lookup.proofs.seek_plain.Goals as goal

pub returns-then-is_plain : goal.returns-then-is_plain
returns-then-is_plain c = (c.loop-row-test.true, c.loop-row.invariant ∙ hits _ _ _ _ _ c.loop-row-test.true (sym c.is_plain.ensures ∙ c.if-is_plain.true))

pub loop-row-preserved : goal.loop-row-preserved
loop-row-preserved c = c.loop-row.invariant ∙ misses _ _ _ _ _ c.loop-row-test.true (sym c.is_plain.ensures ∙ c.if-is_plain.false)

pub returns : goal.returns
returns c = c.loop-row.invariant ∙ ends _ _ _ _ _ (omega arith)
