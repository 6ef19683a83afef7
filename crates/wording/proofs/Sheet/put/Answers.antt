-- `put` by whether there is room. Assumes nothing.
use mathlib.Core.Path.{refl}
use Rattle.wording.proofs.Puts.{puts_one, puts-full}
use Rattle.wording.proofs.Sheet.put.Goals as goal

pub returns-then-self : goal.returns-then-self
returns-then-self c = record { same = refl; put = puts_one _ _ _ c.if-self.true }

pub returns-else-self : goal.returns-else-self
returns-else-self c = record { same = refl; put = puts-full _ _ _ c.if-self.false }
