-- `refuse_at` is the five numbers that it is given. Assumes nothing.
use mathlib.Core.Path.{refl}
use Rattle.answers.proofs.refuse_at.Goals as goal

pub returns : goal.returns
returns c = refl
