-- `fits_levels` goes from level to level. Assumes nothing.
use Rattle.pieces.proofs.Waiting.{Fitting}
use Rattle.pieces.proofs.sound.fits_levels.Given as goal

abbrev pub invariant-loop-f : goal.invariant-loop-f
invariant-loop-f l = Fitting l.place l.levels l.at l.f-index
