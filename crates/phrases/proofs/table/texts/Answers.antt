-- `texts` is the constant that is computed from the texts. Assumes nothing.
use mathlib.Core.Path.{refl}
use Rattle.phrases.specs.Texts.{octets_of}
use Rattle.phrases.specs.Table.{texts}
use Rattle.phrases.specs.Laid.{rows_of}
use Rattle.phrases.proofs.table.texts.Goals as goal

pub returns : goal.returns
unfolding texts octets_of rows_of
returns c = record { is = refl }
