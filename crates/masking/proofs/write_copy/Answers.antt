-- `write_copy` lays the message over the copy and clears its rows. Assumes nothing.
use mathlib.Core.Path.{ap, ◌∙◌}
use native.Mathlib.Omega.{arith}
use Rattle.masking.specs.Clearing.{cleared_rows}
use Rattle.copying.proofs.Copying.{goes_over}
use Rattle.masking.proofs.Clearing.{within_same}
use Rattle.masking.proofs.write_copy.Goals as goal

pub clear_rows-requires : goal.clear_rows-requires
clear_rows-requires c = within_same c.requires.within (omega arith)

pub returns : goal.returns
returns c =
    c.clear_rows.ensures
    ∙ ap (cleared_rows c.args.rows.now c.args.message.now c.args.count)
    (c.copy_octets.ensures ∙ goes_over c.args.message.now c.args.copy.now c.requires.long)
