-- `list` writes the header before the rows. Assumes nothing.
use mathlib.Core.Path.{◌∙◌}
use Rattle.showing.proofs.Listing.{headed, listed}
use Rattle.showing.proofs.list.Goals as goal

pub write_header-requires : goal.write_header-requires
write_header-requires c =
    headed c.args.table.now c.requires.0 c.args.kind c.args.message.now c.decide-d.ensures

pub returns : goal.returns
returns c =
    listed c.args.table.now c.requires.0 c.args.kind c.args.message.now c.decide-d.ensures c.requires.1 (c.from-typ.ensures ∙ c.get_or.ensures) c.narrow-k.ensures c.write_header.ensures
