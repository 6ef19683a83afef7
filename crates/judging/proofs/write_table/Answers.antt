-- `write_table` writes the header, and the rows after it. Assumes nothing.
use Rattle.judging.proofs.Writing.{written}
use Rattle.judging.proofs.write_table.Goals as goal

pub returns : goal.returns
returns c = written c.args.n c.args.kept c.args.typ c.args.kind _ _ c.requires c.write_header.ensures c.copy_from_slice.ensures.after
