-- `put` lays octets over others. Assumes nothing.
use native.Mathlib.Omega.{arith}
use borrow.Author.Rules.{rules}
use Rattle.keeping.proofs.Storing.{put_is}
use Rattle.keeping.proofs.put.Goals as goal

pub returns : goal.returns
returns g c = put_is c.args.out.now c.args.octets.now c.args.at g.row.N (search rules) c.requires c.copy_from_slice.ensures.after (omega arith)
