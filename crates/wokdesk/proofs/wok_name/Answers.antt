-- `wok_name` puts the name from the start of the buffer. Assumes nothing.
use Rattle.std.proofs.Common.{rules}
use Rattle.wokdesk.proofs.Paging.{called}
use Rattle.wokdesk.proofs.wok_name.Goals as goal

pub returns : goal.returns
returns c = called c.args.what c.args.number c.args.name.now (search rules)
