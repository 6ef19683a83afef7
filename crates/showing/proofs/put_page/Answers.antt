-- `put_page` looks at the octets that count, by way of the front of the room. Assumes nothing.
use lib.ListN.{length, take}
use Rattle.showing.proofs.Paging.{front-room, counted_only, few-counted}
use Rattle.showing.proofs.put_page.Goals as goal

pub copied_page-requires : goal.copied_page-requires
copied_page-requires c = front-room (length (take c.min.result c.args.message.now)) 4097 (few-counted c.args.message.now c.min.ensures)

pub returns : goal.returns
returns c = let a = c.args in counted_only a.names.now a.view a.message.now c.min.ensures c.copied_page.ensures
