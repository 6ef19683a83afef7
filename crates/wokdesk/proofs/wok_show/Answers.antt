-- `wok_show` lends the names. Assumes nothing.
use Rattle.wokdesk.proofs.Paging.{paged}
use Rattle.wokdesk.proofs.wok_show.Goals as goal

pub returns : goal.returns
returns c = let a = c.args in paged _ a.message.now a.page.now a.kind a.right a.full c.names.ensures c.page.ensures
