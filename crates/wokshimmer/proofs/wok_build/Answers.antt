-- `wok_build` builds, and stores the five numbers and the length. Assumes nothing.
use Rattle.wokshimmer.proofs.Exported.{built-octets, built-most}
use Rattle.wokshimmer.proofs.wok_build.Goals as goal

pub tell-requires : goal.tell-requires
tell-requires c = built-most c.args.table.now c.build-made.ensures.sent

pub returns : goal.returns
returns c = built-octets c.args.table.now c.build-made.ensures.sent c.tell.ensures.code c.tell.ensures.told
