-- `wok_rows` counts, and stores the five numbers and the rows. Assumes nothing.
use Rattle.wokshimmer.proofs.Exported.{counted-octets, count_most}
use Rattle.wokshimmer.proofs.wok_rows.Goals as goal

pub tell-requires : goal.tell-requires
tell-requires c = count_most c.count.ensures.counted

pub returns : goal.returns
returns c = counted-octets c.count.ensures.counted c.tell.ensures.code c.tell.ensures.told
