-- `wok_clean` cleans, and stores the five numbers and the length. Assumes nothing.
use Rattle.wokshimmer.proofs.Exported.{cleaned-octets, length_most}
use Rattle.wokshimmer.proofs.wok_clean.Goals as goal

pub tell-requires : goal.tell-requires
tell-requires c = length_most c.clean-copied.ensures.sent

pub returns : goal.returns
returns c = cleaned-octets c.clean-copied.ensures.sent c.tell.ensures.code c.tell.ensures.told
