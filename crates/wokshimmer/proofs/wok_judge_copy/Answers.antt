-- `wok_judge_copy` stores the five numbers of the call. Assumes nothing.
use Rattle.wokshimmer.proofs.Exported.{called-octets}
use Rattle.wokshimmer.proofs.wok_judge_copy.Goals as goal

pub returns : goal.returns
returns c = called-octets c.judge_copy-verdict.ensures c.put_five.ensures
