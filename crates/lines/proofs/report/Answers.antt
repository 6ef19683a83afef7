-- `report` puts the text by the verdict, and the table on acceptance. Assumes nothing.
use native.Mathlib.Omega.{arith}
use Rattle.lines.proofs.Reports.{reported_refused, lists, reported_accepted}
use Rattle.lines.proofs.report.Goals as goal

pub returns-then-v-ne0 : goal.returns-then-v-ne0
returns-then-v-ne0 c = reported_refused c.args.kind c.args.message.now c.judge_copy-v.ensures (omega arith) (omega arith) c.if-v-ne0.true c.said.ensures

pub listed-requires : goal.listed-requires
listed-requires c = lists c.args.kind c.args.message.now c.judge_copy-v.ensures (omega arith) (omega arith) c.if-v-ne0.false

pub returns-else-v-ne0 : goal.returns-else-v-ne0
returns-else-v-ne0 c = reported_accepted c.args.kind c.args.message.now c.judge_copy-v.ensures (omega arith) (omega arith) c.if-v-ne0.false c.listed.ensures
