-- `put` goes by the rows that are laid so far. Assumes nothing.
use native.Mathlib.Omega.{arith}
use Rattle.emitting.specs.Emits.{is_received}
use Rattle.emitting.proofs.Overs.{put_asks, put-goes, put-ends}
use Rattle.emitting.proofs.Rows.put.Goals as goal

pub put_row-to-requires : goal.put_row-to-requires
put_row-to-requires g c =
    put_asks (g.T.Numbers.numbers c.args.self.now.numbers) c.args.self.now.count c.args.source.now (is_received c.args.fourth) c.args.out.now c.args.at c.requires _ _ _ c.loop-n.invariant c.loop-n-test.true

pub loop-n-preserved : goal.loop-n-preserved
loop-n-preserved g c =
    put-goes (g.T.Numbers.numbers c.args.self.now.numbers) c.args.self.now.count c.args.source.now (is_received c.args.fourth) c.args.out.now c.args.at c.requires _ _ _ c.loop-n.invariant c.loop-n-test.true _ _ c.put_row-to.ensures (omega arith)

pub returns : goal.returns
returns g c =
    put-ends (g.T.Numbers.numbers c.args.self.now.numbers) c.args.self.now.count c.args.source.now (is_received c.args.fourth) c.args.out.now c.args.at _ _ _ c.loop-n.invariant c.loop-n-test.false
