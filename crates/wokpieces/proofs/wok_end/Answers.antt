-- `wok_end` reads the state, gives the verdict, and keeps that it ended; or answers 17. Assumes nothing.
use native.Mathlib.Omega.{arith}
use Rattle.wokpieces.proofs.Calls.{end_refused, end_taken, kept_fits, half_of}
use Rattle.wokpieces.proofs.wok_end.Goals as goal

pub returns-in_default : goal.returns-in_default
returns-in_default c =
    let a = c.args in
    end_refused a.state.now a.table.now a.five.now c.told.ensures c.in_default.ensures c.verdict.ensures

pub finish-requires : goal.finish-requires
finish-requires c =
    let m = half_of c.args.table.now in
    record { fits = kept_fits c.in-Some.ensures; verdict = rw m.0 c.verdict_on-verdict.ensures; half = _; twice = m.1 }

pub returns : goal.returns
returns c =
    let a = c.args in
    end_taken a.state.now a.table.now a.five.now c.told-2.ensures c.in-Some.ensures c.verdict_on-verdict.ensures
    c.finish.ensures (λ j. omega (arith, c.type_inv.table j)) c.ended.ensures c.keep.ensures
