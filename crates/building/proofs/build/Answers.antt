-- `build` reads kind and type off the table. Assumes nothing.
use mathlib.Core.Path.{◌∙◌}
use native.Mathlib.Omega.{arith}
use Rattle.std.proofs.lemmas.Result.{err_from_is_err_and}
use Rattle.building.proofs.Builds.{no_header, by-header, refused-early, refused-large, makes, builds}
use Rattle.building.proofs.build.Goals as goal

pub returns-then-len-lt6-clause-sent : goal.returns-then-len-lt6-clause-sent
returns-then-len-lt6-clause-sent g c = no_header c.args.teid c.args.sequence (g.T.Numbers.numbers c.args.table) c.args.values.now c.args.room.now (omega (arith, c.len.ensures)) _ c.into.ensures

pub returns-in_err-header-clause-sent : goal.returns-in_err-header-clause-sent
returns-in_err-header-clause-sent g c =
    let p = err_from_is_err_and c.from_residual.result c.from_residual.ensures.1 in
    rw p.1
    (by-header c.args.teid c.args.sequence (g.T.Numbers.numbers c.args.table) c.args.values.now c.args.room.now (omega (arith, c.len.ensures)) (omega (arith, c.from-kind.ensures, c.at.ensures)) (omega (arith, c.from-typ.ensures, c.at-2.ensures))
    (refused-early c.from-kind.result c.from-typ.result c.args.teid c.args.sequence (g.T.Numbers.numbers c.args.table) c.args.values.now c.args.room.now c.in_err-header.field-0.0 c.in_err-header.ensures p.0 p.2))

pub returns-then-count-gt1022-clause-sent : goal.returns-then-count-gt1022-clause-sent
returns-then-count-gt1022-clause-sent g c =
    by-header c.args.teid c.args.sequence (g.T.Numbers.numbers c.args.table) c.args.values.now c.args.room.now (omega (arith, c.len.ensures)) (omega (arith, c.from-kind.ensures, c.at.ensures)) (omega (arith, c.from-typ.ensures, c.at-2.ensures))
    (refused-large c.from-kind.result c.from-typ.result c.args.teid c.args.sequence (g.T.Numbers.numbers c.args.table) c.args.values.now c.args.room.now c.in_ok-header.ensures.0 c.from-count.result
    (c.from-count.ensures ∙ c.at-3.ensures) c.if-count-gt1022.true (record { verdict = c.into-then-count-gt1022.result; length = 0 }) (rw c.into-then-count-gt1022.ensures))

pub make-requires : goal.make-requires
make-requires g c =
    makes c.from-kind.result c.from-typ.result c.args.teid c.args.sequence (g.T.Numbers.numbers c.args.table) c.args.values.now c.args.room.now (g.T.Numbers.numbers c.after.result) c.from-count.result c.in_ok-header.ensures.0
    (record { count_is = c.from-count.ensures ∙ c.at-3.ensures; rows_is = c.after.ensures })

pub returns-clause-sent : goal.returns-clause-sent
returns-clause-sent g c =
    by-header c.args.teid c.args.sequence (g.T.Numbers.numbers c.args.table) c.args.values.now c.args.room.now (omega (arith, c.len.ensures)) (omega (arith, c.from-kind.ensures, c.at.ensures)) (omega (arith, c.from-typ.ensures, c.at-2.ensures))
    (builds c.from-kind.result c.from-typ.result c.args.teid c.args.sequence (g.T.Numbers.numbers c.args.table) c.args.values.now c.args.room.now (g.T.Numbers.numbers c.after.result) c.from-count.result c.in_ok-header.ensures.0
    (record { count_is = c.from-count.ensures ∙ c.at-3.ensures; rows_is = c.after.ensures }) c.in_ok-header.header c.in_ok-header.ensures.1 c.make.ensures.sent)
