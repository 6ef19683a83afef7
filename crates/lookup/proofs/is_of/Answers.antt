-- `is_of` makes the definition's tests, the longest last: a table that passes the first has its header and its rows. Assumes nothing.
use mathlib.Core.Bool.{not}
use mathlib.Core.Path.{sym, ap, ◌∙◌}
use native.Mathlib.Omega.{arith}
use borrow.Author.Tests.{not-false}
use Rattle.lookup.proofs.Tables.{whole, has_all}
use Rattle.lookup.proofs.is_of.Goals as goal

pub bounds-table-5 : goal.bounds-table-5
bounds-table-5 c = let w = whole c.args.table.now (sym c.is_headed.ensures ∙ c.if-not-is_headed.false) in omega (arith, w.long)

pub bounds-table-4 : goal.bounds-table-4
bounds-table-4 c = let w = whole c.args.table.now (sym c.is_headed.ensures ∙ c.if-not-is_headed.false) in omega (arith, w.long)

pub bounds-table-1 : goal.bounds-table-1
bounds-table-1 c = let w = whole c.args.table.now (sym c.is_headed.ensures ∙ c.if-not-is_headed.false) in omega (arith, w.long)

pub bounds-table-0 : goal.bounds-table-0
bounds-table-0 c = let w = whole c.args.table.now (sym c.is_headed.ensures ∙ c.if-not-is_headed.false) in omega (arith, w.long)

pub standing_kept-requires : goal.standing_kept-requires
standing_kept-requires c =
    let w = whole c.args.table.now (sym c.is_headed.ensures ∙ c.if-not-is_headed.false) in rw c.from-then-table-from-2.ensures (has_all _ w)
