-- `is_group` goes by the table of types. Assumes nothing.
use mathlib.Core.Path.{sym, ◌∙◌}
use native.Mathlib.Omega.{arith}
use Rattle.facts.proofs.Facts.{group-is}
use Rattle.facts.proofs.Groups.{no_group}
use Rattle.emitting.proofs.is_group.Goals as goal

pub returns-in-Ok : goal.returns-in-Ok
returns-in-Ok c = c.group.ensures ∙ rw (c.table.ensures, c.in-Ok.ensures.1) (group-is _ c.in-Ok.ensures.0)

pub returns-in-Err : goal.returns-in-Err
returns-in-Err c = sym (no_group _ (omega (arith, c.in-Err.ensures)))
