-- `facts::table` meets its contract: the constant is the table of the rules, computed. Assumes nothing.
use mathlib.Core.Path.{refl}
use Rattle.rules.specs.Types.{groups, is_group, whole_types, covers_whole, rest_types, covers_rest}
use Rattle.facts.specs.Facts.{mark_of, octet_of, octets_from, facts}
use Rattle.facts.proofs.table.Goals as goal

pub returns : goal.returns
unfolding facts octets_from octet_of mark_of is_group groups covers_whole rest_types covers_rest whole_types
returns c = refl
