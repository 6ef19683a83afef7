-- `seek` meets its contract: the table is what the messages say, computed. Assumes nothing.
use mathlib.Core.List.{map}
use lib.Dec.{eqb}
use borrow.Author.Rules.{rules}
use Rattle.std.proofs.Common.{tests}
use Rattle.std.proofs.lemmas.Iterator.{YieldsList-from_slice}
use Rattle.std.proofs.lemmas.Iterator.Search.{find_from_yields_List}
use Rattle.rules.specs.Listings.{messages, book}
use Rattle.heading.specs.declared.Handled.{Handled}
use Rattle.heading.specs.Header.{handled_of}
use Rattle.heading.proofs.Messages.{sought_from_find}
use Rattle.heading.proofs.seek.Goals as goal

pub returns : goal.returns
unfolding book messages
returns c =
    let t = c.args.typ in
    sought_from_find t c.find.result
    (find_from_yields_List {all = map handled_of book.messages} (λ (h : Handled). eqb h.typ t) _ _ c.find.result c.find.ensures.ran (YieldsList-from_slice _ cc) (λ x b q k. search (rules, tests)))
