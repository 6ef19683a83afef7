-- `run` asks for each number. Assumes nothing.
use borrow.Author.Tests.{eq-eqb, ne_eqb}
use Rattle.rules.specs.Framing.{version, flag_t, message_type, length_field, header_length}
use Rattle.refusing.specs.Refused.{claim, refused_run}
use Rattle.refusing.proofs.run.Goals.{then-first-eq1, else-first-eq1}
use Rattle.refusing.proofs.run.Goals as goal

pub returns : goal.returns
unfolding refused_run version flag_t message_type length_field header_length claim
returns c =
    rw (← c.narrow.ensures, ← c.narrow-2.ensures, ← c.get_or-first.ensures, ← c.get_or.ensures, ← c.from.ensures, ← c.from-2.ensures, ← c.get_or-2.ensures, ← c.get_or-3.ensures, ← c.claim.ensures) (
    elim c.if-first-eq1.branch [
      | then-first-eq1 w ↦ rw (w.header-is, eq-eqb _ _ w.if-first-eq1.true)
      | else-first-eq1 w ↦ rw (w.header-is, ne_eqb _ _ w.if-first-eq1.false)
    ]
    )
