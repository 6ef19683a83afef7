-- `reason` reads the message once more. Assumes nothing.
use borrow.Author.Tests.{eq-eqb, ne_eqb, lt-ltb, le-ltb}
use lib.ListN.{length}
use Rattle.refusing.specs.Levels.{reason_of}
use Rattle.scratch.proofs.Blank.{blank}
use Rattle.refusing.proofs.Ends.{end_is}
use Rattle.refusing.proofs.levels.reason.Goals as goal

pub returns-then-v-ne9 : goal.returns-then-v-ne9
unfolding reason_of
returns-then-v-ne9 c = rw (ne_eqb _ _ c.if-v-ne9.true)

pub returns-then-level_end-place : goal.returns-then-level_end-place
unfolding reason_of
returns-then-level_end-place c =
    let a = c.args in
    rw (eq-eqb _ _ c.if-v-ne9.false, ← end_is a.kind a.message.now (blank 6132) c.read-read.ensures a.v.place (length a.message.now), ← c.from-place.ensures, ← c.level_end.ensures, lt-ltb _ _ c.if-level_end-place.true)

pub returns-else-level_end-place : goal.returns-else-level_end-place
unfolding reason_of
returns-else-level_end-place c =
    let a = c.args in
    rw (eq-eqb _ _ c.if-v-ne9.false, ← end_is a.kind a.message.now (blank 6132) c.read-read.ensures a.v.place (length a.message.now), ← c.from-place.ensures, ← c.level_end.ensures, le-ltb _ _ c.if-level_end-place.false)
