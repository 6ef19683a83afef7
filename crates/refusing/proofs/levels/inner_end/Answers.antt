-- `inner_end` by whether the row was entered, and where the place stands. Assumes nothing.
use borrow.Author.Tests.{lt-ltb, le-ltb, le-leb, lt-leb}
use Rattle.refusing.specs.Levels.{holds, inner_end}
use Rattle.refusing.proofs.levels.inner_end.Goals.{else-start-place-via-then-start-place+else-place-stop, else-start-place-via-else-start-place}
use Rattle.refusing.proofs.levels.inner_end.Goals as goal

pub returns-then-not-entered : goal.returns-then-not-entered
unfolding inner_end holds
returns-then-not-entered c = rw (← c.number.ensures, ← c.number-2.ensures, ← c.entered.ensures, c.if-not-entered.true)

pub returns-then-place-stop : goal.returns-then-place-stop
unfolding inner_end holds
returns-then-place-stop c =
    rw (← c.number.ensures, ← c.number-2.ensures, ← c.entered.ensures, c.if-not-entered.false, ← c.number-3.ensures, ← c.number-4.ensures, ← c.from-start.ensures, ← c.from.ensures, le-leb _ _ c.if-start-place.true, lt-ltb _ _ c.if-place-stop.true)

pub returns-else-start-place : goal.returns-else-start-place
unfolding inner_end holds
returns-else-start-place c =
    rw (← c.number.ensures, ← c.number-2.ensures, ← c.entered.ensures, c.if-not-entered.false, ← c.number-3.ensures, ← c.number-4.ensures, ← c.from-start.ensures, ← c.from.ensures) (
    elim c.else-start-place.branch [
      | else-start-place-via-then-start-place+else-place-stop w ↦ rw (le-leb _ _ w.if-start-place.true, le-ltb _ _ w.if-place-stop.false)
      | else-start-place-via-else-start-place w ↦ rw (lt-leb _ _ w.if-start-place.false)
    ]
    )
