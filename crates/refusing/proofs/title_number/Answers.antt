-- `title_number` by the code. Assumes nothing.
use borrow.Author.Tests.{lt-ltb, le-ltb}
use Rattle.refusing.specs.Refused.{title_number}
use Rattle.refusing.proofs.title_number.Goals as goal

pub returns-then-v-lt5 : goal.returns-then-v-lt5
unfolding title_number
returns-then-v-lt5 c = rw (lt-ltb _ _ c.if-v-lt5.true)

pub returns-else-v-lt5 : goal.returns-else-v-lt5
unfolding title_number
returns-else-v-lt5 c = rw (le-ltb _ _ c.if-v-lt5.false)
