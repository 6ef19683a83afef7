-- `crowded` goes from sibling to sibling: what is left to ask says what was asked. Assumes nothing.
use Rattle.scratch.proofs.Guess.{Guess}
use Rattle.scratch.proofs.crowded.Given as goal

abbrev pub invariant-loop : goal.invariant-loop
invariant-loop l = Guess l.message l.at l.counter
