-- What the loop of `fill` keeps. Assumes nothing.
use Rattle.test_day.proofs.Seeds.{Filled}
use Rattle.test_day.proofs.fill.Given as goal

abbrev pub invariant-loop-place : goal.invariant-loop-place
invariant-loop-place l = Filled l.seed l.initial.buffer l.buffer l.last l.place-index
