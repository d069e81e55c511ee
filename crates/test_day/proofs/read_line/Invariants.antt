-- What the loop of `read_line` keeps. Assumes nothing.
use Rattle.test_day.proofs.Digits.{Read}
use Rattle.test_day.proofs.read_line.Given as goal

abbrev pub invariant-loop-b : goal.invariant-loop-b
invariant-loop-b l = Read l.text l.seed l.b-index
