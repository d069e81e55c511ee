-- What the loop of `number_at` keeps. Assumes nothing.
use lib.ListN.{length, drop}
use Rattle.columns.proofs.Reading.{Read}
use Rattle.columns.proofs.number_at.Given as goal

abbrev pub invariant-loop-b : goal.invariant-loop-b
invariant-loop-b l = Read (drop l.at l.line) l.f (length l.yielded)
