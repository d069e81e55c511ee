-- What the loop of `put` keeps. Assumes nothing.
use lib.ListN.{length}
use Rattle.columns.proofs.Columns.{Filled}
use Rattle.columns.proofs.put.Given as goal

abbrev pub invariant-loop-i : goal.invariant-loop-i
invariant-loop-i l = Filled (length l.initial.cell) l.minus l.n l.cell l.i l.rest l.due
