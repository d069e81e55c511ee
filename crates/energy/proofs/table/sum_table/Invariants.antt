-- What the loop of `sum_table` keeps. Assumes nothing.
use Rattle.energy.proofs.Backward.{Running}
use Rattle.energy.proofs.table.sum_table.Given as goal

abbrev pub invariant-loop-i : goal.invariant-loop-i
invariant-loop-i l = Running l.lows l.highs l.readings l.i l.low l.high
