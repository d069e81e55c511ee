-- What the loop of `put_lines` keeps. Assumes nothing.
use Rattle.test_day.proofs.Printing.{Written}
use Rattle.test_day.proofs.put_lines.Given as goal

abbrev pub invariant-loop-i : goal.invariant-loop-i
invariant-loop-i l = Written l.readings l.initial.page l.page l.i
