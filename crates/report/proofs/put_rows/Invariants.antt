-- What the loop of `put_rows` keeps. Assumes nothing.
use Rattle.report.proofs.Table.{Written}
use Rattle.report.proofs.put_rows.Given as goal

abbrev pub invariant-loop-i : goal.invariant-loop-i
invariant-loop-i l = Written l.fn.rows l.initial.output l.output l.i
