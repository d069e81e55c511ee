-- What the loop of `measure` keeps. Assumes nothing.
use Rattle.payment.proofs.Measuring.{Read}
use Rattle.payment.proofs.measure.Given as goal

abbrev pub invariant-loop-p : goal.invariant-loop-p
invariant-loop-p l = Read l.pieces l.seconds l.work l.p-index
