-- What the loop of `largest_deviations` keeps. Assumes nothing.
use Rattle.energy.proofs.Largest.{SoFar}
use Rattle.energy.proofs.table.largest_deviations.Given as goal

abbrev pub invariant-loop-reading : goal.invariant-loop-reading
invariant-loop-reading l = SoFar l.readings l.reading-index l.least l.most
