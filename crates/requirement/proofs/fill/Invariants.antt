-- What the loop of `fill` keeps. Assumes nothing.
use mathlib.Core.Path.{◌≡◌}
use Rattle.requirement.proofs.Filling.{Filled}
use Rattle.requirement.proofs.fill.Given as goal

abbrev pub invariant-loop-i : goal.invariant-loop-i
invariant-loop-i l = record {
  volumes_are : l.sums.volumes ≡ l.volumes;
  passed_are : l.sums.passed ≡ l.i;
  filled : Filled l.volumes.rev l.volumes.er l.bounds l.rows l.sums.backs l.sums.left l.sums.shortfall l.i;
}
