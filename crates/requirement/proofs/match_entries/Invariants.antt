-- What the loop of `match_entries` keeps. Assumes nothing.
use mathlib.Core.Path.{◌≡◌}
use Rattle.terms.specs.Terms.{REV, ER}
use Rattle.requirement.proofs.Matching.{SameSoFar}
use Rattle.requirement.proofs.match_entries.Given as goal

abbrev pub invariant-loop-i : goal.invariant-loop-i
invariant-loop-i l = record {
  rev_is : l.sums.volumes.rev ≡ REV l.fn.q;
  er_is : l.sums.volumes.er ≡ ER l.fn.q;
  passed_are : l.sums.passed ≡ l.i;
  so_far : SameSoFar (REV l.fn.q) (ER l.fn.q) l.count l.bounds l.requirements l.schedules l.sums.backs l.sums.left l.sums.shortfall l.same l.i;
}
