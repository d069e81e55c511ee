-- What the loop of `fill_by_steps` keeps. Assumes nothing.
use Rattle.energy.proofs.Services.{Filled}
use Rattle.energy.proofs.table.fill_by_steps.Given as goal

abbrev pub invariant-loop-next : goal.invariant-loop-next
invariant-loop-next l = Filled l.initial.last l.others l.factor l.initial.table l.table l.last l.next-index
