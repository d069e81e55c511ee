-- What the loop of `fill` keeps. Assumes nothing.
use Rattle.energy.proofs.Filling.{Filling}
use Rattle.energy.proofs.table.fill.Given as goal

abbrev pub invariant-loop-entry : goal.invariant-loop-entry
invariant-loop-entry l = Filling l.first l.step l.initial.entry-items l.entry-items l.parts l.entry-index
