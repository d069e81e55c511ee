-- What the loop of `fill_by_table` keeps. Assumes nothing.
use Rattle.energy.proofs.Entries.{Adding}
use Rattle.energy.proofs.table.fill_by_table.Given as goal

abbrev pub invariant-loop-d : goal.invariant-loop-d
invariant-loop-d l = Adding l.fn.mw l.entries l.initial.entry-items l.entry-items l.d
