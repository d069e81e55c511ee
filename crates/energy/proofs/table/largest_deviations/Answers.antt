-- `energy::table::largest_deviations` meets its contract. The loop's invariant is `SoFar`. Assumes nothing.
use Rattle.energy.proofs.Largest.{step, done}
use Rattle.energy.proofs.table.largest_deviations.Goals as goal

pub loop-reading-preserved : goal.loop-reading-preserved
loop-reading-preserved c =
    rw (c.min-least.ensures, c.max-most.ensures) (step _ c.loop-reading.invariant c.loop-reading-test.true)

pub returns : goal.returns
returns c = done _ c.loop-reading.invariant c.loop-reading-test.false
