-- `test_day::put_lines` meets its contract. The loop's invariant is `Written`. Assumes nothing.
use Rattle.test_day.proofs.Printing.{no_room, begin, step}
use Rattle.test_day.proofs.put_lines.Goals as goal

pub returns-then-page-readings : goal.returns-then-page-readings
returns-then-page-readings c = no_room _ _ c.if-page-readings.true

pub loop-i-init : goal.loop-i-init
loop-i-init c = begin _ _ c.if-page-readings.false

pub loop-i-preserved : goal.loop-i-preserved
loop-i-preserved c = step _ _ c.loop-i.invariant c.loop-i-test.true c.put_line.ensures
