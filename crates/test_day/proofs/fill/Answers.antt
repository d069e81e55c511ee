-- `test_day::fill` meets its contract. The loop's invariant is `Filled`. Assumes nothing.
use Rattle.test_day.proofs.Seeds.{begin, step}
use Rattle.test_day.proofs.fill.Goals as goal

pub loop-place-init : goal.loop-place-init
loop-place-init c = begin _ _ c.if-seed-gt2147483647.false

pub loop-place-preserved : goal.loop-place-preserved
loop-place-preserved c = step _ _ c.loop-place.invariant c.loop-place-test.true c.next_seed-new.ensures c.reading_of.ensures
