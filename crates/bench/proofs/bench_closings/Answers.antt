-- A refused closing leaves the record as it was, and counts as a closing. Assumes nothing.
use native.Mathlib.Numerals.{add-one}
use Rattle.bench.specs.Bench.{closings}
use Rattle.bench.proofs.bench_closings.Goals as goal

pub loop-i-init : goal.loop-i-init
unfolding closings
loop-i-init c = c.opened_record-after.ensures

pub loop-i-preserved : goal.loop-i-preserved
unfolding closings
loop-i-preserved c = rw (add-one c.loop-i._i, ← c.loop-i.invariant) c.close_period.ensures.kept
