-- What the loop of `bench_closings` keeps: the record is that of as many closings. Assumes nothing.
use Rattle.std.proofs.Common.{◌≡◌}
use Rattle.ledger.specs.Calls.{closing_of}
use Rattle.bench.specs.Bench.{opened_record, closings}
use Rattle.bench.proofs.bench_closings.Given as goal

abbrev pub invariant-loop-i : goal.invariant-loop-i
invariant-loop-i l = l.after ≡ closings l._i (opened_record l.mw l.size l.first) (closing_of l.asked l.readings)
