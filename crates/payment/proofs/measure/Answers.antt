-- `payment::measure` meets its contract. The loop's invariant is `Read`. Assumes nothing.
use native.Mathlib.Omega.{arith}
use Rattle.payment.proofs.Measuring.{over, kept, miscounted, all-work, step, too_much, too_long, holds}
use Rattle.payment.proofs.measure.Goals as goal

pub returns-then-count-gt64 : goal.returns-then-count-gt64
returns-then-count-gt64 c = over _ (miscounted _ c.if-count-gt64.true)

pub returns-then-p-gt1000000 : goal.returns-then-p-gt1000000
returns-then-p-gt1000000 c = over _ (too_much _ c.loop-p.invariant c.if-count-gt64.false _ c.loop-p-test.true c.if-p-gt1000000.true)

pub loop-p-preserved : goal.loop-p-preserved
loop-p-preserved c = step _ c.loop-p.invariant c.if-count-gt64.false _ c.loop-p-test.true c.if-p-gt1000000.false (omega arith)

pub returns-then-seconds-gt1800 : goal.returns-then-seconds-gt1800
returns-then-seconds-gt1800 c = over _ (too_long _ c.loop-p.invariant c.if-count-gt64.false c.loop-p-test.false c.if-seconds-gt1800.true)

pub returns : goal.returns
returns c =
    let end = c.loop-p-test.false in
    kept _ (holds _ c.loop-p.invariant c.if-count-gt64.false end c.if-seconds-gt1800.false) (all-work _ c.loop-p.invariant c.if-count-gt64.false end)
