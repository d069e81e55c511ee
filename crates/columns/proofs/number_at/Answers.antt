-- `columns::number_at` meets its contract. The loop's invariant is `Read`. Assumes nothing.
use native.Mathlib.Omega.{arith}
use lib.ListN.{take, drop, length-append}
use Rattle.std.proofs.iter.Yields.{fronts}
use Rattle.std.specs.Iterator.Adapters.{take_steps, skip_steps}
use Rattle.std.proofs.lemmas.Iterator.{YieldsList, YieldsList-from_slice, YieldsList-from_take}
use Rattle.std.proofs.lemmas.Iterator.Adapters.{YieldsList-from_skip}
use Rattle.std.proofs.lemmas.Iterator.Consumers.{YieldsList-turn, YieldsList-end, YieldsList-at}
use Rattle.columns.proofs.Reading.{value-small, step, done}
use Rattle.columns.proofs.number_at.Goals as goal
use Rattle.columns.proofs.number_at.Goals.{After-into_iter-b-iterator}

-- what the chain gives
columns : (c : After-into_iter-b-iterator)
    → YieldsList (take_steps (skip_steps fronts)) (λ y. y.now) c.into_iter-b-iterator.result (take 9 (drop c.args.at c.args.line.now))
columns c =
    let s = c.skip.ensures in
    let t = c.take-b-items.ensures in
    YieldsList-at c.into_iter-b-iterator.ensures.into_iter_gives
    (YieldsList-from_take 9 (YieldsList-at t.source (YieldsList-from_skip c.args.at (YieldsList-at s.source (YieldsList-from_slice c.args.line.now cc)) s.count)) t.count)

pub next-f-requires : goal.next-f-requires
next-f-requires c =
    let e = columns (goal.at.next-f-requires c).After-into_iter-b-iterator in
    value-small c.loop-b.invariant (YieldsList-turn e c.loop-b.yielded _ c.loop-b.yielded_by _ _ c.in-Some.b c.in-Some.is c.next.ensures.steps)

pub loop-b-preserved : goal.loop-b-preserved
loop-b-preserved c =
    let e = columns (goal.at.loop-b-preserved c).After-into_iter-b-iterator in
    let turn = YieldsList-turn e c.loop-b.yielded _ c.loop-b.yielded_by _ _ c.in-Some.b c.in-Some.is c.next.ensures.steps in
    rw length-append (step c.loop-b.invariant turn c.next-f.ensures)

pub returns : goal.returns
returns c =
    let e = columns (goal.at.returns c).After-into_iter-b-iterator in
    let end = YieldsList-end e c.loop-b.yielded _ c.loop-b.yielded_by _ _ c.in-None.is c.next.ensures.steps in
    done c.loop-b.invariant (omega (arith, end.1))
