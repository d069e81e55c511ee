-- `capability::capability_of` meets its contract. The loop's invariant is `Reached`. Assumes nothing.
use mathlib.Core.Path.{sym, ap, ◌∙◌}
use native.Mathlib.Omega.{arith}
use borrow.Author.Rules.{rules}
use Rattle.common.specs.Fraction.{rounded_down}
use Rattle.capability.specs.Capability.{capability_of}
use Rattle.capability.proofs.Segments.{two-least, begin, here, farther-on, last-two}
use Rattle.capability.proofs.capability_of.Goals as goal

pub bounds-points-0 : goal.bounds-points-0
bounds-points-0 c = omega (arith, two-least c.args.points.now c.requires)

pub bounds-points-1 : goal.bounds-points-1
bounds-points-1 c = omega (arith, two-least c.args.points.now c.requires)

pub slice_bounds-others-count : goal.slice_bounds-others-count
slice_bounds-others-count c = two-least c.args.points.now c.requires

pub slice_bounds-others-start : goal.slice_bounds-others-start
slice_bounds-others-start c = let two = two-least c.args.points.now c.requires in search rules

pub loop-next-init : goal.loop-next-init
loop-next-init c = begin c.args.points.now c.args.room c.requires

pub returns-then-room-q : goal.returns-then-room-q
unfolding capability_of
returns-then-room-q c =
    c.on_line.ensures ∙ sym (ap rounded_down (here _ _ _ c.loop-next.invariant c.loop-next-test.true c.if-room-q.true))

pub loop-next-preserved : goal.loop-next-preserved
loop-next-preserved c =
    farther-on _ _ _ c.loop-next.invariant c.loop-next-test.true c.if-room-q.false

pub returns : goal.returns
unfolding capability_of
returns c =
    c.on_line-2.ensures ∙ sym (ap rounded_down (last-two _ _ _ c.loop-next.invariant c.loop-next-test.false))
