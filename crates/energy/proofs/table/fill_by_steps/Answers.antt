-- `energy::table::fill_by_steps` meets its contract. The loop's invariant is `Filled`. Assumes nothing.
use mathlib.Core.Path.{◌≡◌}
use Prim.Native.Nat.{◌≤◌}
use native.Mathlib.Omega.{arith}
use lib.ListN.{length}
use Rattle.energy.proofs.Points.{some-point, ruled-by, first_and_others, counted}
use Rattle.energy.proofs.Services.{begin, segment-fits, turn, flat-le, fill-fits, done}
use Rattle.energy.proofs.table.fill_by_steps.Goals as goal
use Rattle.energy.proofs.table.fill_by_steps.Goals.{After-points-points}

there : (c : After-points-points) → 1 ≤ length c.points-points.result.now
there c =
    let long : length c.args.curve.points ≡ 5 = c.well_formed.1.0.1.1.1.0.1.0.1 in
    some-point c.args.curve c.points-points.ensures (counted c.args.curve c.requires.rule).0 long

pub slice_bounds-others-count : goal.slice_bounds-others-count
slice_bounds-others-count c = there (goal.at.slice_bounds-others-count c).After-points-points

pub slice_bounds-others-start : goal.slice_bounds-others-start
slice_bounds-others-start c = there (goal.at.slice_bounds-others-start c).After-points-points

pub bounds-points-0 : goal.bounds-points-0
bounds-points-0 c = there (goal.at.bounds-points-0 c).After-points-points

pub loop-next-init : goal.loop-next-init
loop-next-init c =
    let long : length c.args.curve.points ≡ 5 = c.well_formed.1.0.1.1.1.0.1.0.1 in
    begin _ _ _ _ (ruled-by c.args.curve c.points-points.ensures c.requires.rule long)

pub fill_segment-requires : goal.fill_segment-requires
fill_segment-requires c = segment-fits _ _ _ _ c.loop-next.invariant c.loop-next-test.true c.requires

pub loop-next-preserved : goal.loop-next-preserved
loop-next-preserved c = turn _ _ _ _ c.loop-next.invariant c.loop-next-test.true c.fill_segment.auto.table c.fill_segment.ensures

pub overflow_mul-factor : goal.overflow_mul-factor
overflow_mul-factor c = rw c.from.ensures omega (arith, flat-le _ _ _ _ c.loop-next.invariant, c.requires.factor_most)

pub fill-requires : goal.fill-requires
fill-requires c = rw (c.parts_of.ensures, c.from.ensures, c.from-2.ensures) (fill-fits _ _ _ _ c.loop-next.invariant c.requires)

pub returns : goal.returns
returns c =
    let long : length c.args.curve.points ≡ 5 = c.well_formed.1.0.1.1.1.0.1.0.1 in
    rw (first_and_others c.args.curve c.points-points.ensures (counted c.args.curve c.requires.rule).0 long)
    (done _ _ _ _ c.loop-next.invariant c.loop-next-test.false (rw (c.parts_of.ensures, c.from.ensures, c.from-2.ensures) at c.fill.ensures))
