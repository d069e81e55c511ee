-- `energy::table::sum_table` meets its contract. The loop's invariant is `Running`: the running sums are those of the readings from
-- place i on. Assumes nothing.
use mathlib.Core.Path.{◌≡◌}
use mathlib.Core.List.{List}
use Prim.Native.Nat.{ℕ, ◌+◌, ◌-◌, ◌≤◌, ◌<◌}
use native.Mathlib.Omega.{arith}
use lib.ListN.{length, get_or}
use Rattle.energy.specs.Period.{low_deviation, high_deviation}
use Rattle.energy.specs.Table.{largest_deviation}
use Rattle.energy.proofs.Backward.{begin, low_fits, high_fits, step, done}
use Rattle.energy.proofs.Largest.{entry-le}
use Rattle.energy.proofs.table.sum_table.Goals as goal

-- in a turn the deviation of the reading before place i stands in a table that has the largest
there : (deviation : ℕ → ℕ) (rs : List ℕ) (i n : ℕ) → 0 < i → i ≤ length rs → largest_deviation deviation rs < n → deviation (get_or rs (i - 1) 0) < n
there deviation rs i n left within long = omega (arith, entry-le deviation rs (i - 1) (omega arith), long)

below-is : (reading above : ℕ) → above ≡ high_deviation reading → 50000 + above - reading ≡ low_deviation reading
below-is reading above same = omega arith

pub loop-i-init : goal.loop-i-init
loop-i-init c = begin _ _ _

pub bounds-lows-below : goal.bounds-lows-below
bounds-lows-below c =
    let a = rw c.from-reading.ensures at c.saturating_sub-above.ensures in
    rw (c.from-reading.ensures, below-is (get_or c.args.readings.now (c.loop-i.i - 1) 0) _ a)
    (there low_deviation c.args.readings.now c.loop-i.i _ (omega (arith, c.loop-i-test.true)) c.loop-i.invariant.within c.requires.low_there)

pub overflow_add-low : goal.overflow_add-low
overflow_add-low c =
    let a = rw c.from-reading.ensures at c.saturating_sub-above.ensures in
    let below = below-is (get_or c.args.readings.now (c.loop-i.i - 1) 0) _ a in
    rw (c.from-low.ensures, c.from-reading.ensures) record {
      fits = low_fits _ _ _ c.loop-i.invariant (omega (arith, c.loop-i-test.true)) below a (λ d. omega (arith, c.type_inv.lows d)) c.requires.count_most;
    }

pub bounds-highs-above : goal.bounds-highs-above
bounds-highs-above c =
    rw (c.saturating_sub-above.ensures, c.from-reading.ensures)
    (there high_deviation c.args.readings.now c.loop-i.i _ (omega (arith, c.loop-i-test.true)) c.loop-i.invariant.within c.requires.high_there)

pub overflow_add-high : goal.overflow_add-high
overflow_add-high c =
    let a = rw c.from-reading.ensures at c.saturating_sub-above.ensures in
    let below = below-is (get_or c.args.readings.now (c.loop-i.i - 1) 0) _ a in
    rw c.from-high.ensures record {
      fits = high_fits _ _ _ c.loop-i.invariant (omega (arith, c.loop-i-test.true)) below a (λ d. omega (arith, c.type_inv.highs d)) c.requires.count_most;
    }

pub loop-i-preserved : goal.loop-i-preserved
loop-i-preserved c =
    let a = rw c.from-reading.ensures at c.saturating_sub-above.ensures in
    let below = below-is (get_or c.args.readings.now (c.loop-i.i - 1) 0) _ a in
    rw (c.from-low.ensures, c.from-high.ensures, c.from-reading.ensures)
    (step _ _ _ c.loop-i.invariant (omega (arith, c.loop-i-test.true)) below a)

pub returns : goal.returns
returns c = done _ _ _ c.loop-i.invariant (omega (arith, c.loop-i-test.false))
