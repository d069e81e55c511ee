-- `energy::period::Accepted::from_readings` meets its contract: the largest deviations say whether every reading is good. Assumes nothing.
use mathlib.Core.Path.{sym, ◌∙◌}
use native.Mathlib.Omega.{arith}
use borrow.Author.Tests.{ltb-false}
use lib.Dec.{ltb}
use lib.ListN.{length}
use Rattle.common.proofs.Tests.{neither}
use Rattle.energy.specs.Period.{bound}
use Rattle.energy.proofs.Rates.{period-range}
use Rattle.energy.proofs.Sums.{sums-most, wrong-count, by_tests}
use Rattle.energy.proofs.period.Accepted.from_readings.Goals as goal

pub returns-then-not-is_period_count : goal.returns-then-not-is_period_count
returns-then-not-is_period_count g c =
    wrong-count c.args.self.quantities.low c.args.self.quantities.high c.args.self.curves c.args.readings.now (sym c.is_period_count.ensures ∙ c.if-not-is_period_count.true)

pub returns-then-most : goal.returns-then-most
returns-then-most g c =
    let most = c.largest_deviations-most.result in
    let by = by_tests c.args.self.quantities.low c.args.self.quantities.high c.args.self.curves c.args.readings.now (sym c.is_period_count.ensures ∙ c.if-not-is_period_count.false) most c.largest_deviations-most.ensures in
    rw (by, c.if-most.true)

pub sum_responses-sums-requires : goal.sum_responses-sums-requires
sum_responses-sums-requires g c =
    let most = c.largest_deviations-most.result in
    let n = neither (ltb 3000 most.low) (ltb 3000 most.high) c.if-most.false in
    record {
      same = c.largest_deviations-most.ensures;
      low_most = ltb-false 3000 most.low n.0;
      high_most = ltb-false 3000 most.high n.1;
      count_most = omega (arith, (period-range (length c.args.readings.now) (sym c.is_period_count.ensures ∙ c.if-not-is_period_count.false)).most);
    }

pub period_kwh-requires : goal.period_kwh-requires
period_kwh-requires g c = (
  sym c.is_period_count.ensures ∙ c.if-not-is_period_count.false,
  (sums-most c.args.self.quantities.low c.args.self.quantities.high c.args.self.curves c.args.readings.now c.args.self.let_through c.sum_responses-sums.result c.sum_responses-sums.ensures).0,
)

pub period_kwh-requires-2 : goal.period_kwh-requires-2
period_kwh-requires-2 g c = (
  sym c.is_period_count.ensures ∙ c.if-not-is_period_count.false,
  (sums-most c.args.self.quantities.low c.args.self.quantities.high c.args.self.curves c.args.readings.now c.args.self.let_through c.sum_responses-sums.result c.sum_responses-sums.ensures).1,
)

pub returns : goal.returns
unfolding bound
returns g c =
    let most = c.largest_deviations-most.result in
    let by = by_tests c.args.self.quantities.low c.args.self.quantities.high c.args.self.curves c.args.readings.now (sym c.is_period_count.ensures ∙ c.if-not-is_period_count.false) most c.largest_deviations-most.ensures in
    rw (by, c.if-most.false, c.period_kwh.ensures, c.period_kwh-2.ensures, c.sum_responses-sums.ensures)
