-- `energy::period::period_kwh` meets its contract: the energy is at most 500,000 kWh. Assumes nothing.
use mathlib.Core.Path.{◌∙◌}
use native.Mathlib.Omega.{arith}
use Rattle.energy.specs.Rate.{divisor}
use Rattle.energy.proofs.Rates.{period-range}
use Rattle.energy.proofs.Rounding.{up-ceil}
use Rattle.energy.proofs.period.period_kwh.Goals as goal

pub overflow_mul-divisor : goal.overflow_mul-divisor
overflow_mul-divisor c = omega (arith, period-range c.args.count c.requires.0)

pub div_ceil-requires : goal.div_ceil-requires
div_ceil-requires c = omega (arith, period-range c.args.count c.requires.0)

pub returns : goal.returns
returns c = c.div_ceil.ensures ∙ up-ceil c.args.sum (divisor c.args.count) (omega (arith, period-range c.args.count c.requires.0))
