-- `energy::rate::is_period_count` meets its contract. Assumes nothing.
use mathlib.Core.Path.{refl}
use Rattle.energy.specs.Rate.{is_period_count}
use Rattle.energy.proofs.rate.is_period_count.Goals as goal

pub returns : goal.returns
unfolding is_period_count
returns c = refl
