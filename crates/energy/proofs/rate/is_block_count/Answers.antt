-- `energy::rate::is_block_count` meets its contract. Assumes nothing.
use mathlib.Core.Path.{refl}
use Rattle.energy.specs.Rate.{is_block_count}
use Rattle.energy.proofs.rate.is_block_count.Goals as goal

pub returns : goal.returns
unfolding is_block_count
returns c = refl
