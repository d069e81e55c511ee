-- `energy::containment_table::stored_table` meets its contract: the test of all 501 entries is computed. Assumes nothing.
use mathlib.Core.Path.{refl}
use Rattle.common.specs.Lists.{every_from}
use Rattle.energy.specs.Curve.{share_from}
use Rattle.energy.specs.Containment.{table_rule}
use Rattle.energy.proofs.containment_table.stored_table.Goals as goal

pub returns : goal.returns
unfolding table_rule every_from share_from
returns c = refl
