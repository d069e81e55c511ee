-- `ledger_record::sum_of` meets its contract. Assumes nothing.
use mathlib.Core.Path.{refl}
use native.Mathlib.Omega.{arith}
use Rattle.common.specs.Lists.{sum}
use Rattle.common.proofs.Lists.{sum-take}
use Rattle.ledger_record.proofs.sum_of.Goals as goal

pub loop-n-init : goal.loop-n-init
unfolding sum
loop-n-init c = record { is_sum = refl; most = omega arith }

pub loop-n-preserved : goal.loop-n-preserved
loop-n-preserved c =
    let next = sum-take c.args.numbers.now c.loop-n.n-index (omega arith) in
    record { is_sum = omega (arith, next); most = omega arith }
