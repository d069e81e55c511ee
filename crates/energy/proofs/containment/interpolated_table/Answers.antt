-- `energy::containment::interpolated_table` meets its contract: what was added to a table of zeros keeps the rule. Assumes nothing.
use native.Mathlib.Omega.{arith}
use Rattle.energy.proofs.ByTable.{interpolated}
use Rattle.energy.proofs.StockCurve.{rule}
use Rattle.energy.proofs.Tables.{zeros-at}
use Rattle.energy.proofs.containment.interpolated_table.Goals as goal

pub fill_by_steps-requires : goal.fill_by_steps-requires
fill_by_steps-requires c =
    record {
      factor_most = omega arith;
      rule = rw c.containment_curve.ensures rule;
      room = λ d. omega (arith, zeros-at 501 d);
    }

pub returns : goal.returns
returns c =
    interpolated c.fill_by_steps.new.table c.fill_by_steps.auto.table (rw c.containment_curve.ensures at c.fill_by_steps.ensures)
