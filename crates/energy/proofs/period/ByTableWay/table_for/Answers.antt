-- `energy::period::ByTable` offers a table for the stock containment curve alone, whose responses it has. Assumes nothing.
use mathlib.Core.Path.{sym, ◌∙◌}
use Rattle.energy.proofs.ByTable.{same_response}
use Rattle.energy.proofs.StockCurve.{stock-response}
use Rattle.energy.proofs.period.ByTableWay.table_for.Goals as goal

pub returns-then-is_containment : goal.returns-then-is_containment
returns-then-is_containment c =
    let stock = sym c.is_containment.ensures ∙ c.if-is_containment.true in
    record {
      has = sym stock;
      offered = λ mw d. same_response c.stored_table.result c.stored_table.ensures mw d ∙ stock-response c.args.curve stock mw d;
    }
