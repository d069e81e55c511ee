-- `energy::containment::response_by_table` meets its contract, by the rule of the stored table. Assumes nothing.
use mathlib.Core.Path.{◌∙◌}
use Rattle.energy.proofs.ByTable.{same_response}
use Rattle.energy.proofs.containment.response_by_table.Goals as goal

pub returns : goal.returns
returns c =
    c.response_from.ensures
    ∙ same_response c.stored_table-table.result c.stored_table-table.ensures c.args.mw c.args.deviation
