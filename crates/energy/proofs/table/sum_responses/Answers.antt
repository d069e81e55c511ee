-- `energy::table::sum_responses` meets its contract: the tables have the responses to every deviation that occurs. Assumes nothing.
use mathlib.Core.Path.{◌∙◌}
use Rattle.energy.proofs.Sums.{zeros-fit, same-sums}
use Rattle.energy.proofs.table.sum_responses.Goals as goal

pub fill_direction-requires : goal.fill_direction-requires
fill_direction-requires g c = zeros-fit _ _ _ c.args.accepted.let_through.low_most c.args.accepted.let_through.curves c.requires.low_most

pub fill_direction-requires-2 : goal.fill_direction-requires-2
fill_direction-requires-2 g c = zeros-fit _ _ _ c.args.accepted.let_through.high_most c.args.accepted.let_through.curves c.requires.high_most

pub returns : goal.returns
returns g c =
    c.sum_table.ensures
    ∙ same-sums c.requires c.fill_direction.new.table c.fill_direction-2.new.table 3001 c.args.accepted.quantities.low c.args.accepted.quantities.high c.args.accepted.curves c.fill_direction.ensures c.fill_direction-2.ensures
