-- `energy::curve::curves_hold` meets its contract, by that of `curve_holds` at each curve. Assumes nothing.
use Rattle.energy.specs.Curve.{curves_rule}
use Rattle.energy.proofs.curve.curves_hold.Goals as goal

pub returns : goal.returns
unfolding curves_rule
returns c = rw (c.curve_holds.ensures, c.curve_holds-2.ensures, c.curve_holds-3.ensures)
