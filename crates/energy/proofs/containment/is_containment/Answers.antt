-- `energy::containment::is_containment` meets its contract: the points that are counted are compared. Assumes nothing.
use mathlib.Core.Path.{◌∙◌}
use Rattle.energy.proofs.StockCurve.{by-points}
use Rattle.energy.proofs.containment.is_containment.Goals as goal

pub returns : goal.returns
returns c = rw (c.points.ensures, c.points-2.ensures, c.containment_curve.ensures) at c.eq.ensures ∙ by-points _ _
