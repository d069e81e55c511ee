-- `energy::curve::curve_holds` meets its contract: the count, the first point's share and the line decide. Assumes nothing.
use mathlib.Core.Logic.{⊎_elim}
use mathlib.Core.Path.{◌≡◌, sym}
use lib.ListN.{length}
use Rattle.energy.proofs.Points.{too_few, too_many, holds}
use Rattle.energy.proofs.curve.curve_holds.Goals as goal

pub returns-then-count-lt2 : goal.returns-then-count-lt2
returns-then-count-lt2 c = ⊎_elim (λ h. sym (too_few c.args.curve h)) (λ h. sym (too_many c.args.curve h.1)) c.then-count-lt2.either

pub returns : goal.returns
returns c =
    let long : length c.args.curve.points ≡ 5 = c.well_formed.0.1.1.1.0.1.0.1 in
    rw c.is_line.ensures (holds c.args.curve c.points-points.ensures c.if-count-lt2.false long c.if-count-gt5.false)
