-- `energy::period::period_energy` meets its contract: what the two tests left is what `from_readings` asks. Assumes nothing.
use mathlib.Core.Path.{◌≡◌}
use mathlib.Core.Bool.{Bool, not, ◌||◌}
use mathlib.Core.List.{List, [], ◌∷◌}
use Prim.Native.Nat.{ℕ}
use Rattle.common.specs.Answer.{cause, checked}
use Rattle.terms.specs.Terms.{above1000, Quantities}
use Rattle.energy.specs.Curve.{curves_rule, Curves}
use Rattle.energy.specs.Period.{good_readings, bounds_of, period_energy}
use Rattle.energy.proofs.period.period_energy.Goals as goal

-- the causes as the code tests them
by_tests : (low high : Quantities) (cs : Curves) (rs : List ℕ) (p q r : Bool) → p ≡ above1000 low → q ≡ above1000 high → r ≡ curves_rule cs →
    period_energy low high cs rs ≡ checked (cause 1 (p || q) ∷ cause 5 (not r) ∷ cause 6 (not (good_readings rs)) ∷ []) (bounds_of low high cs rs)
unfolding period_energy
by_tests low high cs rs p q r same-p same-q same-r = rw (same-p, same-q, same-r)

pub returns-then-quantity : goal.returns-then-quantity
returns-then-quantity g c =
    let by = by_tests c.args.quantities.low c.args.quantities.high c.args.curves c.args.readings.now _ _ _ c.above_1000_mw.ensures c.above_1000_mw-2.ensures c.curves_hold-curve.ensures in
    rw (by, c.if-quantity.true)

pub returns-then-curve : goal.returns-then-curve
returns-then-curve g c =
    let by = by_tests c.args.quantities.low c.args.quantities.high c.args.curves c.args.readings.now _ _ _ c.above_1000_mw.ensures c.above_1000_mw-2.ensures c.curves_hold-curve.ensures in
    rw (by, c.if-quantity.false, c.if-curve.true)

pub returns : goal.returns
returns g c =
    let by = by_tests c.args.quantities.low c.args.quantities.high c.args.curves c.args.readings.now _ _ _ c.above_1000_mw.ensures c.above_1000_mw-2.ensures c.curves_hold-curve.ensures in
    rw (by, c.if-quantity.false, c.if-curve.false) c.from_readings.ensures
