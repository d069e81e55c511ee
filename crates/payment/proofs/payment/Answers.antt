-- `payment::payment` meets its contract. Assumes nothing.
use mathlib.Core.Path.{sym, ◌∙◌}
use Prim.Native.Nat.{◌*◌, ◌-◌, ◌≤◌}
use native.Mathlib.Omega.{arith}
use mir.Facts.{to_z-of_z}
use Rattle.payment.proofs.Amounts.{amount-is}
use Rattle.payment.proofs.Answers.{kept_rule, broken-rule, work-most, lost-most, pieces-over, paid}
use Rattle.payment.proofs.payment.Goals as goal

pub returns-in_default : goal.returns-in_default
returns-in_default c =
    let r = pieces-over _ _ _ _ _ c.if-price-gt10000.false c.if-adjustment-gt10000.false c.if-k-gt1000.false c.if-f-gt1000.false
    (broken-rule _ (sym c.measure.ensures ∙ c.in_default.is)) in
    record { answer = r.0; cause = r.1 }

pub pence-requires : goal.pence-requires
pence-requires c =
    let a = c.args in
    let r = kept_rule _ (sym c.measure.ensures ∙ c.in-Some.is) in
    let lost : c.greater-most.result * (1000000 - a.k * a.f) ≤ 10000000000 =
    rw c.greater-most.ensures (lost-most a.price a.adjustment a.k a.f c.if-price-gt10000.false c.if-adjustment-gt10000.false) in
    (omega arith, lost, omega (arith, r.1, work-most a.pieces.now r.0))

pub returns : goal.returns
returns c =
    let a = c.args in
    let r = kept_rule a.pieces.now (sym c.measure.ensures ∙ c.in-Some.is) in
    let p = paid a.price a.adjustment a.k a.f a.pieces.now c.if-price-gt10000.false c.if-adjustment-gt10000.false c.if-k-gt1000.false c.if-f-gt1000.false r.0
    (amount-is a.price a.adjustment a.k a.f c.if-k-gt1000.false c.if-f-gt1000.false a.pieces.now) in
    record {
      answer = rw (to_z-of_z {z = c.pence.result} (record { sfits = c.pence.type_inv }), c.pence.ensures, c.greater-most.ensures, r.1) p.0;
      cause = p.1;
    }
