-- `ledger::close_period` meets its contract, by its causes in their order. Assumes nothing.
use mathlib.Core.Path.{◌≡◌, refl, sym, ap, ◌∙◌}
use mathlib.Core.Bool.{true}
use Prim.Native.Nat.{ℕ}
use borrow.Author.Rules.{rules}
use Rattle.std.proofs.lemmas.Option.{cond_some}
use Rattle.common.specs.Answer.{given}
use Rattle.common.specs.declared.Directions.{Directions}
use Rattle.energy.specs.Period.{good_readings, bounds_of, low_deviation, high_deviation}
use Rattle.energy.proofs.Laws.{bound-most}
use Rattle.ledger.specs.Calls.{accepts, closing}
use Rattle.ledger.proofs.Closings.{no-bounds, bounds-are}
use Rattle.ledger.proofs.NextPeriod.{was-opened, needs_fit, accepts-is}
use Rattle.ledger.proofs.Usable.{no_value, not_usable, usable, stands}
use Rattle.ledger.proofs.close_period.Goals as goal
use Rattle.ledger.proofs.close_period.Goals.{After-accept, In-Ok}

-- the test of the purchase
accepted-is : (c : After-accept) → c.accept.result ≡ accepts c.args.given.now c.args.asked.purchase
accepted-is c = accepts-is c.args.given.now c.usable_standing.ensures c.in-Some.is c.of.ensures c.args.asked.purchase (search rules) c.accept.ensures

-- bounds were given: the readings are good, and the bounds theirs
bounds-here : (c : In-Ok) → (good_readings c.args.readings.now ≡ true) × (c.in-Ok.bounds ≡ bounds_of c.args.given.now.terms.low c.args.given.now.terms.high c.args.given.now.curves c.args.readings.now)
bounds-here c =
    let r = c.args.given.now in
    let opens = was-opened r c.usable_standing.ensures c.in-Some.is in
    bounds-are r.terms.low r.terms.high r.curves c.args.readings.now opens.low-quantity opens.high-quantity opens.curves-hold c.period_energy.result c.period_energy.ensures c.in-Ok.bounds c.in-Ok.is

pub returns-in_default : goal.returns-in_default
unfolding closing
returns-in_default c = rw (not_usable c.args.given.now c.usable_standing.ensures c.in_default.not-Some) (record { answer = refl; kept = refl })

pub returns-then-not-is_trader : goal.returns-then-not-is_trader
unfolding closing
returns-then-not-is_trader c =
    rw (usable c.args.given.now c.usable_standing.ensures c.in-Some.is, ← c.is_trader.ensures, c.if-not-is_trader.true) (record { answer = refl; kept = refl })

pub of-requires : goal.of-requires
of-requires c = needs_fit c.args.given.now c.usable_standing.ensures c.in-Some.is

pub returns-then-not-accept : goal.returns-then-not-accept
unfolding closing
returns-then-not-accept c =
    let r = c.args.given.now in
    let is = c.usable_standing.ensures in
    let there = c.in-Some.is in
    let accepted = accepted-is (goal.at.returns-then-not-accept c).After-accept in
    rw (usable r is there, ← c.is_trader.ensures, c.if-not-is_trader.false, ← accepted, c.if-not-accept.true) (record { answer = refl; kept = refl })

pub returns-in_default-period_energy : goal.returns-in_default-period_energy
unfolding closing
returns-in_default-period_energy c =
    let r = c.args.given.now in
    let is = c.usable_standing.ensures in
    let there = c.in-Some.is in
    let accepted = accepted-is (goal.at.returns-in_default-period_energy c).After-accept in
    let opens = was-opened r is there in
    let bad = no-bounds r.terms.low r.terms.high r.curves c.args.readings.now opens.low-quantity opens.high-quantity opens.curves-hold c.period_energy.result c.period_energy.ensures c.in_default-period_energy.not-Ok in
    rw (usable r is there, ← c.is_trader.ensures, c.if-not-is_trader.false, ← accepted, c.if-not-accept.false, bad) (record { answer = refl; kept = refl })

pub returns-in_default-settle : goal.returns-in_default-settle
unfolding closing
returns-in_default-settle c =
    let r = c.args.given.now in
    let is = c.usable_standing.ensures in
    let there = c.in-Some.is in
    let accepted = accepted-is (goal.at.returns-in_default-settle c).After-accept in
    let b = bounds-here (goal.at.returns-in_default-settle c).In-Ok in
    let settle_is = rw b.1 at c.settle.ensures in
    let none = no_value _ _ c.settle.result settle_is c.in_default-settle.not-Some in
    rw (usable r is there, ← c.is_trader.ensures, c.if-not-is_trader.false, ← accepted, c.if-not-accept.false, b.0, none) (record { answer = refl; kept = refl })

pub carry_out-requires : goal.carry_out-requires
carry_out-requires c =
    let r = c.args.given.now in
    let is = c.usable_standing.ensures in
    let there = c.in-Some.is in
    let accepted = accepted-is (goal.at.carry_out-requires c).After-accept in
    let f = was-opened r is there in
    let b = bounds-here (goal.at.carry_out-requires c).In-Ok in
    let t = cond_some _ _ c.in-Some-settle.new (sym c.settle.ensures ∙ c.in-Some-settle.is) in
    record {
      usable = usable r is there;
      stands = stands r is there;
      trader = sym c.is_trader.ensures ∙ c.if-not-is_trader.false;
      accepted = sym accepted ∙ c.if-not-accept.false;
      low_most = rw (ap (λ (d : Directions ℕ). d.low) b.1) (bound-most r.terms.low r.curves f.curves-hold low_deviation c.args.readings.now b.0);
      high_most = rw (ap (λ (d : Directions ℕ). d.high) b.1) (bound-most r.terms.high r.curves f.curves-hold high_deviation c.args.readings.now b.0);
      settled = t.0;
    }

pub returns : goal.returns
unfolding closing
returns c =
    let r = c.args.given.now in
    let is = c.usable_standing.ensures in
    let there = c.in-Some.is in
    let accepted = accepted-is (goal.at.returns c).After-accept in
    let b = bounds-here (goal.at.returns c).In-Ok in
    let settle_is = rw b.1 at c.settle.ensures in
    let t = cond_some _ _ c.in-Some-settle.new (sym settle_is ∙ c.in-Some-settle.is) in
    let made = rw (b.1, ← t.1) at c.carry_out.ensures in
    rw (usable r is there, ← c.is_trader.ensures, c.if-not-is_trader.false, ← accepted, c.if-not-accept.false, b.0, t.0) (record { answer = ap given made; kept = made })
