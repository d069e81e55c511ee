-- `ledger::check_purchase` meets its contract. Assumes nothing.
use Rattle.ledger.specs.Calls.{checking}
use Rattle.ledger.proofs.Usable.{not_usable, usable}
use Rattle.ledger.proofs.NextPeriod.{needs_fit, accepts-is}
use Rattle.ledger.proofs.check_purchase.Goals as goal

pub returns-in_default : goal.returns-in_default
unfolding checking
returns-in_default c = rw (not_usable c.args.given.now c.usable_standing.ensures c.in_default.not-Some)

pub of-requires : goal.of-requires
of-requires c = needs_fit c.args.given.now c.usable_standing.ensures c.in-Some.is

pub returns-then-not-accept : goal.returns-then-not-accept
unfolding checking
returns-then-not-accept c =
    let accepted-is = accepts-is c.args.given.now c.usable_standing.ensures c.in-Some.is c.of.ensures c.args.purchase c.ranges.purchase c.accept.ensures in
    rw (usable c.args.given.now c.usable_standing.ensures c.in-Some.is, ← accepted-is, c.if-not-accept.true)

pub returns : goal.returns
unfolding checking
returns c =
    let accepted-is = accepts-is c.args.given.now c.usable_standing.ensures c.in-Some.is c.of.ensures c.args.purchase c.ranges.purchase c.accept.ensures in
    rw (usable c.args.given.now c.usable_standing.ensures c.in-Some.is, ← accepted-is, c.if-not-accept.false)
