-- `ledger::propose_purchase` meets its contract. Assumes nothing.
use borrow.Author.Rules.{rules}
use mir.Facts.{to_z-of_z}
use mir.Syntax.{w64}
use Rattle.ledger.specs.Calls.{proposal, proposing}
use Rattle.ledger.proofs.Usable.{not_usable, usable}
use Rattle.ledger.proofs.NextPeriod.{needs_fit, floor-is, ceiling-is}
use Rattle.ledger.proofs.propose_purchase.Goals as goal

pub returns-in_default : goal.returns-in_default
unfolding proposing
returns-in_default c = rw (not_usable c.args.given.now c.usable_standing.ensures c.in_default.not-Some)

pub of-requires : goal.of-requires
of-requires c = needs_fit c.args.given.now c.usable_standing.ensures c.in-Some.is

pub returns : goal.returns
unfolding proposing proposal
returns c =
    let is = c.usable_standing.ensures in
    let there = c.in-Some.is in
    rw (
      usable c.args.given.now is there,
      to_z-of_z {w = w64} {z = c.proposal.result} (search rules),
      c.proposal.ensures,
      ← floor-is c.args.given.now is there c.of.ensures,
      ← ceiling-is c.args.given.now is there c.of.ensures,
    )
