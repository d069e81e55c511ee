-- `ledger_record::standing_of` meets its contract. Assumes nothing.
use mathlib.Core.Path.{◌∙◌}
use borrow.Author.Rules.{rules}
use mir.Syntax.{w64}
use mir.Val.{SFits}
use mir.Facts.{to_z-of_z}
use Rattle.ledger_record.specs.Opening.{opening_causes}
use Rattle.ledger_record.proofs.NextPeriod.{standing-is}
use Rattle.ledger_record.proofs.Openings.{ok_is}
use Rattle.ledger_record.proofs.standing_of.Goals as goal

pub returns : goal.returns
returns c =
    let g = c.args.given.now in
    let causes = opening_causes g.terms g.curves g.size g.first in
    let low-fits : SFits w64 c.direction_of-low_direction.result.next.start = search rules in
    let high-fits : SFits w64 c.direction_of-high_direction.result.next.start = search rules in
    let passes =
    rw (
      to_z-of_z {z = c.direction_of-low_direction.result.next.start} low-fits,
      to_z-of_z {z = c.direction_of-high_direction.result.next.start} high-fits,
    )
    at c.state_passes.ensures in
    standing-is g c.is_ok.result c.totals_hold.result c.state_passes.result c.balances.result c.direction_of-low_direction.result c.direction_of-high_direction.result
    (c.is_ok.ensures.value ∙ ok_is c.check_opening.result causes c.check_opening.ensures)
    c.direction_of-low_direction.ensures c.direction_of-high_direction.ensures c.totals_hold.ensures passes c.balances.ensures
