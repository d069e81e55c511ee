-- `ledger::usable_standing` meets its contract. Assumes nothing.
use mathlib.Core.Path.{sym, ◌∙◌}
use Rattle.ledger.proofs.Usable.{unusable-is}
use Rattle.ledger.proofs.usable_standing.Goals as goal

pub returns-then-unusable : goal.returns-then-unusable
returns-then-unusable c =
    rw (sym (unusable-is c.args.given.now c.standing_of-standing.result c.standing_of-standing.ensures) ∙ c.if-unusable.true)

pub returns : goal.returns
returns c =
    rw (sym (unusable-is c.args.given.now c.standing_of-standing.result c.standing_of-standing.ensures) ∙ c.if-unusable.false, ← c.standing_of-standing.ensures)
