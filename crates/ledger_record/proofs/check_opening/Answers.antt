-- `ledger_record::check_opening` meets its contract, by its causes in their order. Assumes nothing.
use mathlib.Core.Path.{sym, ◌∙◌}
use Rattle.ledger_record.specs.Opening.{opening_causes}
use Rattle.ledger_record.proofs.check_opening.Goals as goal

pub returns-then-quantity_out : goal.returns-then-quantity_out
unfolding opening_causes
returns-then-quantity_out c = rw (← c.quantity_out.ensures, c.if-quantity_out.true)

pub returns-then-limits_broken : goal.returns-then-limits_broken
unfolding opening_causes
returns-then-limits_broken c = rw (sym c.quantity_out.ensures ∙ c.if-quantity_out.false, ← c.limits_broken.ensures, c.if-limits_broken.true)

pub returns-then-not-curves_hold : goal.returns-then-not-curves_hold
unfolding opening_causes
returns-then-not-curves_hold c =
    rw (sym c.quantity_out.ensures ∙ c.if-quantity_out.false, sym c.limits_broken.ensures ∙ c.if-limits_broken.false, ← c.curves_hold.ensures, c.if-not-curves_hold.true)

pub returns-then-size_out : goal.returns-then-size_out
unfolding opening_causes
returns-then-size_out c =
    rw (sym c.quantity_out.ensures ∙ c.if-quantity_out.false, sym c.limits_broken.ensures ∙ c.if-limits_broken.false, sym c.curves_hold.ensures ∙ c.if-not-curves_hold.false, ← c.size_out.ensures, c.if-size_out.true)

pub returns-then-first_out : goal.returns-then-first_out
unfolding opening_causes
returns-then-first_out c =
    rw (sym c.quantity_out.ensures ∙ c.if-quantity_out.false, sym c.limits_broken.ensures ∙ c.if-limits_broken.false, sym c.curves_hold.ensures ∙ c.if-not-curves_hold.false, sym c.size_out.ensures ∙ c.if-size_out.false, ← c.first_out.ensures, c.if-first_out.true)

pub returns : goal.returns
unfolding opening_causes
returns c =
    rw (sym c.quantity_out.ensures ∙ c.if-quantity_out.false, sym c.limits_broken.ensures ∙ c.if-limits_broken.false, sym c.curves_hold.ensures ∙ c.if-not-curves_hold.false, sym c.size_out.ensures ∙ c.if-size_out.false, sym c.first_out.ensures ∙ c.if-first_out.false)
