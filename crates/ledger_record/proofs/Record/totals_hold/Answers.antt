-- `ledger_record::Record::totals_hold` meets its contract. Assumes nothing.
use Rattle.ledger_record.specs.Rule.{totals_rule}
use Rattle.ledger_record.proofs.Record.totals_hold.Goals as goal

pub returns : goal.returns
unfolding totals_rule
returns c = rw (c.sum_of.ensures.0, c.sum_of-2.ensures.0, c.sum_of-3.ensures.0, c.sum_of-4.ensures.0)
