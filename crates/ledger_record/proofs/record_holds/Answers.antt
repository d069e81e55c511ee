-- `ledger_record::record_holds` meets its contract. Assumes nothing.
use Rattle.ledger_record.specs.Rule.{standing_of}
use Rattle.ledger_record.proofs.record_holds.Goals as goal

pub returns : goal.returns
unfolding standing_of
returns c = rw c.standing_of.ensures
