-- `ledger_record::first_record` meets its contract. Assumes nothing.
use Rattle.ledger_record.proofs.Zeros.{zeros}
use Rattle.ledger_record.proofs.first_record.Goals as goal

pub returns : goal.returns
returns c =
    let low = c.default.ensures in
    let high = c.default-2.ensures in
    let totals = c.default-3.ensures in
    rw (zeros low.0, zeros low.1.0, zeros low.1.1, zeros high.0, zeros high.1.0, zeros high.1.1, zeros totals.0, zeros totals.1.0, totals.1.1.0, totals.1.1.1)
