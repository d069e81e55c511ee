-- `ledger_record::direction_of` meets its contract. Assumes nothing.
use Rattle.requirement.specs.Requirement.{matched_to}
use Rattle.ledger_record.proofs.Entry.{in_parts}
use Rattle.ledger_record.proofs.direction_of.Goals as goal

pub returns : goal.returns
unfolding matched_to
returns c =
    let a = c.args in
    rw (c.entries_within.ensures, c.match_entries-matched.ensures, c.of-most.ensures, in_parts a.q a.closed a.entries.now)
