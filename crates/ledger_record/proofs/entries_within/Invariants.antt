-- What the loop of `entries_within` keeps. Assumes nothing.
use Rattle.ledger_record.proofs.Entry.{HeldSoFar}
use Rattle.ledger_record.proofs.entries_within.Given as goal

abbrev pub invariant-loop-i : goal.invariant-loop-i
invariant-loop-i l = HeldSoFar l.most l.closed l.entries.bounds l.entries.starts l.entries.scheds l.holds l.i
