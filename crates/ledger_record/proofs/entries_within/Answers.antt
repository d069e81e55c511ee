-- `ledger_record::entries_within` meets its contract. The loop's invariant is `HeldSoFar`, and a turn keeps it by `step`. Assumes
-- nothing.
use borrow.Author.Rules.{rules}
use lib.IntN.{pos}
use lib.ListN.{get_or}
use mir.Syntax.{w64}
use mir.Val.{SFits}
use mir.Facts.{to_z-of_z}
use Rattle.ledger_record.proofs.Entry.{begin, step}
use Rattle.ledger_record.proofs.entries_within.Goals as goal

pub loop-i-init : goal.loop-i-init
loop-i-init c = begin _ _ _ _ _

pub loop-i-preserved : goal.loop-i-preserved
loop-i-preserved c =
    let fits : SFits w64 (get_or c.args.entries.now.starts c.loop-i.i (pos 0)) = search rules in
    step _ _ _ _ _ c.loop-i.invariant c.loop-i-test.true (rw (to_z-of_z fits) at c.entry_within-holds.ensures)
