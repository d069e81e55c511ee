-- `ledger_record::next_start` meets its contract. Assumes nothing.
use mathlib.Core.Path.{sym, ap, ◌∙◌}
use borrow.Author.Rules.{rules}
use borrow.Author.Tests.{lt-leb}
use mir.Facts.{to_z-of_z}
use mir.Syntax.{w64}
use Rattle.ledger_record.specs.Rule.{next_start}
use Rattle.ledger_record.specs.declared.Direction.{Direction}
use Rattle.ledger_record.proofs.NextPeriod.{next-start-is}
use Rattle.ledger_record.proofs.next_start.Goals as goal

pub returns-then-closed-gt8 : goal.returns-then-closed-gt8
unfolding next_start
returns-then-closed-gt8 c = rw (lt-leb c.args.closed 8 c.if-closed-gt8.true)

pub returns : goal.returns
returns c =
    let a = c.args in
    to_z-of_z {w = w64} {z = c.direction_of.result.next.start} (search rules)
    ∙ ap (λ (x : Direction). x.next.start) c.direction_of.ensures
    ∙ sym (next-start-is a.q a.closed a.entries.now c.if-closed-gt8.false)
