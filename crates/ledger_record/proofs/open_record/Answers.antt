-- `ledger_record::open_record` meets its contract. Assumes nothing.
use mathlib.Core.Path.{sym}
use native.Mathlib.Omega.{arith}
use Rattle.std.proofs.lemmas.Grind.{common_steps}
use Rattle.common.proofs.Answers.{given-clear, clear-given}
use Rattle.ledger_record.specs.Opening.{opening_causes, first_record, opening}
use Rattle.ledger_record.proofs.open_record.Goals as goal

pub returns-in_err-check_opening : goal.returns-in_err-check_opening
unfolding opening opening_causes
returns-in_err-check_opening c = grind (arith, common_steps)

pub returns : goal.returns
unfolding opening
returns c =
    let a = c.args in
    let causes = opening_causes a.t a.curves a.size a.first in
    rw c.first_record.ensures (sym (clear-given causes (first_record a.t a.curves a.size a.first) (given-clear causes tt c.in_ok-check_opening.field-0 (sym c.in_ok-check_opening.ensures))))
