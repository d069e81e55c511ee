-- `test_day::print_period` meets its contract. Assumes nothing.
use lib.ListN.{length}
use mathlib.Core.Path.{◌≡◌}
use borrow.Author.Rules.{rules}
use Rattle.test_day.proofs.Printing.{prints-number, prints-readings}
use Rattle.test_day.proofs.print_period.Goals as goal

pub returns-in-Ok : goal.returns-in-Ok
returns-in-Ok c =
    let long : length c.in-Ok.readings ≡ 3600 = search rules in
    let p = prints-readings _ _ c.in-Ok.ensures long c.put_lines.ensures in
    record { count = p.counted; page = p.is }

pub returns-in-Err : goal.returns-in-Err
returns-in-Err c =
    let p = prints-number _ _ c.in-Err.ensures (rw c.number.ensures at c.put_refusal.ensures) in
    record { count = p.counted; page = p.is }
