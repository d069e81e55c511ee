-- `report::put_rows` meets its contract. The loop's invariant is `Written`. Assumes nothing.
use mathlib.Core.Path.{◌≡◌}
use lib.ListN.{length}
use borrow.Author.Rules.{rules}
use Rattle.report.proofs.Table.{begin, step, done}
use Rattle.report.proofs.put_rows.Goals as goal

pub loop-i-init : goal.loop-i-init
loop-i-init c = begin _ _

pub loop-i-preserved : goal.loop-i-preserved
loop-i-preserved c =
    let eight : length c.args.rows ≡ 8 = search rules in
    step _ _ eight c.requires c.loop-i.invariant _ c.loop-i-test.true c.put_row.ensures

pub returns : goal.returns
returns c =
    let eight : length c.args.rows ≡ 8 = search rules in
    done _ _ eight c.requires c.loop-i.invariant c.loop-i-test.false
