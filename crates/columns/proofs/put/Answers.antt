-- `columns::put` meets its contract. The loop's invariant is `Filled`: what is left to write, and what is written, make the text. Assumes nothing.
use mathlib.Core.Path.{refl}
use native.Mathlib.Omega.{arith}
use lib.ListN.{length-set}
use Rattle.columns.proofs.Columns.{no-columns, begin, step, done}
use Rattle.columns.proofs.put.Goals as goal

pub returns-then-cell-eq0 : goal.returns-then-cell-eq0
returns-then-cell-eq0 c = no-columns _ _ c.if-cell-eq0.true

pub loop-i-init : goal.loop-i-init
loop-i-init c = simp length-set (begin _ _ _ c.args.cell.now refl (omega arith))

pub loop-i-preserved : goal.loop-i-preserved
loop-i-preserved c = step _ _ _ c.loop-i.invariant c.loop-i-test.true _ c.next_column-c.ensures

pub returns : goal.returns
returns c = simp length-set at (done _ _ _ c.loop-i.invariant c.loop-i-test.false)
