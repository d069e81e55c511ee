-- `energy::table::fill` meets its contract. The loop's invariant is `Filling`. Assumes nothing.
use mathlib.Core.Path.{◌≡◌, ◌∙◌}
use Prim.Native.Nat.{◌-◌, ◌≤◌}
use native.Mathlib.Omega.{arith}
use lib.ListN.{length, take, drop, length-take, length-drop}
use Rattle.energy.specs.Table.{wholes}
use Rattle.energy.proofs.Tables.{part-added, clipped}
use Rattle.energy.proofs.table.fill.Goals as goal
use Rattle.energy.proofs.table.fill.Goals.{After-min-2}

order : (c : After-min-2) → c.min.result ≤ c.min-2.result
order c = omega (arith, c.min.ensures, c.min-2.ensures, c.requires.order)

pub returns : goal.returns
returns c =
    let from = c.min.result in
    let to = c.min-2.result in
    let table = c.args.table.now in
    let there : to ≤ length table = omega (arith, c.min-2.ensures) in
    let part : length (take (to - from) (drop from table)) ≡ to - from = simp (length-take, length-drop) (omega arith) in
    let long : length c.loop-entry.entry-items ≡ to - from = c.loop-entry.auto.entry-items ∙ part in
    let all : c.loop-entry.entry-index ≡ to - from = omega (arith, part, c.loop-entry-test.false, c.loop-entry.auto.entry-index-end) in
    let placed = part-added table c.loop-entry.entry-items from to (order (goal.at.returns c).After-min-2) there long (rw all at c.loop-entry.invariant.so_far) in
    rw (c.min.ensures, c.min-2.ensures)
    (clipped (wholes c.args.first c.args.step) (length table) c.args.from c.args.to (rw (c.min.ensures, c.min-2.ensures) at placed))
