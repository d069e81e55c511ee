-- `energy::table::fill_by_table` meets its contract: the entries to 500, and then entry 500. Assumes nothing.
use mathlib.Core.Path.{◌≡◌, ◌∙◌}
use mathlib.Core.List.{◌++◌}
use Prim.Native.Nat.{◌≤◌, ◌<◌}
use native.Mathlib.Omega.{arith}
use lib.ListN.{length, take, drop, length-take, length-append, length-drop}
use lib.Seq.{get_or-take}
use Rattle.energy.specs.Table.{Added}
use Rattle.energy.proofs.Entries.{added, found-is, sum_fits, fill-fits, filled}
use Rattle.energy.proofs.Tables.{front-added}
use Rattle.energy.proofs.table.fill_by_table.Goals as goal
use Rattle.energy.proofs.table.fill_by_table.Goals.{After-loop-d}

pub overflow_cast-entry : goal.overflow_cast-entry
overflow_cast-entry c =
    let n = c.min.result in
    let table = c.args.table.now in
    let here : c.loop-d.d < length (take n table) = c.loop-d-test.true in
    let few : c.loop-d.d < n = omega (arith, length-take n table) in
    let room = rw (← get_or-take n table c.loop-d.d 0 few) at (c.requires.room c.loop-d.d) in
    omega (arith, c.response_by_entry.ensures, sum_fits c.args.mw c.args.entries.now (take n table) c.loop-d.invariant here (omega (arith, c.min.ensures)) room)

pub overflow_cast-last : goal.overflow_cast-last
overflow_cast-last c =
    omega (arith, c.response_by_entry-last.ensures, found-is c.args.mw c.args.entries.now 500 (omega arith), c.requires.room 500)

-- the entries that the table has, with what was added to them, as long as the table
record Near (c : After-loop-d) : Type 0 where
  added_to : Added 0 c.min.result (added c.args.mw c.args.entries.now) c.args.table.now (c.loop-d.entry-items ++ drop c.min.result c.args.table.now)
  long : length (c.loop-d.entry-items ++ drop c.min.result c.args.table.now) ≡ length c.args.table.now

near : (c : After-loop-d) → Near c
near c =
    let n = c.min.result in
    let table = c.args.table.now in
    let there : n ≤ length table = omega (arith, c.min.ensures) in
    let part : length (take n table) ≡ n = simp length-take (omega arith) in
    let long : length c.loop-d.entry-items ≡ n = c.loop-d.auto.entry-items ∙ part in
    let all : c.loop-d.d ≡ n = omega (arith, part, c.loop-d-test.false, c.loop-d.auto.d-end) in
    record {
      added_to = front-added n there long (rw all at c.loop-d.invariant.so_far);
      long = simp (length-append, length-drop) (omega arith);
    }

pub fill-requires : goal.fill-requires
fill-requires c =
    let n = near (goal.at.fill-requires c).After-loop-d in
    rw (c.parts_of.ensures, c.response_by_entry-last.ensures)
    (fill-fits c.args.mw c.args.entries.now c.min.ensures n.added_to n.long c.requires)

pub returns : goal.returns
returns c =
    let n = near (goal.at.returns c).After-loop-d in
    filled c.args.mw c.args.entries.now c.min.ensures n.added_to n.long
    (rw (c.parts_of.ensures, c.response_by_entry-last.ensures) at c.fill.ensures)
