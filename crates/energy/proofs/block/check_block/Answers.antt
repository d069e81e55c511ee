-- `energy::block::check_block` meets its contract. Assumes nothing.
use mathlib.Core.Path.{◌≡◌, sym, ◌∙◌}
use mathlib.Core.Bool.{true}
use native.Mathlib.Omega.{arith}
use lib.ListN.{length}
use Rattle.energy.specs.Rate.{is_block_count}
use Rattle.energy.proofs.Blocks.{wrong-count, all-good, named}
use Rattle.energy.proofs.Rates.{Eighths, eighths}
use Rattle.energy.proofs.block.check_block.Goals as goal
use Rattle.energy.proofs.block.check_block.Goals.{After-part_length-each}

long : (c : After-part_length-each) → is_block_count (length c.args.readings.now) ≡ true
long c = sym c.is_block_count.ensures ∙ c.if-not-is_block_count.false

parts : (c : After-part_length-each) → Eighths (length c.args.readings.now)
parts c = eighths (length c.args.readings.now) (long c)

pub returns-then-not-is_block_count : goal.returns-then-not-is_block_count
returns-then-not-is_block_count c = wrong-count c.args.readings.now (sym c.is_block_count.ensures ∙ c.if-not-is_block_count.true)

pub overflow_cast-answer-then-not-is_reading : goal.overflow_cast-answer-then-not-is_reading
overflow_cast-answer-then-not-is_reading c =
    let p = parts (goal.at.overflow_cast-answer-then-not-is_reading c).After-part_length-each in
    omega (arith, c.loop-place-test.true, c.part_length-each.ensures, p.range.most)

pub overflow_add-answer-then-not-is_reading : goal.overflow_add-answer-then-not-is_reading
overflow_add-answer-then-not-is_reading c =
    let p = parts (goal.at.overflow_add-answer-then-not-is_reading c).After-part_length-each in
    omega (arith, c.loop-place-test.true, c.part_length-each.ensures, p.range.most)

pub returns-after-periods : goal.returns-after-periods
returns-after-periods c =
    rw (c.periods.invariant.1)
    (all-good c.args.readings.now (long (goal.at.returns-after-periods c).After-part_length-each) c.periods.period (omega (arith, c.periods-test.false))
    (rw c.part_length-each.ensures at c.periods.invariant.0))

pub returns-then-not-is_reading : goal.returns-then-not-is_reading
returns-then-not-is_reading c =
    let each = c.part_length-each.ensures in
    named c.args.readings.now (long (goal.at.returns-then-not-is_reading c).After-part_length-each) c.periods.period c.loop-place.place c.periods-test.true
    (rw each at c.loop-place-test.true) (rw each at c.loop-place.invariant.0)
    (rw each at (sym c.is_reading.ensures ∙ c.if-not-is_reading.true))
