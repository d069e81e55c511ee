-- `energy::block::part` meets its contract: empty where a test failed, and else the period's readings. Assumes nothing.
use mathlib.Core.Path.{sym, ◌∙◌}
use mathlib.Core.Logic.{⊎_elim}
use native.Mathlib.Omega.{arith}
use Rattle.energy.proofs.Parts.{wrong-count, below_one, above-eight, in_block}
use Rattle.energy.proofs.block.part.Goals as goal

pub returns-then-not-is_block_count : goal.returns-then-not-is_block_count
returns-then-not-is_block_count c =
    let block = c.args.readings.now in
    ⊎_elim (λ h. sym (wrong-count block c.args.period (sym c.is_block_count.ensures ∙ h)))
    (⊎_elim (λ h. sym (below_one block c.args.period h.1)) (λ h. sym (above-eight block c.args.period (omega (arith, h)))))
    c.then-not-is_block_count.either

pub returns : goal.returns
returns c =
    rw c.part_length-length.ensures
    (sym (in_block c.args.readings.now c.args.period (sym c.is_block_count.ensures ∙ c.if-not-is_block_count.false) c.if-period-lt1.false c.if-period-gt8.false))
