-- What the loops of `check_block` keep. Assumes nothing.
use mathlib.Core.Path.{◌≡◌}
use Prim.Native.Nat.{◌+◌, ◌*◌}
use Rattle.std.specs.Prelude.{Ok}
use Rattle.energy.proofs.Blocks.{Passed}
use Rattle.energy.proofs.block.check_block.Given as goal

abbrev pub invariant-periods : goal.invariant-periods
invariant-periods l = Passed l.readings (l.each * l.period) × (l.answer ≡ Ok tt)

abbrev pub invariant-loop-place : goal.invariant-loop-place
invariant-loop-place l = Passed l.readings (l.each * l.period + l.place) × (l.answer ≡ Ok tt)
