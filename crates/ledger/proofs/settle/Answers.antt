-- `ledger::settle` meets its contract. Assumes nothing.
use native.Mathlib.Omega.{arith}
use Rattle.std.proofs.lemmas.Grind.{common_steps}
use Rattle.ledger.proofs.settle.Goals as goal

pub returns-then-comes-goes : goal.returns-then-comes-goes
returns-then-comes-goes c = grind (arith, common_steps)

pub returns-then-size-new : goal.returns-then-size-new
returns-then-size-new c = grind (arith, common_steps)

pub returns : goal.returns
returns c = grind (arith, common_steps)
