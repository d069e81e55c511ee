-- `ledger::Needs::proposal` meets its contract. Assumes nothing.
use native.Mathlib.Omega.{arith}
use Rattle.std.proofs.lemmas.Grind.{common_steps}
use Rattle.ledger.proofs.Needs.proposal.Goals as goal

pub returns-then-size-state : goal.returns-then-size-state
returns-then-size-state c = grind (arith, common_steps)
