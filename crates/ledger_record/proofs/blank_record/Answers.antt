-- `ledger_record::blank_record` meets its contract. Assumes nothing.
use native.Mathlib.Omega.{arith}
use Rattle.std.proofs.lemmas.Grind.{common_steps}
use Rattle.ledger_record.proofs.blank_record.Goals as goal

pub returns : goal.returns
returns c = grind (arith, common_steps)
