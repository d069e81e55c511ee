-- `bytes_at::bytes_from` meets its contract. Assumes nothing.
use Prim.Native.Nat.{ℕ}
use native.Mathlib.Omega.{arith}
use lib.ListN.{drop_of_length-le}
use Rattle.std.proofs.lemmas.List.{take_all, drop-replicate}
use Rattle.std.proofs.lemmas.Grind.{common_steps}
use Rattle.bytes_at.proofs.Numbers.{zeros_behind}
use Rattle.bytes_at.proofs.bytes_from.Goals as goal

pub returns : goal.returns
returns g c = rw (drop-replicate {X = ℕ}, zeros_behind) (grind (arith, common_steps, drop_of_length-le, take_all))
