-- What the loop of `sum_of` keeps: the total is the sum of the numbers so far. Assumes nothing.
use mathlib.Core.Path.{◌≡◌}
use Prim.Native.Nat.{◌*◌, ◌≤◌, ◌^◌}
use lib.ListN.{take}
use Rattle.common.specs.Lists.{sum}
use Rattle.ledger_record.proofs.sum_of.Given as goal

abbrev pub invariant-loop-n : goal.invariant-loop-n
invariant-loop-n l = record { is_sum : l.total ≡ sum (take l.n-index l.numbers); most : l.total ≤ 2 ^ 32 * l.n-index }
