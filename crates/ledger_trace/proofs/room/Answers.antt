-- By a law of any length: no list is computed. Assumes nothing.
use Prim.Native.Nat.{ℕ}
use Rattle.std.proofs.Common.{length, ◌≡◌, sym}
use Rattle.std.proofs.Math.ListN.{replicate}
use Rattle.std.proofs.lemmas.List.{length-replicate}
use Rattle.ledger_trace.proofs.room.Goals as goal

long : (n : ℕ) (a : ℕ) → n ≡ length (replicate n a)
long n a = sym (length-replicate n a)

pub returns : goal.returns
returns c = long 1000001 0
