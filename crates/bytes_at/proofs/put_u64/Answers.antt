-- `bytes_at::put_u64` meets its contract. Assumes nothing.
use Rattle.bytes_at.proofs.Writing.{to_le_bytes_is}
use Rattle.bytes_at.proofs.put_u64.Goals as goal

pub returns : goal.returns
returns c = rw (← to_le_bytes_is 8 c.args.n, ← c.to_le_bytes-eight.ensures) c.put.ensures
