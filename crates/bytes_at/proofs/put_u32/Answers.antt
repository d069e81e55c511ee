-- `bytes_at::put_u32` meets its contract. Assumes nothing.
use Rattle.bytes_at.proofs.Writing.{to_le_bytes_is}
use Rattle.bytes_at.proofs.put_u32.Goals as goal

pub returns : goal.returns
returns c = rw (← to_le_bytes_is 4 c.args.n, ← c.to_le_bytes-four.ensures) c.put.ensures
