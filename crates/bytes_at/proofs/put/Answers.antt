-- `bytes_at::put` meets its contract. Assumes nothing.
use mathlib.Core.Path.{refl, sym}
use native.Mathlib.Omega.{arith}
use lib.ListN.{length}
use Rattle.common.proofs.Placing.{stays}
use Rattle.bytes_at.proofs.Writing.{put_back}
use Rattle.bytes_at.proofs.put.Goals as goal

pub returns-then-bytes-these : goal.returns-then-bytes-these
returns-then-bytes-these c = let a = c.args in sym (stays a.at (length a.these.now) a.these.now a.bytes.now refl (omega arith))

pub returns-then-bytes-these-2 : goal.returns-then-bytes-these-2
returns-then-bytes-these-2 c = let a = c.args in sym (stays a.at (length a.these.now) a.these.now a.bytes.now refl (omega arith))

pub returns : goal.returns
returns c = let a = c.args in rw c.copy_from_slice.ensures.after (put_back a.at a.these.now a.bytes.now (omega arith))
