-- `capability::capability_or_limit` meets its contract. Assumes nothing.
use native.Mathlib.Omega.{arith}
use Rattle.capability.specs.Capability.{direction_number}
use Rattle.capability.proofs.Laws.{room_most}
use Rattle.capability.proofs.capability_or_limit.Goals as goal

pub overflow_cast-room : goal.overflow_cast-room
overflow_cast-room c =
    rw c.room-room.ensures (omega (arith, room_most c.args.limits c.requires.limits (direction_number c.args.direction)))
