-- `host::soe_instruction` meets its contract. Assumes nothing.
use mathlib.Core.Path.{sym}
use Rattle.host.specs.Instruction.{call_of}
use Rattle.host.proofs.Instructing.{given-long}
use Rattle.host.proofs.soe_instruction.Goals as goal

pub write-requires : goal.write-requires
write-requires c =
    let a = c.args in
    given-long a.machine.now (call_of a.event a.time a.at a.limit a.available a.armed a.energy) _ (sym c.in-Ok.ensures)
