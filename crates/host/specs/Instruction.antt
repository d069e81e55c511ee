-- Paper 02, No. 2 and No. 6: following an event from C, the machine in 32 bytes and the event in numbers. Assumes nothing.
use Rattle.std.specs.Prelude.{Bool, not, cond, ◌&&◌, ◌||◌, List, ℕ, leb, eqb}
use Rattle.common.specs.Answer.{Answer, refused, given, or_blank}
use Rattle.instructions.specs.declared.Machine.{Machine}
use Rattle.instructions.specs.declared.Conditions.{Conditions}
use Rattle.instructions.specs.declared.Action.{Action}
use Rattle.instructions.specs.declared.Action.TheVariants.{Start, Cease, Accept, Reject, Tick}
use Rattle.instructions.specs.declared.Event.{Event}
use Rattle.instructions.specs.Instructions.{refusal_number, following}
use Rattle.host.specs.declared.Call.{Call}
use Rattle.host.specs.declared.InstructionRefusal.{InstructionRefusal}
use Rattle.host.specs.declared.InstructionRefusal.TheVariants.{Malformed, Follow}
use Rattle.host.specs.MachineBytes.{machine_bytes, machine_rule, machine_in}

-- the numbers that C hands over beside the machine
abbrev pub call_of : ℕ → ℕ → ℕ → ℕ → ℕ → ℕ → ℕ → Call
call_of event time at limit available armed energy =
    record { event = event; time = time; at = at; limit = limit; available = available; armed = armed; energy = energy }

-- the event is 1 to 5, and a start's available and armed are each 0 or 1
abbrev pub call_rule : ℕ → ℕ → ℕ → Bool
call_rule event available armed = leb 1 event && leb event 5 && (not (eqb event 1) || leb available 1 && leb armed 1)

-- 1 start, 2 cease, 3 accept, 4 reject, 5 tick
unfoldable pub action_of : ℕ → ℕ → Conditions → Action
action_of event at conditions =
    cond (eqb event 1) (Start at conditions)
    (cond (eqb event 2) (Cease at)
    (cond (eqb event 3) Accept
    (cond (eqb event 4) Reject
    Tick)))

abbrev pub is_event : Call → Bool
is_event c = call_rule c.event c.available c.armed

-- looked at only by a start
abbrev pub conditions_of : Call → Conditions
conditions_of c = record { limit = c.limit; available = eqb c.available 1; armed = eqb c.armed 1; energy = c.energy }

abbrev pub event_of : Call → Event
event_of c = record { time = c.time; action = action_of c.event c.at (conditions_of c) }

-- the bytes of the machine afterwards
abbrev pub in_bytes : Answer Machine → Answer (List ℕ)
in_bytes (refused number) = refused number
in_bytes (given m) = given (machine_bytes m)

-- 13, before all others, where the bytes are no machine or the numbers no event
unfoldable pub instructing : List ℕ → Call → Answer (List ℕ)
instructing bytes c = cond (machine_rule bytes && is_event c) (in_bytes (following (machine_in bytes) (event_of c))) (refused 13)

-- every byte of the machine afterwards; where the call is refused, those of before
abbrev pub machine_after : List ℕ → Call → List ℕ
machine_after bytes c = or_blank bytes (instructing bytes c)

-- the number of each of the code's refusals
abbrev pub instruction_number : InstructionRefusal → ℕ
instruction_number Malformed = 13
instruction_number (Follow refusal) = refusal_number refusal
