-- Paper 02, No. 2: the machine that follows the start and cease instructions of one direction; of No. 6, the energy of a start.
-- Assumes nothing.
use Rattle.std.specs.Prelude.{Bool, true, false, not, cond, ◌&&◌, List, [], ◌∷◌, Result, ℕ, ◌+◌, leb, ltb}
use Rattle.common.specs.Answer.{Answer, Cause, cause, checked, answered}
use Rattle.instructions.specs.declared.Pending.{Pending}
use Rattle.instructions.specs.declared.State.{State}
use Rattle.instructions.specs.declared.State.TheVariants.{Idle, StartPending, Delivering, CeasePending}
use Rattle.instructions.specs.declared.Machine.{Machine}
use Rattle.instructions.specs.declared.Conditions.{Conditions}
use Rattle.instructions.specs.declared.Action.{Action}
use Rattle.instructions.specs.declared.Action.TheVariants.{Start, Cease, Accept, Reject, Tick}
use Rattle.instructions.specs.declared.Event.{Event}
use Rattle.instructions.specs.declared.FollowRefusal.{FollowRefusal}
use Rattle.instructions.specs.declared.FollowRefusal.TheVariants.{Earlier, TooSoon, Unsuited}

-- a fresh machine is idle with last time 0
abbrev pub fresh : Machine
fresh = record { state = Idle; last = 0 }

-- ---- what becomes of a pending instruction; a state without one stays

-- an instruction at its issue, not answered yet
abbrev pub issued : ℕ → ℕ → Pending
issued issue at = record { issue = issue; at = at; accepted = false }

abbrev pub acceptance : Pending → Pending
acceptance p = record { issue = p.issue; at = p.at; accepted = true }

abbrev pub accepted : State → State
accepted Idle = Idle
accepted (StartPending p) = StartPending (acceptance p)
accepted Delivering = Delivering
accepted (CeasePending p) = CeasePending (acceptance p)

-- a rejected start returns to idle, a rejected cease to delivering
abbrev pub rejected : State → State
rejected Idle = Idle
rejected (StartPending p) = Idle
rejected Delivering = Delivering
rejected (CeasePending p) = Delivering

-- an accepted start delivers from its start time and an accepted cease turns idle at its cease time
abbrev pub effective : State → State
effective Idle = Idle
effective (StartPending p) = Delivering
effective Delivering = Delivering
effective (CeasePending p) = Idle

-- ---- what is due by a time

-- more than 120 after issue
abbrev pub late : ℕ → ℕ → Bool
late issue time = ltb (issue + 120) time

-- unanswered more than 120 after issue it is rejected; accepted, it takes effect when its time has come
unfoldable pub pending_by : ℕ → Pending → State → State
pending_by time p s =
    cond p.accepted
    (cond (leb p.at time) (effective s) s)
    (cond (late p.issue time) (rejected s) s)

unfoldable pub due_by : ℕ → State → State
due_by time Idle = Idle
due_by time (StartPending p) = pending_by time p (StartPending p)
due_by time Delivering = Delivering
due_by time (CeasePending p) = pending_by time p (CeasePending p)

-- ---- following an event

-- under 120 after issue
abbrev pub soon : ℕ → ℕ → Bool
soon issue at = ltb at (issue + 120)

-- a start or cease time is at least 120 after its issue, which is the time of the event
abbrev pub too_soon : ℕ → Action → Bool
too_soon time (Start at conditions) = soon time at
too_soon time (Cease at) = soon time at
too_soon time Accept = false
too_soon time Reject = false
too_soon time Tick = false

abbrev pub idle : State → Bool
idle Idle = true
idle (StartPending p) = false
idle Delivering = false
idle (CeasePending p) = false

abbrev pub delivering : State → Bool
delivering Idle = false
delivering (StartPending p) = false
delivering Delivering = true
delivering (CeasePending p) = false

-- an unanswered pending instruction
abbrev pub unanswered : State → Bool
unanswered Idle = false
unanswered (StartPending p) = not p.accepted
unanswered Delivering = false
unanswered (CeasePending p) = not p.accepted

-- a nonzero limit, a unit that is available and armed, and its direction's energy, which is 1 to 10,000,000 kWh
abbrev pub conditions_met : Conditions → Bool
conditions_met c = ltb 0 c.limit && c.available && c.armed && leb 1 c.energy && leb c.energy 10000000

-- a start needs its conditions met and an idle direction; a cease needs a delivering one; an answer needs an unanswered pending
-- instruction
abbrev pub suits : Action → State → Bool
suits (Start at conditions) s = conditions_met conditions && idle s
suits (Cease at) s = delivering s
suits Accept s = unanswered s
suits Reject s = unanswered s
suits Tick s = true

-- what an event at a time does to a state that it suits
abbrev pub acted : ℕ → Action → State → State
acted time (Start at conditions) s = StartPending (issued time at)
acted time (Cease at) s = CeasePending (issued time at)
acted time Accept s = accepted s
acted time Reject s = rejected s
acted time Tick s = s

-- 15: event earlier than the last one. 16: time under 120 after issue. 17: a start condition unmet or an event that does not suit
-- the state, which is that after what was due before the event.
abbrev pub following_causes : Machine → Event → List Cause
following_causes m e =
    cause 15 (ltb e.time m.last)
    ∷ cause 16 (too_soon e.time e.action)
    ∷ cause 17 (not (suits e.action (due_by e.time m.state)))
    ∷ []

-- the machine after an event that is carried out: before the event, and again after it, what is due by its time happens
abbrev pub moved : Machine → Event → Machine
moved m e = record { state = due_by e.time (acted e.time e.action (due_by e.time m.state)); last = e.time }

unfoldable pub following : Machine → Event → Answer Machine
following m e = checked (following_causes m e) (moved m e)

-- the number of each of the code's refusals
abbrev pub refusal_number : FollowRefusal → ℕ
refusal_number Earlier = 15
refusal_number TooSoon = 16
refusal_number Unsuited = 17

-- the machine afterwards, or the refusal's number
abbrev pub answer_of : Result Machine FollowRefusal → Answer Machine
answer_of = answered refusal_number
