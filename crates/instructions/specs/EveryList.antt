-- Paper 02, No. 2: what holds after every list of events from a fresh machine. `AfterEveryList`, at the end, is the statement, and
-- `after-every-list` in proofs/EveryList.antt its proof. The events are followed by `following`, which the contract of `follow`
-- cites. In words: give a fresh machine any events, one after the other, and read off the list which of them were carried out.
-- 1. Nothing that is due by the last time is left undone. 2. A unit delivers exactly when a start was carried out and accepted
-- within 120 of its issue, its start time has come, and no cease accepted since has had its cease time. 3. A tick before an
-- event adds nothing but its time. 4. A refused event leaves the machine, and the last time never falls. Assumes nothing.
use Rattle.std.specs.Prelude.{◌≡◌, Bool, true, false, not, cond, ◌&&◌, ◌||◌, ℕ, ◌+◌, ◌≤◌, ◌<◌, leb}
use mathlib.Core.List.{List, [], ◌∷◌, ◌++◌, foldl}
use Rattle.common.specs.Answer.{refused, is_given, or_blank}
use Rattle.instructions.specs.declared.Pending.{Pending}
use Rattle.instructions.specs.declared.State.{State}
use Rattle.instructions.specs.declared.State.TheVariants.{Idle, StartPending, Delivering, CeasePending}
use Rattle.instructions.specs.declared.Machine.{Machine}
use Rattle.instructions.specs.declared.Action.{Action}
use Rattle.instructions.specs.declared.Action.TheVariants.{Start, Cease, Accept, Reject, Tick}
use Rattle.instructions.specs.declared.Event.{Event}
use Rattle.instructions.specs.Instructions.{fresh, following}

-- ---- a list of events

-- a refused event changes nothing
abbrev pub after : Machine → Event → Machine
after m e = or_blank m (following m e)

abbrev pub run : Machine → List Event → Machine
run m events = foldl after m events

abbrev pub is_tick : Action → Bool
is_tick (Start at conditions) = false
is_tick (Cease at) = false
is_tick Accept = false
is_tick Reject = false
is_tick Tick = true

-- an event is carried out where it gets no number
abbrev pub carried : Machine → Event → Bool
carried m e = is_given (following m e)

-- the starts, ceases and answers that were carried out, the oldest first
unfoldable pub carried_out : Machine → List Event → List Event
carried_out m [] = []
carried_out m (e ∷ events) = cond (carried m e && not (is_tick e.action)) (e ∷ []) [] ++ carried_out (after m e) events

-- ---- 1. nothing due is left undone

-- unanswered, an instruction is at most 120 older than the time; accepted, its start or cease time is still ahead
pub record InTime (time : ℕ) (p : Pending) : Type 0 where
  pub unanswered : p.accepted ≡ false → time ≤ p.issue + 120
  pub accepted : p.accepted ≡ true → time < p.at

abbrev pub NothingDue : ℕ → State → Type 0
NothingDue time Idle = Unit
NothingDue time (StartPending p) = InTime time p
NothingDue time Delivering = Unit
NothingDue time (CeasePending p) = InTime time p

-- ---- 2. a unit that delivers does so on an accepted start

-- a unit delivers until its cease takes effect, so also while a cease is pending
abbrev pub delivers : State → Bool
delivers Idle = false
delivers (StartPending p) = false
delivers Delivering = true
delivers (CeasePending p) = true

-- a start whose time has come
abbrev pub start_by : ℕ → Action → Bool
start_by time (Start at conditions) = leb at time
start_by time (Cease at) = false
start_by time Accept = false
start_by time Reject = false
start_by time Tick = false

-- a cease whose time has come
abbrev pub cease_by : ℕ → Action → Bool
cease_by time (Start at conditions) = false
cease_by time (Cease at) = leb at time
cease_by time Accept = false
cease_by time Reject = false
cease_by time Tick = false

abbrev pub is_acceptance : Action → Bool
is_acceptance (Start at conditions) = false
is_acceptance (Cease at) = false
is_acceptance Accept = true
is_acceptance Reject = false
is_acceptance Tick = false

-- what came next after an instruction is its acceptance, within 120 of its issue
abbrev pub accepted_next : ℕ → List Event → Bool
accepted_next issue [] = false
accepted_next issue (e ∷ events) = is_acceptance e.action && leb e.time (issue + 120)

-- among the events is an accepted cease whose time has come
unfoldable pub ceased : ℕ → List Event → Bool
ceased time [] = false
ceased time (e ∷ events) = cease_by time e.action && accepted_next e.time events || ceased time events

-- among the events is an accepted start whose time has come and since which none ceased the unit
unfoldable pub on_accepted_start : ℕ → List Event → Bool
on_accepted_start time [] = false
on_accepted_start time (e ∷ events) =
    start_by time e.action && accepted_next e.time events && not (ceased time events) || on_accepted_start time events

-- ---- the whole

abbrev pub tick_at : ℕ → Event
tick_at time = record { time = time; action = Tick }

-- of `m`, the machine after the events
pub record HoldsAfter (events : List Event) (m : Machine) : Type 0 where
  -- 1. nothing that is due by the last time is left undone
  pub nothing_due : NothingDue m.last m.state
  -- 2. by the last time the unit delivers exactly when it does so on an accepted start
  pub on-accepted-start : delivers m.state ≡ on_accepted_start m.last (carried_out fresh events)
  -- 3. a tick at a time from the last one to an event's is carried out, and the event then gets the same answer: the same number,
  -- or none and the same machine afterwards
  pub tick_carried : (time : ℕ) → m.last ≤ time → carried m (tick_at time) ≡ true
  pub tick_adds_nothing : (time : ℕ) (e : Event) → m.last ≤ time → time ≤ e.time → following (after m (tick_at time)) e ≡ following m e
  -- 4. a refused event leaves the machine, and the last time never falls
  pub refused_leaves : (e : Event) (number : ℕ) → following m e ≡ refused number → after m e ≡ m
  pub never_falls : (more : List Event) → m.last ≤ (run m more).last

abbrev pub AfterEveryList : List Event → Type 0
AfterEveryList events = HoldsAfter events (run fresh events)
