-- `bytes-follow`: after every list of calls the bytes are those of the machine. Assumes nothing.
use mathlib.Core.Path.{◌≡◌, refl, sym, ap, ◌∙◌}
use mathlib.Core.Bool.{Bool, true, false, cond}
use mathlib.Core.Logic.{inl, inr}
use mathlib.Core.List.{List, [], ◌∷◌, foldl, foldl-append}
use Prim.Native.Nat.{ℕ, ◌<◌, ◌^◌}
use native.Mathlib.Omega.{arith}
use borrow.Author.Tests.{ltb-true}
use lib.Dec.{eqb, ltb}
use Rattle.common.specs.Answer.{Answer, refused, given, or_blank}
use Rattle.common.specs.Lists.{every}
use Rattle.common.proofs.Tests.{both_true}
use Rattle.instructions.specs.declared.State.{State}
use Rattle.instructions.specs.declared.State.TheVariants.{Idle, StartPending, Delivering, CeasePending}
use Rattle.instructions.specs.declared.Machine.{Machine}
use Rattle.instructions.specs.declared.Conditions.{Conditions}
use Rattle.instructions.specs.declared.Action.TheVariants.{Start, Cease, Accept, Reject, Tick}
use Rattle.instructions.specs.Instructions.{fresh, accepted, rejected, due_by, acted, following}
use Rattle.instructions.specs.EveryList.{after, run}
use Rattle.instructions.proofs.Due.{Rests, rejected-rests, by-due}
use Rattle.instructions.proofs.Steps.{Step, left, done, steps}
use Rattle.host.specs.MachineBytes.{state_fields, fields_of, machine_bytes, machine_rule, machine_in, TimesFit}
use Rattle.host.specs.declared.Call.{Call}
use Rattle.host.specs.Instruction.{action_of, is_event, conditions_of, event_of, in_bytes, instructing, machine_after}
use Rattle.host.specs.EveryCall.{call_fits, bytes_after, events_of, BytesFollow}
use Rattle.host.proofs.Instructing.{not_good, is-followed}
use Rattle.host.proofs.MachineBytes.{machine-back, zeros-fresh}

-- ---- the machine's times stay such that a u64 holds them
abbrev Fits : Machine → Type 0
Fits m = TimesFit (fields_of m)

module _ (t : ℕ) (h : t < 2 ^ 64) where
  -- the pending instruction's, whatever the last time
  abbrev PendingFits : State → Type 0
  PendingFits s = TimesFit (state_fields s t)

  rests-fits : (s : State) → Rests s → PendingFits s
  rests-fits s (inl e) = rw e (record { last = h; issue = omega arith; at = omega arith })
  rests-fits s (inr e) = rw e (record { last = h; issue = omega arith; at = omega arith })

  later-fits : (s : State) (last : ℕ) → TimesFit (state_fields s last) → PendingFits s
  later-fits Idle last f = rests-fits Idle (inl refl)
  later-fits (StartPending p) last f = record { last = h; issue = f.issue; at = f.at }
  later-fits Delivering last f = rests-fits Delivering (inr refl)
  later-fits (CeasePending p) last f = record { last = h; issue = f.issue; at = f.at }

  accepted-fits : (s : State) → PendingFits s → PendingFits (accepted s)
  accepted-fits Idle f = f
  accepted-fits (StartPending p) f = record { last = h; issue = f.issue; at = f.at }
  accepted-fits Delivering f = f
  accepted-fits (CeasePending p) f = record { last = h; issue = f.issue; at = f.at }

  acted-fits : (event at : ℕ) (conditions : Conditions) → at < 2 ^ 64 → (s : State) → PendingFits s → PendingFits (acted t (action_of event at conditions) s)
  unfolding action_of
  acted-fits event at conditions k s f = by (eqb event 1) (eqb event 2) (eqb event 3) (eqb event 4)
    where
      by : (v w x y : Bool) → PendingFits (acted t (cond v (Start at conditions) (cond w (Cease at) (cond x Accept (cond y Reject Tick)))) s)
      by true w x y = record { last = h; issue = h; at = k }
      by false true x y = record { last = h; issue = h; at = k }
      by false false true y = accepted-fits s f
      by false false false true = rests-fits (rejected s) (rejected-rests s)
      by false false false false = f

-- ---- a call
module _ (m : Machine) (f : Fits m) (c : Call) where
  answer-is : instructing (machine_bytes m) c ≡ cond (is_event c) (in_bytes (following m (event_of c))) (refused 13)
  answer-is = by (is_event c) refl
    where
      back : (machine_rule (machine_bytes m) ≡ true) × (machine_in (machine_bytes m) ≡ m)
      back = machine-back m f

      by : (b : Bool) → is_event c ≡ b → instructing (machine_bytes m) c ≡ cond b (in_bytes (following m (event_of c))) (refused 13)
      by true e = is-followed (machine_bytes m) c (rw back.0 e) ∙ ap (λ (n : Machine). in_bytes (following n (event_of c))) back.1
      by false e = not_good (machine_bytes m) c (rw back.0 e)

  carried-bytes : (a : Answer Machine) → or_blank (machine_bytes m) (in_bytes a) ≡ machine_bytes (or_blank m a)
  carried-bytes (refused number) = refl
  carried-bytes (given n) = refl

  abbrev followed : Machine
  followed = run m (cond (is_event c) (event_of c ∷ []) [])

  one-call : machine_after (machine_bytes m) c ≡ machine_bytes followed
  one-call = rw answer-is (by (is_event c))
    where
      by : (b : Bool) → or_blank (machine_bytes m) (cond b (in_bytes (following m (event_of c))) (refused 13)) ≡ machine_bytes (run m (cond b (event_of c ∷ []) []))
      by true = carried-bytes (following m (event_of c))
      by false = refl

  module _ (fit : call_fits c ≡ true) where
    times : (c.time < 2 ^ 64) × (c.at < 2 ^ 64)
    times =
        let w = both_true (ltb c.time (2 ^ 64)) (ltb c.at (2 ^ 64)) fit in
        (ltb-true c.time (2 ^ 64) w.0, ltb-true c.at (2 ^ 64) w.1)

    after-fits : Step m (event_of c) → Fits (after m (event_of c))
    after-fits (left same not) = rw same f
    after-fits (done later suited to kept) =
        let t = c.time in
        let h = times.0 in
        let before = by-due t (PendingFits t h) (rests-fits t h) m.state (later-fits t h m.state m.last f) in
        rw to
        (by-due t (PendingFits t h) (rests-fits t h) (acted t (event_of c).action (due_by t m.state))
        (acted-fits t h c.event c.at (conditions_of c) times.1 (due_by t m.state) before))

    call_fits_lem : Fits followed
    call_fits_lem = by (is_event c)
      where
        by : (b : Bool) → Fits (run m (cond b (event_of c ∷ []) []))
        by true = after-fits (steps m (event_of c))
        by false = f

-- ---- a list of calls
pub record From (m : Machine) (calls : List Call) : Type 0 where
  pub bytes : foldl machine_after (machine_bytes m) calls ≡ machine_bytes (run m (events_of calls))
  pub fits : Fits (run m (events_of calls))

from-machine : (calls : List Call) (m : Machine) → Fits m → every call_fits calls ≡ true → From m calls
unfolding events_of every
from-machine [] m f each = record { bytes = refl; fits = f }
from-machine (c ∷ calls) m f each =
    let w = both_true (call_fits c) (every call_fits calls) each in
    let rest = from-machine calls (followed m f c) (call_fits_lem m f c w.0) w.1 in
    let split = foldl-append after m (cond (is_event c) (event_of c ∷ []) []) (events_of calls) in
    record { bytes = rw (one-call m f c, split) rest.bytes; fits = rw split rest.fits }

pub bytes-follow : (calls : List Call) → every call_fits calls ≡ true → BytesFollow calls
bytes-follow calls each =
    let all = from-machine calls fresh (record { last = omega arith; issue = omega arith; at = omega arith }) each in
    let same : bytes_after calls ≡ machine_bytes (run fresh (events_of calls)) =
    ap (λ (bytes : List ℕ). foldl machine_after bytes calls) (sym zeros-fresh) ∙ all.bytes in
    record { bytes = same; answer = λ c. rw same (answer-is (run fresh (events_of calls)) all.fits c) }
