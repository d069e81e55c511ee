-- What is due by a time: the cases of a state, and the laws of `due_by`. Assumes nothing.
use mathlib.Core.Path.{◌≡◌, refl}
use mathlib.Core.Bool.{Bool, true, false, cond, true≢false}
use mathlib.Core.Logic.{◌⊎◌, inl, inr}
use Prim.Native.Nat.{ℕ, ◌+◌, ◌≤◌, ◌<◌}
use native.Mathlib.Omega.{arith}
use native.Mathlib.Decide.{dec_le, dec_lt}
use borrow.Author.Tests.{le-leb, lt-leb, le-ltb, lt-ltb}
use lib.Dec.{leb}
use Rattle.instructions.specs.declared.Pending.{Pending}
use Rattle.instructions.specs.declared.State.{State}
use Rattle.instructions.specs.declared.State.TheVariants.{Idle, StartPending, Delivering, CeasePending}
use Rattle.instructions.specs.Instructions.{rejected, effective, late, pending_by, due_by}
use Rattle.instructions.specs.EveryList.{InTime, NothingDue}

pub not-both : {A : Type 0} {b : Bool} → b ≡ true → b ≡ false → A
not-both x y = absurd (true≢false (rw x at y))

-- ---- a state with a pending instruction, and one without
abbrev pub Pends : Pending → State → Type 0
Pends p s = (s ≡ StartPending p) ⊎ (s ≡ CeasePending p)

abbrev pub Rests : State → Type 0
Rests s = (s ≡ Idle) ⊎ (s ≡ Delivering)

pub rejected-rests : (s : State) → Rests (rejected s)
rejected-rests Idle = inl refl
rejected-rests (StartPending p) = inl refl
rejected-rests Delivering = inr refl
rejected-rests (CeasePending p) = inr refl

effective-rests : (s : State) → Rests (effective s)
effective-rests Idle = inl refl
effective-rests (StartPending p) = inr refl
effective-rests Delivering = inr refl
effective-rests (CeasePending p) = inl refl

pub rests-stays : (t : ℕ) (s : State) → Rests s → due_by t s ≡ s
unfolding due_by
rests-stays t s (inl e) = rw e
rests-stays t s (inr e) = rw e

rests-nothing : (t : ℕ) (s : State) → Rests s → NothingDue t s
rests-nothing t s (inl e) = rw e tt
rests-nothing t s (inr e) = rw e tt

-- ---- a pending instruction: it lapses, it takes effect, or it is still pending
module _ (t : ℕ) (p : Pending) (s : State) (q : Pends p s) where
  pending-is : due_by t s ≡ pending_by t p s
  unfolding due_by
  pending-is = by q
    where
      by : Pends p s → due_by t s ≡ pending_by t p s
      by (inl e) = rw e
      by (inr e) = rw e

  pub unanswered-by : p.accepted ≡ false → due_by t s ≡ cond (late p.issue t) (rejected s) s
  unfolding pending_by
  unanswered-by a = rw (pending-is, a)

  pub accepted-by : p.accepted ≡ true → due_by t s ≡ cond (leb p.at t) (effective s) s
  unfolding pending_by
  accepted-by a = rw (pending-is, a)

  lapses : p.accepted ≡ false → p.issue + 120 < t → due_by t s ≡ rejected s
  lapses a h = rw (unanswered-by a, lt-ltb (p.issue + 120) t h)

  waits : p.accepted ≡ false → t ≤ p.issue + 120 → due_by t s ≡ s
  waits a h = rw (unanswered-by a, le-ltb (p.issue + 120) t h)

  comes : p.accepted ≡ true → p.at ≤ t → due_by t s ≡ effective s
  comes a h = rw (accepted-by a, le-leb p.at t h)

  ahead : p.accepted ≡ true → t < p.at → due_by t s ≡ s
  ahead a h = rw (accepted-by a, lt-leb p.at t h)

  in-time : InTime t p → NothingDue t s
  in-time i = by q
    where
      by : Pends p s → NothingDue t s
      by (inl e) = rw e i
      by (inr e) = rw e i

-- ---- any state
data Due (t : ℕ) (s : State) : Type 0 where
  still : due_by t s ≡ s → NothingDue t s → Due t s
  lapsed : (p : Pending) → Pends p s → p.accepted ≡ false → p.issue + 120 < t → due_by t s ≡ rejected s → Due t s
  come : (p : Pending) → Pends p s → p.accepted ≡ true → p.at ≤ t → due_by t s ≡ effective s → Due t s

module _ (t : ℕ) where
  pending : (p : Pending) (s : State) → Pends p s → Due t s
  pending p s q = by p.accepted refl
    where
      unanswered : p.accepted ≡ false → Dec (p.issue + 120 < t) → Due t s
      unanswered a (yes h) = lapsed p q a h (lapses t p s q a h)
      unanswered a (no h) =
          let l : t ≤ p.issue + 120 = omega arith in
          still (waits t p s q a l) (in-time t p s q (record { unanswered = λ _. l; accepted = λ b. not-both b a }))

      answered : p.accepted ≡ true → Dec (p.at ≤ t) → Due t s
      answered a (yes h) = come p q a h (comes t p s q a h)
      answered a (no h) =
          let l : t < p.at = omega arith in
          still (ahead t p s q a l) (in-time t p s q (record { unanswered = λ b. not-both a b; accepted = λ _. l }))

      by : (b : Bool) → p.accepted ≡ b → Due t s
      by true a = answered a (dec_le p.at t)
      by false a = unanswered a (dec_lt (p.issue + 120) t)

  due : (s : State) → Due t s
  due Idle = still (rests-stays t Idle (inl refl)) tt
  due (StartPending p) = pending p (StartPending p) (inl refl)
  due Delivering = still (rests-stays t Delivering (inr refl)) tt
  due (CeasePending p) = pending p (CeasePending p) (inr refl)

  -- what holds of a state, and of every state without a pending instruction, holds after what is due
  pub by-due : (P : State → Type 0) → ((r : State) → Rests r → P r) → (s : State) → P s → P (due_by t s)
  by-due P rest s x = by (due s)
    where
      by : Due t s → P (due_by t s)
      by (still e n) = rw e x
      by (lapsed p q a h e) = rw e (rest (rejected s) (rejected-rests s))
      by (come p q a h e) = rw e (rest (effective s) (effective-rests s))

  -- nothing is due after it
  pub nothing_due : (s : State) → NothingDue t (due_by t s)
  nothing_due s = by (due s)
    where
      by : Due t s → NothingDue t (due_by t s)
      by (still e n) = rw e n
      by (lapsed p q a h e) = rw e (rests-nothing t (rejected s) (rejected-rests s))
      by (come p q a h e) = rw e (rests-nothing t (effective s) (effective-rests s))

  -- what is due by an earlier time is due by a later one
  pub due-twice : (u : ℕ) → t ≤ u → (s : State) → due_by u (due_by t s) ≡ due_by u s
  due-twice u l s = by (due s)
    where
      by : Due t s → due_by u (due_by t s) ≡ due_by u s
      by (still e n) = rw e
      by (lapsed p q a h e) = rw (e, rests-stays u (rejected s) (rejected-rests s), lapses u p s q a (omega arith))
      by (come p q a h e) = rw (e, rests-stays u (effective s) (effective-rests s), comes u p s q a (omega arith))
