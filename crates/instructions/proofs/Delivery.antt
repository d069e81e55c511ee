-- What the starts, ceases and answers that were carried out say of a state, and that every event keeps it. Assumes nothing.
use mathlib.Core.Path.{◌≡◌, refl, sym, ap, ◌∙◌}
use mathlib.Core.Bool.{Bool, true, false, true≢false, false≢true, not, cond, and-true}
use mathlib.Core.Logic.{inl, inr}
use mathlib.Core.List.{List, [], ◌∷◌, ◌++◌, append_assoc, append-nil}
use Prim.Native.Nat.{ℕ, ◌+◌, ◌≤◌}
use native.Mathlib.Omega.{arith}
use borrow.Author.Tests.{le-leb, not-true}
use lib.Dec.{leb}
use Rattle.common.proofs.Tests.{both_true, by-test}
use Rattle.instructions.specs.declared.Pending.{Pending}
use Rattle.instructions.specs.declared.State.{State}
use Rattle.instructions.specs.declared.State.TheVariants.{Idle, StartPending, Delivering, CeasePending}
use Rattle.instructions.specs.declared.Conditions.{Conditions}
use Rattle.instructions.specs.declared.Action.{Action}
use Rattle.instructions.specs.declared.Action.TheVariants.{Start, Cease, Accept, Reject, Tick}
use Rattle.instructions.specs.declared.Event.{Event}
use Rattle.instructions.specs.Instructions.{issued, acceptance, rejected, late, due_by, idle, conditions_met, suits, acted}
use Rattle.instructions.specs.EveryList.{is_tick, NothingDue, delivers, is_acceptance, on_accepted_start}
use Rattle.instructions.proofs.Due.{Pends, Rests, rejected-rests, rests-stays, unanswered-by, accepted-by, by-due, due-twice}
use Rattle.instructions.proofs.Steps.{noted}
use Rattle.instructions.proofs.Carried.{other-same, start-accepted, cease-accepted}

-- ---- an unanswered instruction is the last of the starts, ceases and answers

pub record Last (h : List Event) (e : Event) : Type 0 where
  pub former : List Event
  pub listed : h ≡ former ++ (e ∷ [])

abbrev start : Pending → Conditions → Event
start p conditions = record { time = p.issue; action = Start p.at conditions }

pub record StartLast (h : List Event) (p : Pending) : Type 0 where
  pub conditions : Conditions
  pub is : Last h (start p conditions)

abbrev cease : Pending → Event
cease p = record { time = p.issue; action = Cease p.at }

abbrev Waiting : List Event → State → Type 0
Waiting h Idle = Unit
Waiting h (StartPending p) = p.accepted ≡ false → StartLast h p
Waiting h Delivering = Unit
Waiting h (CeasePending p) = p.accepted ≡ false → Last h (cease p)

-- ---- what is known of a state at a time: by every later time, if nothing else happens, the unit delivers on an accepted start
pub record Known (h : List Event) (t : ℕ) (s : State) : Type 0 where
  pub waiting : Waiting h s
  pub by-later : (u : ℕ) → t ≤ u → delivers (due_by u s) ≡ on_accepted_start u h

-- time passes, and what is due happens
rests-waiting : (h : List Event) (s : State) → Rests s → Waiting h s
rests-waiting h s (inl e) = rw e tt
rests-waiting h s (inr e) = rw e tt

pub due-known : (h : List Event) (t u : ℕ) → t ≤ u → (s : State) → Known h t s → Known h u (due_by u s)
due-known h t u l s k =
    record {
      waiting = by-due u (Waiting h) (rests-waiting h) s k.waiting;
      by-later = λ v m. rw (due-twice u v m s) (k.by-later v (omega arith));
    }

-- ---- whether a unit delivers by a time
rejected-delivers : (s : State) → delivers (rejected s) ≡ delivers s
rejected-delivers Idle = refl
rejected-delivers (StartPending p) = refl
rejected-delivers Delivering = refl
rejected-delivers (CeasePending p) = refl

module _ (u : ℕ) (p : Pending) where
  -- as before, while an instruction is unanswered
  unanswered-same : (s : State) → Pends p s → p.accepted ≡ false → delivers (due_by u s) ≡ delivers s
  unanswered-same s q a =
      rw (unanswered-by u p s q a)
      (by-test (λ (x : State). delivers x ≡ delivers s) (late p.issue u) (rejected s) s (λ _. rejected-delivers s) (λ _. refl))

  -- by its time, once it is accepted
  start-delivers : delivers (due_by u (StartPending (acceptance p))) ≡ leb p.at u
  start-delivers = rw (accepted-by u (acceptance p) (StartPending (acceptance p)) (inl refl) refl) (by (leb p.at u))
    where
      by : (b : Bool) → delivers (cond b Delivering (StartPending (acceptance p))) ≡ b
      by true = refl
      by false = refl

  cease-delivers : delivers (due_by u (CeasePending (acceptance p))) ≡ not (leb p.at u)
  cease-delivers = rw (accepted-by u (acceptance p) (CeasePending (acceptance p)) (inr refl) refl) (by (leb p.at u))
    where
      by : (b : Bool) → delivers (cond b Idle (CeasePending (acceptance p))) ≡ not b
      by true = refl
      by false = refl

-- ---- an event that suits the state happens
module _ (h : List Event) (t : ℕ) where
  abbrev happens : Action → List Event
  happens a = h ++ noted (record { time = t; action = a })

  -- no acceptance: the unit delivers as it would without it
  other-known : (a : Action) (s c : State) → is_acceptance a ≡ false → is_tick a ≡ false → Known h t s → Waiting (happens a) c
      → ((u : ℕ) → delivers (due_by u c) ≡ delivers (due_by u s)) → Known (happens a) t c
  other-known a s c other listed k w same =
      record {
        waiting = w;
        by-later = λ u l. rw listed (same u ∙ k.by-later u l ∙ sym (other-same u (record { time = t; action = a }) other h));
      }

  -- the acceptance of the last instruction
  with_it : (i : Event) (w : Last h i) → happens Accept ≡ w.former ++ (i ∷ record { time = t; action = Accept } ∷ [])
  with_it i w = rw w.listed (append_assoc w.former (i ∷ []) (record { time = t; action = Accept } ∷ []))

  module _ (p : Pending) (a : p.accepted ≡ false) (within : t ≤ p.issue + 120) where
    before-it : (s : State) → Pends p s → Known h t s → (i : Event) → is_acceptance i.action ≡ false → (w : Last h i) → (u : ℕ) → t ≤ u
        → on_accepted_start u w.former ≡ delivers s
    before-it s q k i other w u l = sym (other-same u i other w.former) ∙ (rw w.listed at (sym (k.by-later u l))) ∙ unanswered-same u p s q a

    accepted-start : Known h t (StartPending p) → Known (happens Accept) t (StartPending (acceptance p))
    accepted-start k =
        let w = k.waiting a in
        let i = start p w.conditions in
        record {
          waiting = λ e. absurd (true≢false e);
          by-later = λ u l.
              rw (
                start-delivers u p,
                with_it i w.is,
                start-accepted u p.issue t p.at w.conditions w.is.former,
                before-it (StartPending p) (inl refl) k i refl w.is u l,
                le-leb t (p.issue + 120) within,
              )
              (sym (and-true (leb p.at u)));
        }

    accepted-cease : Known h t (CeasePending p) → Known (happens Accept) t (CeasePending (acceptance p))
    accepted-cease k =
        let w = k.waiting a in
        record {
          waiting = λ e. absurd (true≢false e);
          by-later = λ u l.
              rw (
                cease-delivers u p,
                with_it (cease p) w,
                cease-accepted u p.issue t p.at w.former,
                before-it (CeasePending p) (inr refl) k (cease p) refl w u l,
                le-leb t (p.issue + 120) within,
              )
              (ap not (sym (and-true (leb p.at u))));
        }

  rejected-known : (p : Pending) (s : State) → Pends p s → p.accepted ≡ false → Known h t s → Known (happens Reject) t (rejected s)
  rejected-known p s q a k =
      other-known Reject s (rejected s) refl refl k (rests-waiting (happens Reject) (rejected s) (rejected-rests s))
      (λ u. ap delivers (rests-stays u (rejected s) (rejected-rests s)) ∙ rejected-delivers s ∙ sym (unanswered-same u p s q a))

  started : (at : ℕ) (conditions : Conditions) (s : State) → Known h t s → idle s ≡ true
      → Known (happens (Start at conditions)) t (StartPending (issued t at))
  started at conditions Idle k i =
      other-known (Start at conditions) Idle (StartPending (issued t at)) refl refl k
      (λ _. record { conditions = conditions; is = record { former = h; listed = refl } })
      (λ u. unanswered-same u (issued t at) (StartPending (issued t at)) (inl refl) refl ∙ sym (ap delivers (rests-stays u Idle (inl refl))))
  started at conditions (StartPending p) k i = absurd (false≢true i)
  started at conditions Delivering k i = absurd (false≢true i)
  started at conditions (CeasePending p) k i = absurd (false≢true i)

  ceasing : (at : ℕ) → Known h t Delivering → Known (happens (Cease at)) t (CeasePending (issued t at))
  ceasing at k =
      other-known (Cease at) Delivering (CeasePending (issued t at)) refl refl k (λ _. record { former = h; listed = refl })
      (λ u. unanswered-same u (issued t at) (CeasePending (issued t at)) (inr refl) refl ∙ sym (ap delivers (rests-stays u Delivering (inr refl))))

  pub act-known : (a : Action) (s : State) → Known h t s → NothingDue t s → suits a s ≡ true → Known (happens a) t (acted t a s)
  act-known (Start at conditions) s k n e = started at conditions s k (both_true (conditions_met conditions) (idle s) e).1
  act-known (Cease at) Delivering k n e = ceasing at k
  act-known (Cease at) Idle k n e = absurd (false≢true e)
  act-known (Cease at) (StartPending p) k n e = absurd (false≢true e)
  act-known (Cease at) (CeasePending p) k n e = absurd (false≢true e)
  act-known Accept Idle k n e = absurd (false≢true e)
  act-known Accept Delivering k n e = absurd (false≢true e)
  act-known Accept (StartPending p) k n e = let a = not-true p.accepted e in accepted-start p a (n.unanswered a) k
  act-known Accept (CeasePending p) k n e = let a = not-true p.accepted e in accepted-cease p a (n.unanswered a) k
  act-known Reject Idle k n e = absurd (false≢true e)
  act-known Reject Delivering k n e = absurd (false≢true e)
  act-known Reject (StartPending p) k n e = rejected-known p (StartPending p) (inl refl) (not-true p.accepted e) k
  act-known Reject (CeasePending p) k n e = rejected-known p (CeasePending p) (inr refl) (not-true p.accepted e) k
  act-known Tick s k n e = rw (append-nil h) k
