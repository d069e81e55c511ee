-- An event from any machine: refused, or carried out; claims that hold after every list; a tick before an event. Assumes nothing.
use mathlib.Core.Path.{◌≡◌, refl, ap}
use mathlib.Core.Bool.{Bool, true, false, not, cond}
use mathlib.Core.List.{List, [], ◌∷◌, ◌++◌, append_assoc, append-nil}
use Prim.Native.Nat.{ℕ, ◌≤◌}
use native.Mathlib.Omega.{arith}
use borrow.Author.Tests.{ltb-false, le-ltb}
use lib.Dec.{ltb}
use Rattle.common.specs.Answer.{given, is_given}
use Rattle.instructions.specs.declared.Machine.{Machine}
use Rattle.instructions.specs.declared.Event.{Event}
use Rattle.instructions.specs.Instructions.{due_by, too_soon, suits, moved, following}
use Rattle.instructions.specs.EveryList.{after, run, is_tick, carried, carried_out, tick_at}
use Rattle.instructions.proofs.Due.{due-twice}

pub data Step (m : Machine) (e : Event) : Type 0 where
  left : after m e ≡ m → carried m e ≡ false → Step m e
  done : m.last ≤ e.time → suits e.action (due_by e.time m.state) ≡ true → after m e ≡ moved m e → carried m e ≡ true → Step m e

pub steps : (m : Machine) (e : Event) → Step m e
unfolding following
steps m e = by (ltb e.time m.last) (too_soon e.time e.action) (suits e.action (due_by e.time m.state)) refl refl refl
  where
    by : (x y z : Bool) → ltb e.time m.last ≡ x → too_soon e.time e.action ≡ y → suits e.action (due_by e.time m.state) ≡ z → Step m e
    by true y z p q r = left (rw p) (rw p)
    by false true z p q r = left (rw (p, q)) (rw (p, q))
    by false false false p q r = left (rw (p, q, r)) (rw (p, q, r))
    by false false true p q r = done (ltb-false e.time m.last p) r (rw (p, q, r)) (rw (p, q, r))

-- what an event that is carried out adds to the starts, ceases and answers
abbrev pub noted : Event → List Event
noted e = cond (not (is_tick e.action)) (e ∷ []) []

-- a claim about those and the machine, which each event that is carried out keeps
module _ (P : List Event → Machine → Type 0)
    (keeps : (h : List Event) (m : Machine) (e : Event) → P h m → m.last ≤ e.time → suits e.action (due_by e.time m.state) ≡ true
    → P (h ++ noted e) (moved m e))
  where
    pub after-all : (events h : List Event) (m : Machine) → P h m → P (h ++ carried_out m events) (run m events)
    unfolding carried_out
    after-all [] h m p = rw (append-nil h) p
    after-all (e ∷ events) h m p = by (steps m e) (after-all events)
      where
        by : Step m e → ((h : List Event) (m : Machine) → P h m → P (h ++ carried_out m events) (run m events)) → P (h ++ carried_out m (e ∷ events)) (run m (e ∷ events))
        by (left same not) rest = rw (not, same) (rest h m p)
        by (done later suited to kept) rest = rw (kept, to, ← append_assoc h (noted e) (carried_out (moved m e) events)) (rest (h ++ noted e) (moved m e) (keeps h m e p later suited))

-- ---- times never fall
event-later : (m : Machine) (e : Event) → m.last ≤ (after m e).last
event-later m e = by (steps m e)
  where
    by : Step m e → m.last ≤ (after m e).last
    by (left same not) = rw same (omega arith)
    by (done later suited to kept) = rw to later

pub never_falls : (events : List Event) (m : Machine) → m.last ≤ (run m events).last
never_falls [] m = omega arith
never_falls (e ∷ events) m = omega (arith, event-later m e, never_falls events (after m e))

-- ---- a tick before an event
module _ (m : Machine) (time : ℕ) (h : m.last ≤ time) where
  tick_is : following m (tick_at time) ≡ given (moved m (tick_at time))
  unfolding following
  tick_is = rw (le-ltb time m.last h)

  pub tick_carried : carried m (tick_at time) ≡ true
  tick_carried = ap is_given tick_is

  pub tick_adds_nothing : (e : Event) → time ≤ e.time → following (after m (tick_at time)) e ≡ following m e
  unfolding following
  tick_adds_nothing e l =
      rw (
        le-ltb time m.last h,
        le-ltb e.time time l,
        due-twice time e.time l (due_by time m.state),
        due-twice time e.time l m.state,
        le-ltb e.time m.last (omega arith),
      )
