-- `after-every-list`: what holds after every list of events from a fresh machine. Assumes nothing.
use mathlib.Core.Path.{◌≡◌, refl, sym, ap, ◌∙◌}
use mathlib.Core.Bool.{true}
use mathlib.Core.Logic.{inl}
use mathlib.Core.List.{List, [], ◌++◌}
use Prim.Native.Nat.{◌≤◌}
use native.Mathlib.Omega.{arith}
use Rattle.common.specs.Answer.{or_blank}
use Rattle.instructions.specs.declared.State.TheVariants.{Idle}
use Rattle.instructions.specs.declared.Machine.{Machine}
use Rattle.instructions.specs.declared.Event.{Event}
use Rattle.instructions.specs.Instructions.{fresh, due_by, suits, acted, moved}
use Rattle.instructions.specs.EveryList.{run, carried_out, delivers, on_accepted_start, AfterEveryList}
use Rattle.instructions.proofs.Due.{rests-stays, nothing_due, due-twice}
use Rattle.instructions.proofs.Steps.{noted, after-all, never_falls, tick_carried, tick_adds_nothing}
use Rattle.instructions.proofs.Delivery.{Known, due-known, act-known}

pub record Kept (h : List Event) (m : Machine) : Type 0 where
  pub known : Known h m.last m.state
  pub still : due_by m.last m.state ≡ m.state

keeps : (h : List Event) (m : Machine) (e : Event) → Kept h m → m.last ≤ e.time → suits e.action (due_by e.time m.state) ≡ true
    → Kept (h ++ noted e) (moved m e)
keeps h m e k later suited =
    let t = e.time in
    let before = due_by t m.state in
    let c = acted t e.action before in
    record {
      known = due-known (h ++ noted e) t t (omega arith) c
          (act-known h t e.action before (due-known h m.last t later m.state k.known) (nothing_due t m.state) suited);
      still = due-twice t t (omega arith) c;
    }

kept : (events : List Event) → Kept (carried_out fresh events) (run fresh events)
unfolding on_accepted_start
kept events = after-all Kept keeps events [] fresh (record { known = at_first; still = rests-stays 0 Idle (inl refl) })
  where
    at_first : Known [] 0 Idle
    at_first = record { waiting = tt; by-later = λ u l. ap delivers (rests-stays u Idle (inl refl)) }

pub after-every-list : (events : List Event) → AfterEveryList events
after-every-list events =
    let m = run fresh events in
    let k = kept events in
    record {
      nothing_due = rw k.still at (nothing_due m.last m.state);
      on-accepted-start = ap delivers (sym k.still) ∙ k.known.by-later m.last (omega arith);
      tick_carried = λ time h. tick_carried m time h;
      tick_adds_nothing = λ time e h l. tick_adds_nothing m time h e l;
      refused_leaves = λ e number g. ap (or_blank m) g;
      never_falls = λ more. never_falls more m;
    }
