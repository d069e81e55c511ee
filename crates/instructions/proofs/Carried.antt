-- Accepted starts and ceases among events, as one event more is carried out. Assumes nothing.
use mathlib.Core.Path.{◌≡◌, refl, sym}
use mathlib.Core.Bool.{Bool, true, false, not, ◌&&◌, ◌||◌, and-true, and-false, or-true, or-false, or_assoc}
use mathlib.Core.List.{List, [], ◌∷◌, ◌++◌}
use Prim.Native.Nat.{ℕ, ◌+◌}
use lib.Dec.{leb}
use Rattle.instructions.specs.declared.Conditions.{Conditions}
use Rattle.instructions.specs.declared.Action.{Action}
use Rattle.instructions.specs.declared.Action.TheVariants.{Start, Cease, Accept}
use Rattle.instructions.specs.declared.Event.{Event}
use Rattle.instructions.specs.EveryList.{is_acceptance, accepted_next, cease_by, start_by, ceased, on_accepted_start}

-- ---- an event that is no acceptance
module _ (u : ℕ) (e : Event) (other : is_acceptance e.action ≡ false) where
  next-same : (issue : ℕ) (events : List Event) → accepted_next issue (events ++ (e ∷ [])) ≡ accepted_next issue events
  next-same issue [] = rw other
  next-same issue (x ∷ events) = refl

  ceased-same : (events : List Event) → ceased u (events ++ (e ∷ [])) ≡ ceased u events
  unfolding ceased
  ceased-same [] = rw (and-false (cease_by u e.action))
  ceased-same (x ∷ events) = rw (next-same x.time events, ceased-same events)

  pub other-same : (events : List Event) → on_accepted_start u (events ++ (e ∷ [])) ≡ on_accepted_start u events
  unfolding on_accepted_start
  other-same [] = rw (and-false (start_by u e.action))
  other-same (x ∷ events) = rw (next-same x.time events, ceased-same events, other-same events)

-- ---- an instruction and its acceptance
module _ (u issue t : ℕ) where
  abbrev both : Action → List Event
  both a = record { time = issue; action = a } ∷ record { time = t; action = Accept } ∷ []

  -- accepted within 120 of its issue, and its time has come
  abbrev effected : ℕ → Bool
  effected at = leb at u && leb t (issue + 120)

  next_both : (a : Action) → is_acceptance a ≡ false → (i : ℕ) (events : List Event) → accepted_next i (events ++ both a) ≡ accepted_next i events
  next_both a other i [] = rw other
  next_both a other i (x ∷ events) = refl

  module _ (at : ℕ) (conditions : Conditions) where
    abbrev start : Action
    start = Start at conditions

    ceased-start : (events : List Event) → ceased u (events ++ both start) ≡ ceased u events
    unfolding ceased
    ceased-start [] = refl
    ceased-start (x ∷ events) = rw (next_both start refl x.time events, ceased-start events)

    pub start-accepted : (events : List Event) → on_accepted_start u (events ++ both start) ≡ on_accepted_start u events || effected at
    unfolding on_accepted_start ceased
    start-accepted [] = rw (and-true (effected at), or-false (effected at))
    start-accepted (x ∷ events) =
        rw (next_both start refl x.time events, ceased-start events, start-accepted events)
        (sym (or_assoc (start_by u x.action && accepted_next x.time events && not (ceased u events)) (on_accepted_start u events) (effected at)))

  module _ (at : ℕ) where
    ceased-cease : (events : List Event) → ceased u (events ++ both (Cease at)) ≡ ceased u events || effected at
    unfolding ceased
    ceased-cease [] = rw (or-false (effected at))
    ceased-cease (x ∷ events) =
        rw (next_both (Cease at) refl x.time events, ceased-cease events)
        (sym (or_assoc (cease_by u x.action && accepted_next x.time events) (ceased u events) (effected at)))

    -- a start, a cease before, the new cease and the other starts
    ends : (x c k r : Bool) → x && not (c || k) || r && not k ≡ (x && not c || r) && not k
    ends x c true r = rw (or-true c, and-false x, and-false r, and-false (x && not c || r))
    ends x c false r = rw (or-false c, and-true r, and-true (x && not c || r))

    pub cease-accepted : (events : List Event) → on_accepted_start u (events ++ both (Cease at)) ≡ on_accepted_start u events && not (effected at)
    unfolding on_accepted_start
    cease-accepted [] = refl
    cease-accepted (x ∷ events) =
        rw (next_both (Cease at) refl x.time events, ceased-cease events, cease-accepted events)
        (ends (start_by u x.action && accepted_next x.time events) (ceased u events) (effected at) (on_accepted_start u events))
