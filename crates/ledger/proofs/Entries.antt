-- A direction's entries after the closings carried out: they keep the record rule, and one more closing adds its own.
-- Assumes nothing.
use mathlib.Core.Path.{◌≡◌, refl, sym, ap, ◌∙◌}
use mathlib.Core.Bool.{true, false}
use mathlib.Core.List.{List, [], ◌∷◌, map, map-append}
use Prim.Native.Nat.{ℕ, suc, ◌-◌, ◌*◌, ◌≤◌, ◌<◌}
use native.Mathlib.Numerals.{add-one}
use native.Mathlib.Omega.{arith}
use native.Mathlib.Decide.{dec_le}
use borrow.Author.Tests.{le-leb, lt-leb, eq-eqb}
use lib.Dec.{leb}
use lib.IntN.{pos, ◌+ℤ◌}
use lib.ListN.{length, get_or, set, length-append, length-map, get_or-eq_default}
use Rattle.common.specs.Periods.{periods_to, of_period}
use Rattle.common.proofs.Periods.{map_next, map-local, length-periods, period-at, every-period}
use Rattle.signed.specs.Sign.{greater}
use Rattle.signed.proofs.Orders.{eq_z-refl}
use Rattle.terms.specs.Terms.{Quantities, Q, REV, ER}
use Rattle.requirement.specs.Requirement.{start, sched, back}
use Rattle.requirement.proofs.Laws.{start-local, sched-local}
use Rattle.ledger_record.specs.Rule.{start_at, sched_at, back_at, entry_rule, entries_rule}
use Rattle.ledger_record.specs.declared.Entries.{Entries}
use Rattle.ledger.specs.Calls.{Closing, need, closed_entries}
use Rattle.ledger.specs.Promise.{History, Direction, extend, bounds, start_after, back_after, need_after, eight_of, entries_after}
use Rattle.ledger.proofs.Directions.{kept}
use Rattle.ledger.proofs.Eight.{eight-at, eight-set, eight-periods}

module _ (q : Quantities) (bound : List ℕ → ℕ) (h : History) where
  abbrev d : Direction
  d = record { REV = REV q; ER = ER q; bound = bound }

  abbrev n : ℕ
  n = length h

  abbrev x : Entries
  x = entries_after d h

  abbrev e : ℕ → ℕ
  e = of_period (bounds d h)

  -- the bounds in the entries are those of the list
  periods-here : of_period x.bounds ≡ e
  unfolding entries_after
  periods-here = eight-periods (bounds d h)

  pub start-here : (i : ℕ) → start_at q x i ≡ start (REV q) (ER q) e i
  unfolding start_at
  start-here i = ap (λ (e : ℕ → ℕ). start (REV q) (ER q) e i) periods-here

  pub sched-here : (i : ℕ) → sched_at q x i ≡ sched (ER q) e i
  unfolding sched_at
  sched-here i = ap (λ (e : ℕ → ℕ). sched (ER q) e i) periods-here

  pub need-here : need q x (suc n) ≡ need_after d h
  unfolding need need_after start_after back_after back_at
  need-here = rw (start-here (suc n)) (ap (λ (e : ℕ → ℕ). greater (pos 0) (start (REV q) (ER q) (of_period (bounds d h)) (suc n) +ℤ pos (back (ER q) e (suc n)))) periods-here)

  -- ---- the entries of period k + 1
  module _ (k : ℕ) where
    at-is : suc k - 1 ≡ k
    at-is = omega arith

    starts-at : get_or x.starts (suc k - 1) (pos 0) ≡ get_or (map (start (REV q) (ER q) e) (periods_to n)) k (pos 0)
    unfolding entries_after
    starts-at = rw at-is (eight-at (pos 0) (map (start (REV q) (ER q) e) (periods_to n)) k)

    scheds-at : of_period x.scheds (suc k) ≡ get_or (map (sched (ER q) e) (periods_to n)) k 0
    unfolding entries_after
    scheds-at = rw at-is (eight-at 0 (map (sched (ER q) e) (periods_to n)) k)

    bounds-at : of_period x.bounds (suc k) ≡ get_or (bounds d h) k 0
    unfolding entries_after
    bounds-at = rw at-is (eight-at 0 (bounds d h) k)

    -- of a closed period they are those of the bounds
    closed_is : get_or (bounds d h) k 0 ≤ 500 * Q q → k < n → entry_rule q x (suc k) true ≡ true
    closed_is most l =
        rw (
          le-leb (of_period x.bounds (suc k)) (500 * Q q) (omega (arith, bounds-at)),
          start-here (suc k),
          sched-here (suc k),
          starts-at,
          scheds-at,
          period-at (start (REV q) (ER q) e) n k (pos 0) l,
          period-at (sched (ER q) e) n k 0 l,
          eq_z-refl (start (REV q) (ER q) e (suc k)),
          eq-eqb (sched (ER q) e (suc k)) (sched (ER q) e (suc k)) refl,
        )

    -- of a period not closed they are 0
    open_is : n ≤ k → entry_rule q x (suc k) false ≡ true
    open_is l =
        let long = length-map h (λ (c : Closing). bound c.readings) in
        let l₁ : length (bounds d h) ≤ k = omega arith in
        let l₂ : length (map (start (REV q) (ER q) e) (periods_to n)) ≤ k = omega (arith, length-periods (start (REV q) (ER q) e) n) in
        let l₃ : length (map (sched (ER q) e) (periods_to n)) ≤ k = omega (arith, length-periods (sched (ER q) e) n) in
        rw (
          bounds-at,
          starts-at,
          scheds-at,
          get_or-eq_default (bounds d h) 0 l₁,
          get_or-eq_default (map (start (REV q) (ER q) e) (periods_to n)) (pos 0) l₂,
          get_or-eq_default (map (sched (ER q) e) (periods_to n)) 0 l₃,
        )

  -- where each bound is at most 500 × Q
  pub entries-keep : ((k : ℕ) → get_or (bounds d h) k 0 ≤ 500 * Q q) → entries_rule q n x ≡ true
  unfolding entries_rule
  entries-keep most = every-period (λ (i : ℕ). entry_rule q x i (leb i n)) 8 (λ k l. by k (dec_le (suc k) n))
    where
      by : (k : ℕ) → Dec (suc k ≤ n) → entry_rule q x (suc k) (leb (suc k) n) ≡ true
      by k (yes l) = rw (le-leb (suc k) n l) (closed_is k (most k) l)
      by k (no l) = rw (lt-leb (suc k) n (omega arith)) (open_is k (omega arith))

  -- ---- one more closing
  module _ (c : Closing) (before_eight : n < 8) where
    e⁺ : ℕ → ℕ
    e⁺ = of_period (bounds d (extend h c))

    longer : length (extend h c) ≡ suc n
    longer = length-append h (c ∷ []) ∙ add-one n

    bounds-next : set x.bounds n (bound c.readings) ≡ eight_of 0 (bounds d (extend h c))
    unfolding entries_after
    bounds-next = eight-set 0 (bounds d h) n (bound c.readings) (length-map h (λ (c : Closing). bound c.readings)) before_eight ∙ rw map-append

    -- f at the periods up to n, which depends only on the bounds so far, and then at n + 1
    next : {A : Type 0} (none : A) (f f⁺ : ℕ → A) → ((k : ℕ) → k < n → f (suc k) ≡ f⁺ (suc k))
        → set (eight_of none (map f (periods_to n))) n (f⁺ (suc n)) ≡ eight_of none (map f⁺ (periods_to (length (extend h c))))
    next none f f⁺ local =
        eight-set none (map f (periods_to n)) n (f⁺ (suc n)) (length-periods f n) before_eight
        ∙ rw (longer, map_next f⁺ n, map-local f f⁺ n local)

    same-before : (k i : ℕ) → suc k < suc i → i ≤ n → e (suc k) ≡ e⁺ (suc k)
    unfolding e⁺
    same-before k i l m = sym (kept d h c k (omega arith))

    pub entries_next : closed_entries q x n (bound c.readings) ≡ entries_after d (extend h c)
    unfolding closed_entries entries_after e⁺
    entries_next = λ j. record {
      bounds = bounds-next j;
      starts = starts-next j;
      scheds = scheds-next j;
    }
      where
        set-periods : of_period (set (eight_of 0 (bounds d h)) n (bound c.readings)) ≡ e⁺
        set-periods = ap of_period bounds-next ∙ eight-periods (bounds d (extend h c))

        starts-next : set (eight_of (pos 0) (map (start (REV q) (ER q) e) (periods_to n))) n (start (REV q) (ER q) (of_period (set (eight_of 0 (bounds d h)) n (bound c.readings))) (suc n))
            ≡ eight_of (pos 0) (map (start (REV q) (ER q) e⁺) (periods_to (length (extend h c))))
        starts-next =
            ap (λ (f : ℕ → ℕ). set (eight_of (pos 0) (map (start (REV q) (ER q) e) (periods_to n))) n (start (REV q) (ER q) f (suc n))) set-periods
            ∙ next (pos 0) (start (REV q) (ER q) e) (start (REV q) (ER q) e⁺) (λ k l. start-local (ER q) e e⁺ (REV q) (suc k) (λ m r. same-before m k r (omega arith)))

        scheds-next : set (eight_of 0 (map (sched (ER q) e) (periods_to n))) n (sched (ER q) (of_period (set (eight_of 0 (bounds d h)) n (bound c.readings))) (suc n))
            ≡ eight_of 0 (map (sched (ER q) e⁺) (periods_to (length (extend h c))))
        scheds-next =
            ap (λ (f : ℕ → ℕ). set (eight_of 0 (map (sched (ER q) e) (periods_to n))) n (sched (ER q) f (suc n))) set-periods
            ∙ next 0 (sched (ER q) e) (sched (ER q) e⁺) (λ k l. sched-local (ER q) e e⁺ k (λ m r. same-before m (suc k) (omega arith) (omega arith)))
