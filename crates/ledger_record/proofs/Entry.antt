-- The rule of a direction's entries in two parts, as `match_entries` and `entries_within` test them, and the loop of the second.
-- Assumes nothing.
use mathlib.Core.Path.{◌≡◌, refl, ap, ◌∙◌}
use mathlib.Core.Bool.{Bool, true, false, cond, ◌&&◌, and_comm}
use mathlib.Core.List.{List}
use Prim.Native.Nat.{ℕ, suc, ◌+◌, ◌-◌, ◌*◌, ◌≤◌, ◌<◌, min}
use native.Mathlib.Numerals.{add-one}
use native.Mathlib.Omega.{arith}
use lib.Dec.{leb, ltb, eqb}
use lib.IntN.{ℤ, pos}
use lib.ListN.{get_or}
use Rattle.common.specs.Lists.{every}
use Rattle.common.specs.Periods.{periods_to, of_period}
use Rattle.common.proofs.Lists.{every-both}
use Rattle.common.proofs.Periods.{every-next, every-until}
use Rattle.terms.specs.Terms.{Quantities, Q, REV, ER}
use Rattle.requirement.specs.Requirement.{noted, matched_to}
use Rattle.ledger_record.specs.Rule.{start_at, sched_at, requirement_of, entry_rule, entries_rule, within_rule}
use Rattle.ledger_record.specs.declared.Entries.{Entries}

-- ---- two parts

pub in_parts : (q : Quantities) (closed : ℕ) (x : Entries)
    → entries_rule q closed x ≡ (matched_to (REV q) (ER q) x.bounds x.starts x.scheds (min closed 8)).same && within_rule (500 * Q q) closed x
unfolding entries_rule matched_to start_at sched_at
in_parts q closed x =
    every-both (λ i. entry_rule q x i (leb i closed)) (λ i. cond (leb i closed) (as-noted i) true) (λ i. cond (leb i closed) (leb (of_period x.bounds i) (500 * Q q)) (blank i))
    (λ i. split (leb i closed) (leb (of_period x.bounds i) (500 * Q q)) (as-noted i) (blank i))
    (periods_to 8)
    ∙ ap (λ (b : Bool). b && within_rule (500 * Q q) closed x) (every-until as-noted closed 8)
  where
    as-noted : ℕ → Bool
    as-noted i = noted (requirement_of x i) (of_period x.scheds i) (start_at q x i) (sched_at q x i)

    blank : ℕ → Bool
    blank i = eqb (of_period x.bounds i) 0 && noted (requirement_of x i) (of_period x.scheds i) (pos 0) 0

    split : (closed within same zero : Bool) → cond closed (within && same) zero ≡ cond closed same true && cond closed within zero
    split true within same zero = and_comm within same
    split false within same zero = refl

-- ---- the loop of `entries_within`: after i turns, the test of the periods 1 to i

module _ (most closed : ℕ) (bounds : List ℕ) (starts : List ℤ) (scheds : List ℕ) where
  abbrev entries : Entries
  entries = record { bounds = bounds; starts = starts; scheds = scheds }

  abbrev rule : ℕ → Bool
  rule i =
      cond (leb i closed) (leb (of_period bounds i) most)
      (eqb (of_period bounds i) 0 && noted (requirement_of entries i) (of_period scheds i) (pos 0) 0)

  pub record HeldSoFar (holds : Bool) (i : ℕ) : Type 0 where
    pub within : i ≤ 8
    pub so_far : holds ≡ every rule (periods_to i)

  pub begin : HeldSoFar true 0
  unfolding every periods_to
  begin = record { within = omega arith; so_far = refl }

  pub step : {holds : Bool} {i : ℕ} → HeldSoFar holds i → i < 8 → {t : Bool}
      → t ≡ cond (ltb i closed) (leb (get_or bounds i 0) most) (eqb (get_or bounds i 0) 0 && noted (get_or starts i (pos 0)) (get_or scheds i 0) (pos 0) 0)
      → HeldSoFar (holds && t) (i + 1)
  step {i = i} s h e =
      let p : suc i - 1 ≡ i = omega arith in
      record { within = omega arith; so_far = rw (add-one i, every-next rule i, p, e, s.so_far) }
