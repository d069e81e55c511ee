-- Paper 02, No. 10: a contract multiplied by a whole number, 0 or more; with any number of bounds, at any period. Assumes nothing.
use mathlib.Core.Path.{◌≡◌, sym, ap}
use mathlib.Core.Bool.{Bool, true, false, cond}
use Prim.Native.Nat.{ℕ, zero, suc, ◌+◌, ◌*◌, ◌-◌, ◌≤◌, min}
use native.Mathlib.Nat.{mul-add, mul-sub, mul-zero, mul-le-mul_left}
use native.Mathlib.Omega.{arith}
use native.Mathlib.Decide.{dec_le}
use lib.Dec.{leb}
use lib.IntN.{pos, ◌*ℤ◌}
use lib.ListN.{get_or-map}
use Rattle.signed.proofs.Whole.{above-times, below-times, same}
use Rattle.requirement.specs.Requirement.{left, sched, back}
use Rattle.requirement.specs.Stacking.{Contract, start_in, sched_in, left_in, multiplied, Multiple, Multiples}
use Rattle.requirement.proofs.Shortfall.{shortfall}
use Rattle.requirement.proofs.Contracts.{bound_in, back_in, short_in, over, start-short}

min-times : (m a b : ℕ) → min (m * a) (m * b) ≡ m * min a b
min-times m a b = by (dec_le a b)
  where
    by : Dec (a ≤ b) → min (m * a) (m * b) ≡ m * min a b
    by (yes h) = let least : min a b ≡ a = omega arith in rw least (omega (arith, mul-le-mul_left m h))
    by (no h) = let l : b ≤ a = omega arith in let least : min a b ≡ b = omega arith in rw least (omega (arith, mul-le-mul_left m l))

module _ (m : ℕ) (c : Contract) where
  abbrev times : Contract
  times = multiplied m c

  bound-times : (i : ℕ) → bound_in times i ≡ m * bound_in c i
  bound-times i = rw (mul-zero m) at (get_or-map (λ (e : ℕ). m * e) c.bounds (i - 1) 0)

  over-times : (i : ℕ) → left_in times (suc i) ≡ m * left_in c (suc i) → left_in times (suc (suc i)) ≡ m * left_in c (suc (suc i))
  over-times i h =
      let due = left_in c (suc i) + bound_in c (suc i) in
      rw (over c i) (omega (arith, over times i, h, bound-times (suc i), mul-sub m due c.ER))

  left-times : (i : ℕ) → left_in times i ≡ m * left_in c i
  unfolding left
  left-times zero = sym (mul-zero m)
  left-times (suc zero) = sym (mul-zero m)
  left-times (suc (suc i)) = over-times i (left-times (suc i))

  sched-times : (i : ℕ) → sched_in times i ≡ m * sched_in c i
  unfolding sched
  sched-times i =
      let due = bound_in c i + left_in c i in
      omega (arith, left-times i, bound-times i, min-times m due c.ER)

  back-times : (i : ℕ) → back_in times i ≡ m * back_in c i
  unfolding back
  back-times i = by (leb i 4)
    where
      by : (b : Bool) → cond b 0 (sched_in times (i - 4)) ≡ m * cond b 0 (sched_in c (i - 4))
      by true = sym (mul-zero m)
      by false = sched-times (i - 4)

  short-times : (i : ℕ) → short_in times i ≡ m * short_in c i
  unfolding shortfall
  short-times zero = sym (mul-zero m)
  short-times (suc zero) = sym (mul-zero m)
  short-times (suc (suc i)) =
      let short = short_in c (suc i) in
      rw (short-times (suc i), back-times (suc i), bound-times (suc i), mul-sub m (short + bound_in c (suc i)) (back_in c (suc i)), mul-add m short (bound_in c (suc i)))

  module _ (i : ℕ) where
    start-times : start_in times i ≡ pos m *ℤ start_in c i
    start-times =
        same (start_in times i) (pos m *ℤ start_in c i)
        (omega (
          arith,
          start-short times i,
          ap (λ (n : ℕ). m * n) (start-short c i),
          short-times i,
          above-times m (start_in c i),
          below-times m (start_in c i),
        ))

    pub multiple : Multiple m c i
    multiple = record { starts = start-times; schedules = sched-times i; lefts = left-times i }

pub multiples : Multiples
multiples m c eight i first last = multiple m c i
