-- What paper 01 says of every requirement, over any bounds and any number of periods. Assumes nothing.
use mathlib.Core.Path.{◌≡◌, refl, ap}
use mathlib.Core.Bool.{Bool, true, false, cond}
use mathlib.Core.List.{map}
use Prim.Native.Nat.{ℕ, zero, suc, ◌+◌, ◌-◌, ◌*◌, ◌≤◌, ◌<◌}
use native.Mathlib.Nat.{mul-suc}
use native.Mathlib.Omega.{arith}
use native.Mathlib.Decide.{dec_le}
use borrow.Author.Tests.{le-leb, lt-leb}
use lib.Dec.{leb}
use lib.IntN.{pos, ◌-ℤ◌}
use lib.Signed.{◌≤ℤ◌}
use Rattle.common.specs.Lists.{sum}
use Rattle.common.specs.Periods.{periods_to}
use Rattle.common.proofs.Lists.{sum-next}
use Rattle.signed.proofs.Whole.{whole, less}
use Rattle.requirement.specs.Requirement.{left, sched, back, start}
use Rattle.requirement.proofs.Shortfall.{shortfall, left-next, sched-le, back-le, start_is}

module _ (REV ER : ℕ) (e : ℕ → ℕ) where
  -- requirements never exceed REV
  pub start_most : (i : ℕ) → start REV ER e i ≤ℤ pos REV
  start_most i = rw (start_is REV ER e i) (omega (arith, whole, less (pos REV) (pos (shortfall ER e i))))

  -- what comes back is at most what the start is short of REV
  pub back_most : (i : ℕ) → pos (back ER e i) ≤ℤ (pos REV -ℤ start REV ER e i)
  back_most i =
      rw (start_is REV ER e i)
      (omega (arith, whole, back-le ER e i, less (pos REV) (pos (shortfall ER e i)), less (pos REV) (pos REV -ℤ pos (shortfall ER e i))))

  -- where no bound was above 0, the start is REV
  pub start-unmoved : (i : ℕ) → ((k : ℕ) → suc k < i → e (suc k) ≡ 0) → start REV ER e i ≡ pos REV
  unfolding shortfall
  start-unmoved i h = rw (start_is REV ER e i, none i h) (ap pos (omega arith))
    where
      none : (i : ℕ) → ((k : ℕ) → suc k < i → e (suc k) ≡ 0) → shortfall ER e i ≡ 0
      none zero h = refl
      none (suc zero) h = refl
      none (suc (suc i)) h = omega (arith, none (suc i) (λ k l. h k (omega arith)), h i (omega arith))

-- no more comes back in a period than ER
pub back-recovery : (ER : ℕ) (e : ℕ → ℕ) (i : ℕ) → back ER e i ≤ ER
unfolding back sched
back-recovery ER e i = by (leb i 4)
  where
    by : (c : Bool) → cond c 0 (sched ER e (i - 4)) ≤ ER
    by true = omega arith
    by false = omega arith

-- after any periods, all e equal all sched plus left
module _ (ER : ℕ) (e : ℕ → ℕ) where
  pub all-scheduled : (n : ℕ) → sum (map e (periods_to n)) ≡ sum (map (sched ER e) (periods_to n)) + left ER e (suc n)
  unfolding periods_to sum left
  all-scheduled zero = refl
  all-scheduled (suc n) =
      omega (arith, all-scheduled n, sum-next e (periods_to n) (suc n), sum-next (sched ER e) (periods_to n) (suc n), left-next ER e n, sched-le ER e (suc n))

  -- no more is left than the bounds before
  pub left_most : (m i : ℕ) → ((k : ℕ) → k < i → e (suc k) ≤ m) → left ER e (suc i) ≤ m * i
  unfolding left
  left_most m zero h = omega arith
  left_most m (suc i) h = omega (arith, left-next ER e i, left_most m i (λ k l. h k (omega arith)), h i (omega arith), mul-suc m i)

-- a start depends only on the bounds of the periods before it, and so does what is left and what comes back
module _ (ER : ℕ) (e f : ℕ → ℕ) where
  pub left-local : (i : ℕ) → ((k : ℕ) → suc k < i → e (suc k) ≡ f (suc k)) → left ER e i ≡ left ER f i
  unfolding left
  left-local zero h = refl
  left-local (suc zero) h = refl
  left-local (suc (suc i)) h = rw (h i (omega arith), left-local (suc i) (λ k l. h k (omega arith)))

  pub sched-local : (i : ℕ) → ((k : ℕ) → k < suc i → e (suc k) ≡ f (suc k)) → sched ER e (suc i) ≡ sched ER f (suc i)
  unfolding sched
  sched-local i h = rw (h i (omega arith), left-local (suc i) (λ k l. h k (omega arith)))

  pub back-local : (i : ℕ) → ((k : ℕ) → suc k < i → e (suc k) ≡ f (suc k)) → back ER e i ≡ back ER f i
  unfolding back
  back-local i h = by (dec_le i 4)
    where
      by : Dec (i ≤ 4) → back ER e i ≡ back ER f i
      by (yes l) = rw (le-leb i 4 l)
      by (no l) = let p : i - 4 ≡ suc (i - 5) = omega arith in rw (lt-leb i 4 (omega arith), p) (sched-local (i - 5) (λ k m. h k (omega arith)))

  pub start-local : (REV i : ℕ) → ((k : ℕ) → suc k < i → e (suc k) ≡ f (suc k)) → start REV ER e i ≡ start REV ER f i
  unfolding start
  start-local REV zero h = refl
  start-local REV (suc zero) h = refl
  start-local REV (suc (suc i)) h =
      rw (start-local REV (suc i) (λ k l. h k (omega arith)), back-local (suc i) (λ k l. h k (omega arith)), h i (omega arith))
