-- The counts of the two rates. Assumes nothing.
use mathlib.Core.Path.{◌≡◌, refl}
use mathlib.Core.Bool.{Bool, true, false, ◌||◌}
use Prim.Native.Nat.{ℕ, ◌*◌, ◌≤◌, ◌<◌}
use native.Mathlib.Omega.{arith}
use borrow.Author.Tests.{eqb-true}
use lib.Dec.{eqb}
use Rattle.energy.specs.Rate.{Rate, two, twenty, period_count, block_count, at_some_rate, is_period_count, is_block_count, part_length}

-- a count that a test lets through is that of a rate
record AtRate (count : Rate → ℕ) (n : ℕ) : Type 0 where
  rate : Rate
  same : n ≡ count rate

at-rate : (count : Rate → ℕ) (n : ℕ) → at_some_rate (λ (rate : Rate). eqb n (count rate)) ≡ true → AtRate count n
at-rate count n = by (eqb n (count two)) (λ e. eqb-true n (count two) e)
  where
    by : (t : Bool) → (t ≡ true → n ≡ count two) → t || eqb n (count twenty) ≡ true → AtRate count n
    by true first e = record { rate = two; same = first refl }
    by false first e = record { rate = twenty; same = eqb-true n (count twenty) e }

period-least : (rate : Rate) → 0 < period_count rate
period-least two = omega arith
period-least twenty = omega arith

period-most : (rate : Rate) → period_count rate ≤ period_count twenty
period-most two = omega arith
period-most twenty = omega arith

pub good-period : (rate : Rate) → is_period_count (period_count rate) ≡ true
unfolding is_period_count
good-period two = refl
good-period twenty = refl

-- a period's count is above 0 and at most the greater
pub record PeriodRange (n : ℕ) : Type 0 where
  pub least : 0 < n
  pub most : n ≤ period_count twenty

pub period-range : (n : ℕ) → is_period_count n ≡ true → PeriodRange n
unfolding is_period_count
period-range n e =
    let a = at-rate period_count n e in
    record { least = omega (arith, a.same, period-least a.rate); most = omega (arith, a.same, period-most a.rate) }

-- a block's count is eight times that of its parts, which is a period's, and at most the greater
pub record Eighths (n : ℕ) : Type 0 where
  pub all : n ≡ 8 * part_length n
  pub range : PeriodRange (part_length n)
  pub most : n ≤ block_count twenty

pub eighths : (n : ℕ) → is_block_count n ≡ true → Eighths n
unfolding is_block_count
eighths n e =
    let a = at-rate block_count n e in
    record {
      all = omega (arith, a.same);
      range = record { least = omega (arith, a.same, period-least a.rate); most = omega (arith, a.same, period-most a.rate) };
      most = omega (arith, a.same, period-most a.rate);
    }
