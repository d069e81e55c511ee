-- Paper 02, No. 9, beside refusal 6 of paper 01: a period's readings that `soe_test_day` filled are good ones. Assumes nothing.
use Rattle.std.specs.Prelude.{◌≡◌, true, false, List, ℕ, length}
use Rattle.energy.specs.Period.{good_readings}
use Rattle.energy.specs.Rate.{is_period_count}
use Rattle.test_day.specs.Day.{too_large, filled}

-- whatever stood in the buffer, 3,600 places or 36,000; `test-day-good` in proofs/TestDay.antt proves it
abbrev pub TestDayGood : Type 0
TestDayGood = (seed : ℕ) (buffer : List ℕ) → too_large seed ≡ false → is_period_count (length buffer) ≡ true
    → good_readings (filled seed buffer) ≡ true
