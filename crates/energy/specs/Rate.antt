-- Paper 02, No. 1: the two rates at which plants file readings. A period's count, the divisor of its sum, a block's count and the
-- length of its parts all come from here. Assumes nothing.
use Rattle.std.specs.Prelude.{Bool, ◌||◌, ℕ, ◌*◌, ◌/◌, eqb}

-- two readings a second, or twenty
pub data Rate : Type 0 where
  two : Rate
  twenty : Rate

abbrev pub a_second : Rate → ℕ
a_second two = 2
a_second twenty = 20

-- a period is half an hour, 1,800 seconds: 3,600 readings, or 36,000
abbrev pub period_count : Rate → ℕ
period_count rate = 1800 * a_second rate

-- a block has eight periods, all at one rate: 28,800 readings, or 288,000
abbrev pub block_count : Rate → ℕ
block_count rate = 8 * period_count rate

-- ---- the count decides the rate; refusal 6 covers every other count

abbrev pub at_some_rate : (Rate → Bool) → Bool
at_some_rate holds = holds two || holds twenty

unfoldable pub is_period_count : ℕ → Bool
is_period_count count = at_some_rate (λ (rate : Rate). eqb count (period_count rate))

unfoldable pub is_block_count : ℕ → Bool
is_block_count count = at_some_rate (λ (rate : Rate). eqb count (block_count rate))

-- ---- what a count gives

-- paper 02, No. 5: the sum over a period's readings, in watts, is divided by 2,000 times their count: 7,200,000, or 72,000,000
abbrev pub divisor : ℕ → ℕ
divisor count = 2000 * count

-- each of a block's eight periods has an eighth of its readings: 3,600, or 36,000
abbrev pub part_length : ℕ → ℕ
part_length count = count / 8
