-- Exact fractions of natural numbers, the line between two points, and the two roundings. Assumes nothing.
use Rattle.std.specs.Prelude.{ℕ, ◌+◌, ◌-◌, ◌*◌, ◌/◌}

pub record Fraction : Type 0 where
  pub numerator : ℕ
  pub denominator : ℕ

abbrev pub whole : ℕ → Fraction
whole n = record { numerator = n; denominator = 1 }

-- the value at x on the line through (x₀, y₀) and (x₁, y₁), where x₀ < x₁, y₀ ≤ y₁ and x₀ ≤ x
abbrev pub on_line : ℕ → ℕ → ℕ → ℕ → ℕ → Fraction
on_line x₀ y₀ x₁ y₁ x =
    record { numerator = y₀ * (x₁ - x₀) + (y₁ - y₀) * (x - x₀); denominator = x₁ - x₀ }

-- a division rounded up
abbrev pub rounded_up : ℕ → ℕ → ℕ
rounded_up a b = (a + (b - 1)) / b

-- a fraction rounded down
abbrev pub rounded_down : Fraction → ℕ
rounded_down f = f.numerator / f.denominator
