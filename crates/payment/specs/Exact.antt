-- Exact fractions of whole numbers, which may be below 0, and one rounded to a whole number. Assumes nothing.
use Rattle.std.specs.Prelude.{List, [], ◌∷◌, ℕ, ◌*◌, ◌/◌, ◌<◌, ℤ, pos, negsuc, ◌+ℤ◌, ◌-ℤ◌, ◌*ℤ◌, ◌≤ℤ◌, ◌<ℤ◌}

pub record Exact : Type 0 where
  pub numerator : ℤ
  pub denominator : ℕ

-- a / b
abbrev pub ratio : ℕ → ℕ → Exact
ratio a b = record { numerator = pos a; denominator = b }

abbrev pub plus : Exact → Exact → Exact
plus x y =
    record {
      numerator = pos y.denominator *ℤ x.numerator +ℤ pos x.denominator *ℤ y.numerator;
      denominator = x.denominator * y.denominator;
    }

abbrev pub minus : Exact → Exact → Exact
minus x y =
    record {
      numerator = pos y.denominator *ℤ x.numerator -ℤ pos x.denominator *ℤ y.numerator;
      denominator = x.denominator * y.denominator;
    }

abbrev pub times : Exact → Exact → Exact
times x y = record { numerator = x.numerator *ℤ y.numerator; denominator = x.denominator * y.denominator }

unfoldable pub total : List Exact → Exact
total [] = ratio 0 1
total (x ∷ xs) = plus x (total xs)

-- ---- rounding

-- z / d rounded down, below 0 too: −(n + 1) / d, of which `negsuc n` is the numerator, to −(n / d + 1)
abbrev pub quotient : ℤ → ℕ → ℤ
quotient (pos n) d = pos (n / d)
quotient (negsuc n) d = negsuc (n / d)

-- to a whole number, a half upward
unfoldable pub rounded : Exact → ℤ
rounded x = let y = plus x (ratio 1 2) in quotient y.numerator y.denominator

-- `half_up` in proofs/Rounding.antt proves it: x = n / d is rounded to the whole number r with r − 1/2 ≤ x < r + 1/2, which is
-- (2r − 1) d ≤ 2n < (2r + 1) d
abbrev pub HalfUp : Type 0
HalfUp = (x : Exact) → 0 < x.denominator
    → ((pos x.denominator *ℤ (pos 2 *ℤ rounded x -ℤ pos 1)) ≤ℤ (pos 2 *ℤ x.numerator))
    × ((pos 2 *ℤ x.numerator) <ℤ (pos x.denominator *ℤ (pos 2 *ℤ rounded x +ℤ pos 1)))
