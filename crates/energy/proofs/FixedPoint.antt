-- The values of a line, rounded up, by steps in parts of which a fixed number make a whole. Assumes nothing.
use mathlib.Core.Path.{◌≡◌}
use Prim.Native.Nat.{ℕ, zero, suc, ◌+◌, ◌-◌, ◌*◌, ◌/◌, ◌≤◌, ◌<◌}
use native.Mathlib.Nat.{mul-le-mul_right, le_of_mul-le-mul_left, lt_of_mul-lt-mul_left, div-mul-le_self, lt-div-mul-add, div-eq_of_lt-le}
use native.Mathlib.Omega.{arith}
use Rattle.common.specs.Fraction.{rounded_up}

-- a line that rises by `rise` over the width n + 1: its value, rounded up, and the step in parts, rounded down
module _ (whole start rise n x value step : ℕ)
    (step-le : step * suc n ≤ rise * whole)
    (step-near : rise * whole ≤ step * suc n + n)
    (value-ge : start * suc n + rise * x ≤ value * suc n)
    (value-near : value * suc n ≤ start * suc n + rise * x + n)
    (few : n * x < whole)
  where
    not-above : start * whole + step * x ≤ value * whole
    not-above =
        let p : suc n * (start * whole + step * x) ≤ suc n * (value * whole) = omega (arith, mul-le-mul_right x step-le, mul-le-mul_right whole value-ge) in
        le_of_mul-le-mul_left p (omega arith)

    -- a step lacks at most n parts of the width, so x steps lack less than a whole
    not-below : value * whole < start * whole + step * x + whole
    not-below =
        let p : suc n * (value * whole) < suc n * (start * whole + step * x + whole) = omega (arith, mul-le-mul_right x step-near, mul-le-mul_right whole value-near) in
        lt_of_mul-lt-mul_left (suc n) p

    value-is : (start * whole + (whole - 1) + step * x) / whole ≡ value
    value-is = div-eq_of_lt-le whole (omega (arith, not-below)) (omega (arith, not-above))

-- with all but one part of a whole added, cutting off rounds up
pub line-value : (whole start rise width x : ℕ) → 0 < width → (width - 1) * x < whole →
    (start * whole + (whole - 1) + rise * whole / width * x) / whole ≡ rounded_up (start * width + rise * x) width
line-value whole start rise zero x w few = absurd (omega arith)
line-value whole start rise (suc n) x w few =
    let line = start * suc n + rise * x in
    let e : suc n - 1 ≡ n = omega arith in
    rw e
    (value-is whole start rise n x ((line + n) / suc n) (rise * whole / suc n)
    (div-mul-le_self (rise * whole) (suc n))
    (omega (arith, lt-div-mul-add {a = rise * whole} {b = suc n} w))
    (omega (arith, lt-div-mul-add {a = line + n} {b = suc n} w))
    (div-mul-le_self (line + n) (suc n))
    (rw e at few))

-- with no step it stays at its start
pub start-value : (whole start x : ℕ) → 0 < whole → (start * whole + (whole - 1) + 0 * x) / whole ≡ start
start-value whole start x h = div-eq_of_lt-le whole (omega arith) (omega arith)
