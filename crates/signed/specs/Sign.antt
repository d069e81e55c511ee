-- Whole numbers by their sign, as the code splits and makes them. Assumes nothing.
use Rattle.std.specs.Prelude.{Bool, false, cond, ◌&&◌, ℕ, suc, ◌-◌, ◌^◌, min, eqb, ℤ, pos, negsuc}
use Rattle.std.specs.Int.Signed.{le_z}

-- the part above 0: 0 if the number is negative
abbrev pub above : ℤ → ℕ
above (pos n) = n
above (negsuc n) = 0

-- the part below 0, sign dropped: 0 if the number is not negative (`negsuc n` is −(n + 1))
abbrev pub below : ℤ → ℕ
below (pos n) = 0
below (negsuc n) = suc n

-- the i64 nearest to a number: the number itself from −2^63 to 2^63 − 1
abbrev pub nearest : ℤ → ℤ
nearest (pos n) = pos (min n (2 ^ 63 - 1))
nearest (negsuc n) = negsuc (min n (2 ^ 63 - 1))

abbrev pub eq_z : ℤ → ℤ → Bool
eq_z (pos m) (pos n) = eqb m n
eq_z (pos m) (negsuc n) = false
eq_z (negsuc m) (pos n) = false
eq_z (negsuc m) (negsuc n) = eqb m n

-- the greater of two numbers
abbrev pub greater : ℤ → ℤ → ℤ
greater a b = cond (le_z a b) b a

-- low ≤ z ≤ high
abbrev pub within : ℤ → ℤ → ℤ → Bool
within low z high = le_z low z && le_z z high
