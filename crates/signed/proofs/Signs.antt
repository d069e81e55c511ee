-- Whole numbers by their sign, and differences of natural numbers as whole ones. Assumes nothing.
use mathlib.Core.Path.{◌≡◌, refl, sym, ◌∙◌}
use Prim.Native.Nat.{ℕ, suc, ◌-◌, ◌≤◌, ◌<◌, ◌^◌, min}
use native.Mathlib.Omega.{arith}
use native.Mathlib.Decide.{dec_lt, dec_le}
use borrow.Author.Tests.{le-leb, lt-leb}
use lib.Dec.{leb, leb-zero}
use lib.IntN.{ℤ, pos, negsuc, ◌-ℤ◌}
use lib.Signed.{le_z}
use Rattle.signed.specs.Sign.{above, nearest}
use Rattle.signed.proofs.Whole.{one-sided, less, same}

-- a number that may not be negative is tested by the part above 0
pub le_z-above : (z : ℤ) (n : ℕ) → le_z z (pos n) ≡ leb (above z) n
le_z-above (pos m) n = refl
le_z-above (negsuc m) n = sym (leb-zero n)

-- ---- a − b, of two natural numbers
module _ (a b : ℕ) where
  pub sub-pos : b ≤ a → pos a -ℤ pos b ≡ pos (a - b)
  sub-pos h = same (pos a -ℤ pos b) (pos (a - b)) (omega (arith, less (pos a) (pos b)))

  pub sub-neg : a < b → pos a -ℤ pos b ≡ negsuc (b - suc a)
  sub-neg h = same (pos a -ℤ pos b) (negsuc (b - suc a)) (omega (arith, less (pos a) (pos b)))

  -- it is at most 0 exactly where a is at most b
  pub sub-le_z0 : le_z (pos a -ℤ pos b) (pos 0) ≡ leb a b
  sub-le_z0 = by (dec_le a b)
    where
      by : Dec (a ≤ b) → le_z (pos a -ℤ pos b) (pos 0) ≡ leb a b
      by (yes h) = le_z-above (pos a -ℤ pos b) 0 ∙ le-leb (above (pos a -ℤ pos b)) 0 (omega (arith, less (pos a) (pos b), one-sided (pos a -ℤ pos b))) ∙ sym (le-leb a b h)
      by (no h) = rw (sub-pos (omega arith), lt-leb (a - b) 0 (omega arith), lt-leb a b (omega arith))

  -- it is an `i64` where both are below 2^63
  pub nearest-sub : a < 2 ^ 63 → b < 2 ^ 63 → nearest (pos a -ℤ pos b) ≡ pos a -ℤ pos b
  nearest-sub ha hb = by (dec_lt a b)
    where
      by : Dec (a < b) → nearest (pos a -ℤ pos b) ≡ pos a -ℤ pos b
      by (yes h) = let p : min (b - suc a) (2 ^ 63 - 1) ≡ b - suc a = omega arith in rw (sub-neg h, p)
      by (no h) = let p : min (a - b) (2 ^ 63 - 1) ≡ a - b = omega arith in rw (sub-pos (omega arith), p)
