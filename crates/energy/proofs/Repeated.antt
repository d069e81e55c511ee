-- Paper 02, No. 1: readings each repeated ten times have the same bounds, `ten-times`. Assumes nothing.
use mathlib.Core.Path.{◌≡◌, refl, ap, ◌∙◌}
use mathlib.Core.Bool.{Bool, ◌&&◌, and_self_left}
use mathlib.Core.List.{List, [], ◌∷◌, ◌++◌, map, flat_map}
use Prim.Native.Nat.{ℕ, zero, suc, ◌+◌, ◌*◌, ◌<◌}
use native.Mathlib.Omega.{arith}
use lib.ListN.{length, replicate, length-append, length-replicate}
use Rattle.common.specs.Lists.{sum, every}
use Rattle.terms.specs.Terms.{Quantities}
use Rattle.energy.specs.Period.{is_reading, good_readings, low_deviation, high_deviation, responses, response_sum, bound, period_energy, repeated, TenTimes}
use Rattle.energy.specs.Rate.{two, twenty, period_count, divisor}
use Rattle.energy.specs.Curve.{Curves}
use Rattle.energy.proofs.Rates.{good-period}
use Rattle.energy.proofs.Rounding.{up-scaled}

-- ---- a reading n times in a row, before others
module _ (r : ℕ) (rs : List ℕ) where
  sum-before : (f : ℕ → ℕ) (n : ℕ) → sum (map f (replicate n r ++ rs)) ≡ n * f r + sum (map f rs)
  unfolding sum
  sum-before f zero = omega arith
  sum-before f (suc n) = omega (arith, sum-before f n)

  every-before : (holds : ℕ → Bool) (n : ℕ) → every holds (replicate (suc n) r ++ rs) ≡ holds r && every holds rs
  unfolding every
  every-before holds zero = refl
  every-before holds (suc n) = ap (λ (b : Bool). holds r && b) (every-before holds n) ∙ and_self_left (holds r) (every holds rs)

-- ---- each reading of a list n times
module _ (n : ℕ) where
  repeated-length : (rs : List ℕ) → length (repeated n rs) ≡ n * length rs
  unfolding flat_map
  repeated-length [] = omega arith
  repeated-length (r ∷ rs) = simp (length-append, length-replicate) (omega (arith, repeated-length rs))

  repeated-sum : (f : ℕ → ℕ) (rs : List ℕ) → sum (map f (repeated n rs)) ≡ n * sum (map f rs)
  unfolding flat_map sum
  repeated-sum f [] = omega arith
  repeated-sum f (r ∷ rs) = sum-before r (repeated n rs) f n ∙ omega (arith, repeated-sum f rs)

  -- for any curves and quantities, whatever the deviation
  pub repeated-bound : 0 < n → (deviation : ℕ → ℕ) (q : Quantities) (cs : Curves) (rs : List ℕ) → bound deviation q cs (repeated n rs) ≡ bound deviation q cs rs
  unfolding bound
  repeated-bound h deviation q cs rs =
      let e : divisor (n * length rs) ≡ n * divisor (length rs) = omega arith in
      rw (repeated-sum (λ r. responses q cs (deviation r)) rs, repeated-length rs, e)
      (up-scaled n (response_sum deviation q cs rs) (divisor (length rs)) h)

repeated-every : (holds : ℕ → Bool) (n : ℕ) (rs : List ℕ) → every holds (repeated (suc n) rs) ≡ every holds rs
unfolding flat_map every
repeated-every holds n [] = refl
repeated-every holds n (r ∷ rs) = every-before r (repeated (suc n) rs) holds n ∙ ap (λ (b : Bool). holds r && b) (repeated-every holds n rs)

-- ---- ten times
module _ (rs : List ℕ) (long : length rs ≡ period_count two) where
  ten-count : length (repeated 10 rs) ≡ period_count twenty
  ten-count = omega (arith, repeated-length 10 rs, long)

  ten-good : good_readings (repeated 10 rs) ≡ good_readings rs
  unfolding good_readings
  ten-good = rw (ten-count, long, good-period two, good-period twenty) (repeated-every is_reading 9 rs)

pub ten-times : TenTimes
unfolding period_energy
ten-times low high cs rs long =
    let low_same = repeated-bound 10 (omega arith) low_deviation low cs rs in
    let high_same = repeated-bound 10 (omega arith) high_deviation high cs rs in
    record {
      count = ten-count rs long;
      bounds = rw (low_same, high_same);
      answer = rw (low_same, high_same, ten-good rs long);
    }
