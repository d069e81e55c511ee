-- The largest of some numbers, and the largest deviations of some readings. Assumes nothing.
use mathlib.Core.Path.{◌≡◌, sym, ap, ◌∙◌}
use mathlib.Core.Bool.{◌&&◌}
use mathlib.Core.List.{List, [], ◌∷◌, map}
use Prim.Native.Nat.{ℕ, zero, suc, ◌+◌, ◌-◌, ◌≤◌, ◌<◌, min, max}
use native.Mathlib.Omega.{arith}
use borrow.Author.Tests.{le-leb}
use lib.Dec.{leb}
use lib.ListN.{length, drop, get_or, drop_of_length-le}
use Rattle.std.proofs.lemmas.List.{drop_more}
use Rattle.common.specs.Lists.{every}
use Rattle.common.proofs.Lists.{every-both}
use Rattle.common.proofs.Tests.{leb-same, leb-max}
use Rattle.energy.specs.Period.{is_reading, low_deviation, high_deviation}
use Rattle.energy.specs.Table.{largest, largest_deviation, largest_deviations}

module _ (f : ℕ → ℕ) where
  pub entry-le : (rs : List ℕ) (i : ℕ) → i < length rs → f (get_or rs i 0) ≤ largest (map f rs)
  unfolding largest
  entry-le [] i h = absurd (omega arith)
  entry-le (r ∷ rs) zero h = omega arith
  entry-le (r ∷ rs) (suc i) h = omega (arith, entry-le rs i (omega arith))

  pub drop_le : (rs : List ℕ) (place : ℕ) → largest (map f (drop place rs)) ≤ largest (map f rs)
  unfolding largest
  drop_le rs zero = omega arith
  drop_le [] (suc place) = omega arith
  drop_le (r ∷ rs) (suc place) = omega (arith, drop_le rs place)

  -- a turn of a loop that has the largest of the first i, and its end
  module _ (rs : List ℕ) (i most : ℕ) (so_far : largest (map f rs) ≡ max most (largest (map f (drop i rs)))) where
    one_more : i < length rs → largest (map f rs) ≡ max (max most (f (get_or rs i 0))) (largest (map f (drop (i + 1) rs)))
    unfolding largest
    one_more h = omega (arith, ap (λ (ns : List ℕ). largest (map f ns)) (drop_more rs i 0 h))

    all : length rs ≤ i → largest (map f rs) ≡ most
    unfolding largest
    all h = omega (arith, ap (λ (ns : List ℕ). largest (map f ns)) (drop_of_length-le rs h))

-- ---- the loop of `largest_deviations`

low-min : (least r : ℕ) → 50000 - min least r ≡ max (50000 - least) (50000 - r)
low-min least r = omega arith

high-max : (most r : ℕ) → max most r - 50000 ≡ max (most - 50000) (r - 50000)
high-max most r = omega arith

module _ (rs : List ℕ) where
  pub record SoFar (i least most : ℕ) : Type 0 where
    pub least-le : least ≤ 50000
    pub most-ge : 50000 ≤ most
    pub low : largest_deviation low_deviation rs ≡ max (50000 - least) (largest_deviation low_deviation (drop i rs))
    pub high : largest_deviation high_deviation rs ≡ max (most - 50000) (largest_deviation high_deviation (drop i rs))

  pub begin : SoFar 0 50000 50000
  begin = record { least-le = omega arith; most-ge = omega arith; low = omega arith; high = omega arith }

  module _ {i least most : ℕ} (s : SoFar i least most) where
    pub step : i < length rs → SoFar (i + 1) (min least (get_or rs i 0)) (max most (get_or rs i 0))
    step h =
        record {
          least-le = omega (arith, s.least-le);
          most-ge = omega (arith, s.most-ge);
          low = rw (low-min least (get_or rs i 0)) (one_more low_deviation rs i (50000 - least) s.low h);
          high = rw (high-max most (get_or rs i 0)) (one_more high_deviation rs i (most - 50000) s.high h);
        }

    pub done : length rs ≤ i → record { low = 50000 - least; high = most - 50000 } ≡ largest_deviations rs
    done h = rw (all low_deviation rs i (50000 - least) s.low h, all high_deviation rs i (most - 50000) s.high h)

-- ---- what they say of the readings

within_all : (f : ℕ → ℕ) (n : ℕ) (rs : List ℕ) → every (λ (r : ℕ). leb (f r) n) rs ≡ leb (largest (map f rs)) n
unfolding every largest
within_all f n [] = sym (le-leb 0 n (omega arith))
within_all f n (r ∷ rs) = rw (within_all f n rs, leb-max (f r) (largest (map f rs)) n)

within : (r : ℕ) → is_reading r ≡ leb (low_deviation r) 3000 && leb (high_deviation r) 3000
within r =
    let low : leb 47000 r ≡ leb (low_deviation r) 3000 = leb-same 47000 r (low_deviation r) 3000 (λ h. omega arith) (λ h. omega arith) in
    let high : leb r 53000 ≡ leb (high_deviation r) 3000 = leb-same r 53000 (high_deviation r) 3000 (λ h. omega arith) (λ h. omega arith) in
    rw (low, high)

-- every reading is good exactly where none lies more than 3,000 from 50,000
pub every-within : (rs : List ℕ) → every is_reading rs ≡ leb (largest_deviation low_deviation rs) 3000 && leb (largest_deviation high_deviation rs) 3000
every-within rs =
    every-both is_reading (λ r. leb (low_deviation r) 3000) (λ r. leb (high_deviation r) 3000) within rs
    ∙ rw (within_all low_deviation 3000 rs, within_all high_deviation 3000 rs)
