-- Exact fractions by natural numbers: x is (a − b) / d. Assumes nothing.
use mathlib.Core.Path.{◌≡◌, ap}
use mathlib.Core.List.{List, [], ◌∷◌, map}
use Prim.Native.Nat.{ℕ, ◌+◌, ◌*◌, ◌<◌}
use native.Mathlib.Nat.{mul-pos}
use native.Mathlib.Omega.{arith}
use lib.IntN.{ℤ, pos, ◌*ℤ◌}
use Rattle.common.specs.Lists.{sum}
use Rattle.signed.specs.Sign.{above, below}
use Rattle.signed.proofs.Whole as whole
use Rattle.signed.proofs.Whole.{above-times, below-times}
use Rattle.payment.specs.Exact.{Exact, ratio, plus, minus, times, total}

-- over a common denominator: s − t is the sum of m − n, times e, and m' − n', times c
joined : (c e d m n m' n' s t a b a' b' : ℕ) → s + (e * n + c * n') ≡ e * m + c * m' + t → m * d + b * c ≡ a * c + n * d → m' * d + b' * e ≡ a' * e + n' * d
    → s * d + (b + b') * (c * e) ≡ (a + a') * (c * e) + t * d
joined c e d m n m' n' s t a b a' b' p q r =
    omega (arith, ap (λ (k : ℕ). d * k) p, ap (λ (k : ℕ). e * k) q, ap (λ (k : ℕ). c * k) r)

-- ---- x is (a − b) / d

pub record Is (x : Exact) (a b d : ℕ) : Type 0 where
  pub some : 0 < x.denominator
  pub same : above x.numerator * d + b * x.denominator ≡ a * x.denominator + below x.numerator * d

pub ratio-is : (n d : ℕ) → 0 < d → Is (ratio n d) n 0 d
ratio-is n d h = record { some = h; same = omega arith }

pub half_is : (d : ℕ) → Is (ratio 1 2) d 0 (d * 2)
half_is d = record { some = omega arith; same = omega arith }

none_is : (d : ℕ) → Is (ratio 0 1) 0 0 d
none_is d = record { some = omega arith; same = omega arith }

module _ {x : Exact} {a b d : ℕ} (i : Is x a b d) where
  pub scaled : (c : ℕ) → Is x (a * c) (b * c) (d * c)
  scaled c = record { some = i.some; same = omega (arith, ap (λ (t : ℕ). c * t) i.same) }

  pub told : {a' b' : ℕ} → a ≡ a' → b ≡ b' → Is x a' b' d
  told p q = rw (← p, ← q) i

  pub times-is : (n e : ℕ) → 0 < e → Is (times (ratio n e) x) (n * a) (n * b) (e * d)
  times-is n e h =
      record {
        some = omega (arith, product);
        same = omega (arith, ap (λ (t : ℕ). e * d * t) (above-times n x.numerator), ap (λ (t : ℕ). e * d * t) (below-times n x.numerator), ap (λ (t : ℕ). n * e * t) i.same);
      }
    where
      product : 0 < e * x.denominator
      product = mul-pos h i.some

  module _ {y : Exact} {a' b' : ℕ} (j : Is y a' b' d) where
    abbrev u : ℤ
    u = pos y.denominator *ℤ x.numerator

    abbrev v : ℤ
    v = pos x.denominator *ℤ y.numerator

    u-is : (above u ≡ y.denominator * above x.numerator) × (below u ≡ y.denominator * below x.numerator)
    u-is = (above-times y.denominator x.numerator, below-times y.denominator x.numerator)

    v-is : (above v ≡ x.denominator * above y.numerator) × (below v ≡ x.denominator * below y.numerator)
    v-is = (above-times x.denominator y.numerator, below-times x.denominator y.numerator)

    pub plus-is : Is (plus x y) (a + a') (b + b') d
    plus-is =
        let e = rw (u-is.0, u-is.1, v-is.0, v-is.1) at (whole.sum u v) in
        record { some = mul-pos i.some j.some; same = joined x.denominator y.denominator d _ _ _ _ _ _ a b a' b' e i.same j.same }

    pub minus_is : Is (minus x y) (a + b') (b + a') d
    minus_is =
        let e = rw (u-is.0, u-is.1, v-is.0, v-is.1) at (whole.less u v) in
        let f : below y.numerator * d + a' * y.denominator ≡ b' * y.denominator + above y.numerator * d = omega (arith, j.same) in
        record { some = mul-pos i.some j.some; same = joined x.denominator y.denominator d _ _ _ _ _ _ a b b' a' e i.same f }

pub total-is : {A : Type 0} (f : A → Exact) (a b : A → ℕ) (d : ℕ) → ((p : A) → Is (f p) (a p) (b p) d) → (ps : List A)
    → Is (total (map f ps)) (sum (map a ps)) (sum (map b ps)) d
unfolding total sum
total-is f a b d each [] = none_is d
total-is f a b d each (p ∷ ps) = plus-is (each p) (total-is f a b d each ps)
