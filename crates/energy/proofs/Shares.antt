-- The share of a curve that keeps its rule: at most 1,000 per mille, 0 at deviation 0, and a point's own share at the point.
-- Assumes nothing.
use mathlib.Core.Path.{◌≡◌, refl, ap}
use mathlib.Core.Bool.{true, false≢true}
use mathlib.Core.List.{List, [], ◌∷◌}
use Prim.Native.Nat.{ℕ, zero, suc, ◌+◌, ◌-◌, ◌*◌, ◌≤◌, ◌<◌}
use native.Mathlib.Nat.{add-mul, add-zero, sub_self, mul_assoc, mul_left_comm, mul-le-mul_left, mul-le-mul_right, mul-zero, zero-mul}
use native.Mathlib.Omega.{arith}
use borrow.Author.Tests.{lt-ltb, le-ltb, ltb-true, ltb-false, eqb-true}
use lib.Dec.{ltb, eqb}
use lib.ListN.{length, get_or}
use Rattle.common.specs.Fraction.{Fraction, whole}
use Rattle.common.specs.Lists.{chain}
use Rattle.common.proofs.Tests.{both_true, by-test}
use Rattle.energy.specs.Curve.{blank, between, share_from, share_at, response_to, response, in_range, rises, points_rule, points_of, curve_rule}
use Rattle.energy.specs.declared.curve.Point.{Point}
use Rattle.energy.specs.declared.curve.Curve.{Curve}
use Rattle.energy.proofs.Points.{InRange, Rises, range-of, rises_next, rule-next, ruled}
use Rattle.energy.proofs.Rounding.{up_one, up-zero, up-exact, up_le}

-- on the way from s up to t, which is at most 1,000, the share is at most 1,000
line-le : (s t w x : ℕ) → s ≤ t → t ≤ 1000 → x ≤ w → s * w + (t - s) * x ≤ 1000 * w
line-le s t w x st t1 xw =
    let up : s + (t - s) ≡ t = omega arith in
    omega (arith, mul-le-mul_left (t - s) xw, add-mul s (t - s) w, ap (λ (n : ℕ). n * w) up, mul-le-mul_right w t1)

-- ---- the share as a fraction

record Share (f : Fraction) : Type 0 where
  positive : 0 < f.denominator
  at_most : f.numerator ≤ 1000 * f.denominator

share-between : (p q : Point) (d : ℕ) → Rises p q → InRange q → p.deviation ≤ d → d < q.deviation → Share (between p q d)
share-between p q d r i h l =
    record {
      positive = omega arith;
      at_most = line-le p.share q.share (q.deviation - p.deviation) (d - p.deviation) r.no_less i.share-le (omega arith);
    }

share_from_lem : (p : Point) (ps : List Point) (d : ℕ) → chain in_range rises p ps ≡ true → p.deviation ≤ d → Share (share_from p ps d)
unfolding share_from
share_from_lem p [] d e h = let i = range-of p [] e in record { positive = omega arith; at_most = omega arith }
share_from_lem p (q ∷ ps) d e h =
    by-test Share (ltb d q.deviation) (between p q d) (share_from q ps d)
    (λ t. share-between p q d (rises_next p q ps e) (range-of q ps (rule-next p q ps e)) h (ltb-true d q.deviation t))
    (λ t. share_from_lem q ps d (rule-next p q ps e) (ltb-false d q.deviation t))

share-at : (ps : List Point) (d : ℕ) → points_rule ps ≡ true → Share (share_at ps d)
share-at [] d e = absurd (false≢true e)
share-at (p ∷ ps) d e =
    by-test Share (ltb d p.deviation) (whole 0) (share_from p ps d) (λ t. record { positive = omega arith; at_most = omega arith })
    (λ t. share_from_lem p ps d (both_true (eqb p.share 0) (chain in_range rises p ps) e).1 (ltb-false d p.deviation t))

pub share-positive : (ps : List Point) (d : ℕ) → points_rule ps ≡ true → 0 < (share_at ps d).denominator
share-positive ps d e = (share-at ps d e).positive

-- ---- the share at deviation 0

between-zero : (p q : Point) → p.share ≡ 0 → (between p q 0).numerator ≡ 0
between-zero p q h =
    let past : 0 - p.deviation ≡ 0 = omega arith in
    rw (h, past, zero-mul (q.deviation - p.deviation), mul-zero (q.share - 0))

from_zero : (p : Point) (ps : List Point) → p.share ≡ 0 → chain in_range rises p ps ≡ true → (share_from p ps 0).numerator ≡ 0
unfolding share_from
from_zero p [] h e = h
from_zero p (q ∷ ps) h e =
    let r = rises_next p q ps e in
    by-test (λ (f : Fraction). f.numerator ≡ 0) (ltb 0 q.deviation) (between p q 0) (share_from q ps 0) (λ t. between-zero p q h)
    (λ t. let l = ltb-false 0 q.deviation t in absurd (omega arith))

at_zero : (ps : List Point) → points_rule ps ≡ true → (share_at ps 0).numerator ≡ 0
at_zero [] e = refl
at_zero (p ∷ ps) e =
    let b = both_true (eqb p.share 0) (chain in_range rises p ps) e in
    by-test (λ (f : Fraction). f.numerator ≡ 0) (ltb 0 p.deviation) (whole 0) (share_from p ps 0) (λ t. refl)
    (λ t. from_zero p ps (eqb-true p.share 0 b.0) b.1)

-- ---- the response at a point

-- no point stands before the first
first-least : (p : Point) (ps : List Point) (i : ℕ) → chain in_range rises p ps ≡ true → i < length (p ∷ ps) → p.deviation ≤ (get_or (p ∷ ps) i blank).deviation
first-least p ps zero e h = omega arith
first-least p [] (suc i) e h = absurd (omega arith)
first-least p (q ∷ ps) (suc i) e h =
    let r = rises_next p q ps e in
    omega (arith, first-least q ps i (rule-next p q ps e) (omega arith))

between-point : (quantity : ℕ) (p q : Point) → p.deviation < q.deviation → response_to quantity (between p q p.deviation) ≡ quantity * p.share
between-point quantity p q h =
    let w = q.deviation - p.deviation in
    rw (sub_self p.deviation, mul-zero (q.share - p.share), add-zero (p.share * w), ← mul_assoc quantity p.share w) (up-exact (quantity * p.share) w (omega arith))

from-point : (quantity : ℕ) (p : Point) (ps : List Point) (i : ℕ) → chain in_range rises p ps ≡ true → i < length (p ∷ ps) →
    let r = get_or (p ∷ ps) i blank in
    response_to quantity (share_from p ps r.deviation) ≡ quantity * r.share
unfolding share_from
from-point quantity p [] zero e h = up_one (quantity * p.share)
from-point quantity p [] (suc i) e h = absurd (omega arith)
from-point quantity p (q ∷ ps) zero e h =
    let r = rises_next p q ps e in
    rw (lt-ltb p.deviation q.deviation r.farther) (between-point quantity p q r.farther)
from-point quantity p (q ∷ ps) (suc i) e h =
    let f = rule-next p q ps e in
    rw (le-ltb (get_or (q ∷ ps) i blank).deviation q.deviation (first-least q ps i f (omega arith))) (from-point quantity q ps i f (omega arith))

pub at-point : (quantity : ℕ) (ps : List Point) (i : ℕ) → points_rule ps ≡ true → i < length ps →
    let r = get_or ps i blank in
    response_to quantity (share_at ps r.deviation) ≡ quantity * r.share
at-point quantity [] i e h = absurd (false≢true e)
at-point quantity (p ∷ ps) i e h =
    let f = (both_true (eqb p.share 0) (chain in_range rises p ps) e).1 in
    rw (le-ltb (get_or (p ∷ ps) i blank).deviation p.deviation (first-least p ps i f h)) (from-point quantity p ps i f h)

-- ---- responses

-- a factor times a share is at most 1,000 times the factor
response-to-le : (factor : ℕ) {f : Fraction} → Share f → response_to factor f ≤ 1000 * factor
response-to-le factor {f} s =
    let p : factor * f.numerator ≤ 1000 * factor * f.denominator = rw (mul_assoc, ← mul_left_comm factor 1000 f.denominator) (mul-le-mul_left factor s.at_most) in
    up_le (factor * f.numerator) f.denominator (1000 * factor) s.positive p

pub between_le : (factor : ℕ) (p q : Point) (d : ℕ) → Rises p q → InRange q → p.deviation ≤ d → d < q.deviation → response_to factor (between p q d) ≤ 1000 * factor
between_le factor p q d r i h l = response-to-le factor (share-between p q d r i h l)

pub curve-le : (factor : ℕ) (c : Curve) → curve_rule c ≡ true → (d : ℕ) → response_to factor (share_at (points_of c) d) ≤ 1000 * factor
curve-le factor c rule d = response-to-le factor (share-at (points_of c) d (ruled c rule))

module _ (mw : ℕ) (c : Curve) (rule : curve_rule c ≡ true) where
  -- at most 1,000,000 W for each MW
  pub response-le : (d : ℕ) → response mw c d ≤ 1000000 * mw
  unfolding response
  response-le d = omega (arith, curve-le (1000 * mw) c rule d)

  pub response-zero : response mw c 0 ≡ 0
  unfolding response
  response-zero = rw (at_zero (points_of c) (ruled c rule), mul-zero (1000 * mw)) (up-zero (share_at (points_of c) 0).denominator)
