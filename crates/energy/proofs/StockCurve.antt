-- The stock containment curve: its share, and which curves are it. Assumes nothing.
use mathlib.Core.Path.{◌≡◌, refl, sym, ap}
use mathlib.Core.Bool.{Bool, true, ◌&&◌, false≢true}
use mathlib.Core.List.{List, [], ◌∷◌}
use Prim.Native.Nat.{ℕ, ◌*◌, ◌≤◌, ◌<◌}
use native.Mathlib.Omega.{arith}
use borrow.Author.Tests.{le-ltb, eqb-true}
use lib.Dec.{eqb, ltb}
use lib.Pointwise.{pointwise}
use Rattle.common.specs.Fraction.{Fraction, whole}
use Rattle.common.specs.Lists.{chain}
use Rattle.common.proofs.Tests.{both_true, by-test}
use Rattle.energy.specs.Curve.{point, points_of, containment_curve, curve_rule, between, share_from, share_at, response_to, response}
use Rattle.energy.specs.Containment.{containment_share, same_point, same_points, is_containment}
use Rattle.energy.specs.declared.curve.Point.{Point}
use Rattle.energy.specs.declared.curve.Curve.{Curve}
use Rattle.energy.proofs.Shares.{share-positive}

-- ---- its rule and its share

pub rule : curve_rule containment_curve ≡ true
unfolding curve_rule chain
rule = refl

pub positive : (d : ℕ) → 0 < (containment_share d).denominator
unfolding chain
positive d = share-positive (points_of containment_curve) d refl

-- past the last point the share stays flat
pub flat : (d : ℕ) → 500 ≤ d → containment_share d ≡ whole 1000
unfolding share_from
flat d h = rw (le-ltb d 15 (omega arith), le-ltb d 200 (omega arith), le-ltb d 500 h)

-- 11,100 is a multiple of each denominator
abbrev pub Divides : Fraction → Type 0
Divides f = (k : ℕ) × (k * f.denominator ≡ 11100)

pub divides : (d : ℕ) → Divides (containment_share d)
unfolding share_from
divides d =
    let p = point 15 0 in
    let q = point 200 50 in
    let r = point 500 1000 in
    by-test Divides (ltb d 15) (whole 0) (share_from p (q ∷ r ∷ []) d) (λ t. (11100, refl))
    (λ t.
    by-test Divides (ltb d 200) (between p q d) (share_from q (r ∷ []) d) (λ t. (60, refl))
    (λ t. by-test Divides (ltb d 500) (between q r d) (whole 1000) (λ t. (37, refl)) (λ t. (11100, refl))))

-- ---- a curve with its points

point-same : (p q : Point) → same_point p q ≡ true → p ≡ q
point-same p q e =
    let b = both_true (eqb p.deviation q.deviation) (eqb p.share q.share) e in
    λ i. record { deviation = eqb-true p.deviation q.deviation b.0 i; share = eqb-true p.share q.share b.1 i }

points-same : (ps qs : List Point) → same_points ps qs ≡ true → ps ≡ qs
unfolding same_points
points-same [] [] e = refl
points-same [] (q ∷ qs) e = absurd (false≢true e)
points-same (p ∷ ps) [] e = absurd (false≢true e)
points-same (p ∷ ps) (q ∷ qs) e =
    let b = both_true (same_point p q) (same_points ps qs) e in
    λ i. point-same p q b.0 i ∷ points-same ps qs b.1 i

-- the code compares two lists place by place
pub by-points : (ps qs : List Point) → pointwise same_point ps qs ≡ same_points ps qs
unfolding same_points
by-points [] [] = refl
by-points [] (q ∷ qs) = refl
by-points (p ∷ ps) [] = refl
by-points (p ∷ ps) (q ∷ qs) = ap (λ (b : Bool). same_point p q && b) (by-points ps qs)

-- the same points, and so the same responses
pub stock-response : (c : Curve) → is_containment c ≡ true → (mw d : ℕ) → response mw containment_curve d ≡ response mw c d
unfolding response
stock-response c e mw d =
    ap (λ (ps : List Point). response_to (1000 * mw) (share_at ps d)) (sym (points-same (points_of c) (points_of containment_curve) e))
