-- A segment of a curve: `fill` has room for it, and what it adds are the segment's responses. Assumes nothing.
use mathlib.Core.Path.{◌≡◌, ◌∙◌}
use mathlib.Core.List.{List}
use Prim.Native.Nat.{ℕ, ◌+◌, ◌-◌, ◌*◌, ◌/◌, ◌^◌, ◌≤◌, ◌<◌, min}
use native.Mathlib.Nat.{mul-add, mul_assoc, mul-le-mul, div-mul-le_self}
use native.Mathlib.Omega.{arith}
use lib.ListN.{length}
use Rattle.energy.specs.Curve.{between, response_to}
use Rattle.energy.specs.Table.{Added, wholes, FillFits, SegmentFits}
use Rattle.energy.specs.declared.curve.Point.{Point}
use Rattle.energy.proofs.FixedPoint.{line-value}
use Rattle.energy.proofs.Shares.{between_le}
use Rattle.energy.proofs.Tables.{same-added}

-- the numbers that the code finds
abbrev width : Point → Point → ℕ
width p q = q.deviation - p.deviation

abbrev rise : ℕ → Point → Point → ℕ
rise factor p q = factor * (q.share - p.share)

abbrev pub first-parts : ℕ → ℕ
first-parts start = start * 2 ^ 32 + (2 ^ 32 - 1)

abbrev step : ℕ → Point → Point → ℕ
step factor p q = rise factor p q * 2 ^ 32 / width p q

module _ {factor : ℕ} {p q : Point} {before : List ℕ} (h : SegmentFits factor p q before) where
  pub top-le : factor * p.share + rise factor p q ≤ 1000000000
  top-le =
      let s : p.share + (q.share - p.share) ≤ 1000 = omega (arith, h.no_less, h.share_most) in
      omega (arith, mul-add factor p.share (q.share - p.share), mul-le-mul h.factor_most s)

  added-at : (d : ℕ) → p.deviation ≤ d → d < q.deviation → wholes (first-parts (factor * p.share)) (step factor p q) (d - p.deviation) ≡ response_to factor (between p q d)
  added-at d l m =
      let w : 0 < width p q = omega (arith, h.farther) in
      let narrow : width p q - 1 ≤ 3000 = omega (arith, h.deviation_most) in
      let near : d - p.deviation ≤ 3000 = omega (arith, h.deviation_most) in
      line-value (2 ^ 32) (factor * p.share) (rise factor p q) (width p q) (d - p.deviation) w (omega (arith, mul-le-mul narrow near))
      ∙ (rw (
        mul-add factor (p.share * width p q) ((q.share - p.share) * (d - p.deviation)),
        mul_assoc factor p.share (width p q),
        mul_assoc factor (q.share - p.share) (d - p.deviation),
      ))

  added-le : (d : ℕ) → p.deviation ≤ d → d < q.deviation → wholes (first-parts (factor * p.share)) (step factor p q) (d - p.deviation) ≤ 1000 * factor
  added-le d l m =
      rw (added-at d l m)
      (between_le factor p q d (record { farther = h.farther; no_less = h.no_less }) (record { deviation-le = h.deviation_most; share-le = h.share_most }) l m)

  pub fill-fits : FillFits (first-parts (factor * p.share)) (step factor p q) p.deviation q.deviation before
  fill-fits =
      record {
        order = omega (arith, h.farther);
        parts_fit = omega (arith, top-le, div-mul-le_self (rise factor p q * 2 ^ 32) (width p q));
        room = λ d l m. omega (arith, h.room d l, added-le d l m);
      }

  pub filled : {after : List ℕ} →
      Added p.deviation (min (length before) q.deviation) (λ (d : ℕ). wholes (first-parts (factor * p.share)) (step factor p q) (d - p.deviation)) before after →
      Added p.deviation (min (length before) q.deviation) (λ (d : ℕ). response_to factor (between p q d)) before after
  filled a = same-added a _ (λ d l m. added-at d l (omega arith))
