-- The loop of `fill_by_steps`: below the point `last`, a service's responses were added. Assumes nothing.
use mathlib.Core.Path.{◌≡◌, refl, sym, ◌∙◌}
use mathlib.Core.Bool.{true}
use mathlib.Core.List.{List, ◌∷◌}
use Prim.Native.Nat.{ℕ, ◌+◌, ◌-◌, ◌*◌, ◌^◌, ◌≤◌, ◌<◌, min}
use native.Mathlib.Nat.{le_refl, mul-le-mul, mul-zero, zero-mul}
use native.Mathlib.Omega.{arith}
use lib.ListN.{length, get_or}
use Rattle.energy.specs.Curve.{blank, points_of, points_rule, between, share_at, response_to, response}
use Rattle.energy.specs.Table.{Added, wholes, FillFits, SegmentFits, ServiceFits}
use Rattle.energy.specs.declared.curve.Point.{Point}
use Rattle.energy.specs.declared.curve.Curve.{Curve}
use Rattle.energy.proofs.FixedPoint.{start-value}
use Rattle.energy.proofs.Points.{Reached, below-first, reach-first, flat, last-range, next-rises, next-range, here, reach-next}
use Rattle.energy.proofs.Rounding.{up-zero, up_one}
use Rattle.energy.proofs.Segments.{first-parts}
use Rattle.energy.proofs.Tables.{none-added, same-added, then-added}

module _ (first : Point) (others : List Point) (factor : ℕ) (before : List ℕ) where
  abbrev added : ℕ → ℕ
  added d = response_to factor (share_at (first ∷ others) d)

  pub record Filled (table : List ℕ) (last : Point) (i : ℕ) : Type 0 where
    pub long : length table ≡ length before
    pub reached : Reached first others last i
    pub so_far : Added 0 (min (length before) last.deviation) added before table

  pub begin : points_rule (first ∷ others) ≡ true → Filled before first 0
  begin rule =
      record {
        long = refl;
        reached = reach-first first others rule;
        so_far = none-added (min (length before) first.deviation) (λ d l m. rw (below-first first others d (omega arith)) (up_one (factor * 0) ∙ mul-zero factor));
      }

  module _ {table : List ℕ} {last : Point} {i : ℕ} (f : Filled table last i) where
    -- ---- a turn

    module _ (h : i < length others) where
      abbrev at : Point
      at = get_or others i blank

      pub segment-fits : {c : Curve} → ServiceFits factor c before → SegmentFits factor last at table
      segment-fits s =
          let r = next-rises first others f.reached h in
          let q = next-range first others f.reached h in
          record {
            factor_most = s.factor_most;
            farther = r.farther;
            no_less = r.no_less;
            deviation_most = q.deviation-le;
            share_most = q.share-le;
            room = λ d l. omega (arith, f.so_far.above d (omega arith), s.room d);
          }

      pub turn : {after : List ℕ} → length after ≡ length table →
          Added last.deviation (min (length table) at.deviation) (λ (d : ℕ). response_to factor (between last at d)) table after →
          Filled after at (i + 1)
      turn long a =
          let r = next-rises first others f.reached h in
          record {
            long = long ∙ f.long;
            reached = reach-next first others f.reached h;
            so_far =
                then-added (length before) last.deviation f.so_far
                (same-added (rw f.long at a) _ (λ d l m. rw (here first others f.reached h d l (omega arith)))) (omega arith)
                (omega arith);
          }

    -- ---- past the last point

    pub flat-le : factor * last.share ≤ 1000 * factor
    flat-le = omega (arith, mul-le-mul (le_refl factor) (last-range first others f.reached).share-le)

    abbrev flat-parts : ℕ
    flat-parts = first-parts (factor * last.share)

    flat-at : (d : ℕ) → wholes flat-parts 0 (d - last.deviation) ≡ factor * last.share
    flat-at d = start-value (2 ^ 32) (factor * last.share) (d - last.deviation) (omega arith)

    pub fill-fits : {c : Curve} → ServiceFits factor c before → FillFits flat-parts 0 last.deviation (length table) table
    fill-fits s =
        record {
          order = omega arith;
          parts_fit = omega (arith, flat-le, s.factor_most);
          room = λ d l m. omega (arith, flat-at d, flat-le, f.so_far.above d (omega arith), s.room d);
        }

    pub done : {after : List ℕ} → length others ≤ i →
        Added last.deviation (min (length table) (length table)) (λ (d : ℕ). wholes flat-parts 0 (d - last.deviation)) table after →
        Added 0 (length before) added before after
    done h a =
        let all : min (length table) (length table) ≡ length before = omega (arith, f.long) in
        then-added (length before) last.deviation f.so_far
        (same-added (rw all at a) _ (λ d l m. rw (flat-at d, flat first others f.reached h d l) (sym (up_one (factor * last.share))))) (omega arith) (omega arith)

-- 0 MW respond with nothing
pub none : (c : Curve) (end : ℕ) {before : List ℕ} {mw : ℕ} → mw ≡ 0 → Added 0 end (response mw c) before before
unfolding response
none c end h = none-added end (λ d l m. rw (h, zero-mul (share_at (points_of c) d).numerator) (up-zero (share_at (points_of c) d).denominator))
