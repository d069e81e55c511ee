-- A period's sums, by table and by response, and the answer that they give. Assumes nothing.
use mathlib.Core.Path.{◌≡◌, refl, ap}
use mathlib.Core.Bool.{true, false, ◌||◌}
use mathlib.Core.List.{List, [], ◌∷◌}
use Prim.Native.Nat.{ℕ, ◌+◌, ◌*◌, ◌≤◌}
use native.Mathlib.Nat.{mul-le-mul_right}
use native.Mathlib.Omega.{arith}
use lib.Dec.{leb, ltb}
use lib.ListN.{length, drop, replicate}
use Rattle.common.specs.Answer.{refused, cause, checked}
use Rattle.common.specs.Lists.{sum}
use Rattle.common.proofs.Tests.{not-leb, not-both}
use Rattle.terms.specs.Terms.{Q, Quantities}
use Rattle.common.specs.declared.Directions.{Directions}
use Rattle.energy.specs.Curve.{curves_rule, Curves}
use Rattle.energy.specs.Period.{good_readings, low_deviation, high_deviation, responses, response_sum, bounds_of, BeforeReadings, from_readings}
use Rattle.energy.specs.Rate.{is_period_count}
use Rattle.energy.specs.Table.{largest, largest_deviation, largest_deviations, Added, DirectionFits, table_sum, table_sums, response_sums, WithinRange, HasResponses, RunningSums}
use Rattle.energy.proofs.Largest.{drop_le, every-within}
use Rattle.energy.proofs.Responses.{response-sum-le}
use Rattle.energy.proofs.Tables.{zeros-at}

-- by a table that has a direction's responses up to the largest deviation
by-table : (deviation : ℕ → ℕ) (q : Quantities) (cs : Curves) {most : ℕ} (table : List ℕ) → HasResponses q cs most table →
    (rs : List ℕ) → largest_deviation deviation rs ≤ most → table_sum deviation table rs ≡ response_sum deviation q cs rs
unfolding sum largest
by-table deviation q cs table has [] h = refl
by-table deviation q cs table has (r ∷ rs) h = rw (has (deviation r) (omega arith), by-table deviation q cs table has rs (omega arith))

-- a table of zeros to which they were added has them
has-responses : (q : Quantities) (cs : Curves) (n : ℕ) {most : ℕ} (table : List ℕ) → Added 0 (most + 1) (responses q cs) (replicate n 0) table →
    {less : ℕ} → less ≤ most → HasResponses q cs less table
has-responses q cs n table a l d h = omega (arith, a.inside d (omega arith) (omega arith), zeros-at n d)

-- ---- both directions

-- paper 02, No. 3
pub running-sums : RunningSums
running-sums low high cs lows highs rs l m place =
    rw (
      by-table low_deviation low cs lows l (drop place rs) (drop_le low_deviation rs place),
      by-table high_deviation high cs highs m (drop place rs) (drop_le high_deviation rs place),
    )

-- a table of zeros has room for a direction
pub zeros-fit : (q : Quantities) (cs : Curves) (most : ℕ) → Q q ≤ 1000 → curves_rule cs ≡ true → most ≤ 3000 → DirectionFits q cs most (replicate 3001 0)
zeros-fit q cs most few rules near =
    record {
      quantity_most = few;
      rules = rules;
      there = omega arith;
      room = λ d. omega (arith, zeros-at 3001 d);
    }

module _ {most : Directions ℕ} {rs : List ℕ} (h : WithinRange most rs) where
  low-le : largest_deviation low_deviation rs ≤ most.low
  low-le = omega (arith, ap (λ (d : Directions ℕ). d.low) h.same)

  high_le : largest_deviation high_deviation rs ≤ most.high
  high_le = omega (arith, ap (λ (d : Directions ℕ). d.high) h.same)

  module _ (lows highs : List ℕ) where
    pub same-sums : (n : ℕ) (low high : Quantities) (cs : Curves) →
        Added 0 (most.low + 1) (responses low cs) (replicate n 0) lows →
        Added 0 (most.high + 1) (responses high cs) (replicate n 0) highs →
        table_sums lows highs rs ≡ response_sums low high cs rs
    same-sums n low high cs a b =
        running-sums low high cs lows highs rs (has-responses low cs n lows a low-le) (has-responses high cs n highs b high_le) 0

-- ---- the answer

module _ (low high : Quantities) (cs : Curves) (rs : List ℕ) where
  -- what both directions of at most 1,000 MW respond
  pub sums-most : BeforeReadings low high cs → (sums : Directions ℕ) → sums ≡ response_sums low high cs rs →
      (sums.low ≤ 1000000000 * length rs) × (sums.high ≤ 1000000000 * length rs)
  sums-most b sums same =
      let low_most : 1000000 * Q low ≤ 1000000000 = omega (arith, b.low_most) in
      let high_most : 1000000 * Q high ≤ 1000000000 = omega (arith, b.high_most) in
      rw same (
        omega (arith, response-sum-le low cs b.curves low_deviation rs, mul-le-mul_right (length rs) low_most),
        omega (arith, response-sum-le high cs b.curves high_deviation rs, mul-le-mul_right (length rs) high_most),
      )

  pub wrong-count : is_period_count (length rs) ≡ false → refused 6 ≡ from_readings low high cs rs
  unfolding good_readings
  wrong-count h = rw h

  -- the cause as the code tests it
  pub by_tests : is_period_count (length rs) ≡ true → (most : Directions ℕ) → most ≡ largest_deviations rs →
      from_readings low high cs rs ≡ checked (cause 6 (ltb 3000 most.low || ltb 3000 most.high) ∷ []) (bounds_of low high cs rs)
  unfolding good_readings
  by_tests h most same =
      rw (
        same,
        h,
        every-within rs,
        not-both (leb (largest_deviation low_deviation rs) 3000) (leb (largest_deviation high_deviation rs) 3000),
        not-leb (largest_deviation low_deviation rs) 3000,
        not-leb (largest_deviation high_deviation rs) 3000,
      )
