-- What the private functions of table.rt ask and make: a period's energy by a table of responses for each direction; and paper 02,
-- No. 3: the sums from the last reading back. Assumes nothing.
use Rattle.std.specs.Prelude.{◌≡◌, true, List, [], ◌∷◌, map, ℕ, ◌+◌, ◌-◌, ◌*◌, ◌/◌, ◌^◌, ◌≤◌, ◌<◌, min, max, length, get_or, drop}
use Rattle.common.specs.Lists.{sum}
use Rattle.terms.specs.Terms.{Q, Quantities}
use Rattle.common.specs.declared.Directions.{Directions}
use Rattle.energy.specs.Containment.{response_by_table}
use Rattle.energy.specs.Curve.{curve_rule, curves_rule, Curves}
use Rattle.energy.specs.Period.{low_deviation, high_deviation, responses, response_sum}
use Rattle.energy.specs.declared.curve.Point.{Point}
use Rattle.energy.specs.declared.curve.Curve.{Curve}

-- ---- the largest deviations

-- the largest of some numbers, 0 where there is none
unfoldable pub largest : List ℕ → ℕ
largest [] = 0
largest (n ∷ ns) = max n (largest ns)

-- a direction's largest deviation
abbrev pub largest_deviation : (ℕ → ℕ) → List ℕ → ℕ
largest_deviation deviation rs = largest (map deviation rs)

abbrev pub largest_deviations : List ℕ → Directions ℕ
largest_deviations rs = record { low = largest_deviation low_deviation rs; high = largest_deviation high_deviation rs }

-- ---- a table of responses: entry d is that to a deviation of d

-- f was added to the entries from `from` up to `end`, and to no other
pub record Added (from end : ℕ) (f : ℕ → ℕ) (before after : List ℕ) : Type 0 where
  pub inside : (d : ℕ) → from ≤ d → d < end → get_or after d 0 ≡ get_or before d 0 + f d
  pub below : (d : ℕ) → d < from → get_or after d 0 ≡ get_or before d 0
  pub above : (d : ℕ) → end ≤ d → get_or after d 0 ≡ get_or before d 0

-- as much more fits each entry
abbrev pub Room : ℕ → List ℕ → Type 0
Room more table = (d : ℕ) → get_or table d 0 + more < 2 ^ 32

-- a response that rises by steps, counted in parts of which 2^32 are a whole: the whole ones after x steps
abbrev pub wholes : ℕ → ℕ → ℕ → ℕ
wholes first step x = (first + step * x) / 2 ^ 32

-- `fill`: `to` is not before `from`, as far as the table goes, the parts stay a u64, and what is added fits
pub record FillFits (first step from to : ℕ) (table : List ℕ) : Type 0 where
  pub order : min (length table) from ≤ to
  pub parts_fit : first + step * (to - from) < 2 ^ 64
  pub room : (d : ℕ) → from ≤ d → d < to → get_or table d 0 + wholes first step (d - from) < 2 ^ 32

-- `fill_segment`: a factor of which 1,000 per mille are a u32, two points as the rule has them, and room from the first on
pub record SegmentFits (factor : ℕ) (p q : Point) (table : List ℕ) : Type 0 where
  pub factor_most : factor ≤ 1000000
  pub farther : p.deviation < q.deviation
  pub no_less : p.share ≤ q.share
  pub deviation_most : q.deviation ≤ 3000
  pub share_most : q.share ≤ 1000
  pub room : (d : ℕ) → p.deviation ≤ d → get_or table d 0 + 1000 * factor < 2 ^ 32

-- `fill_by_steps`, and for 1,000 times its MW `fill_service`: a curve that keeps its rule, and room for 1,000 per mille of such a factor
pub record ServiceFits (factor : ℕ) (c : Curve) (table : List ℕ) : Type 0 where
  pub factor_most : factor ≤ 1000000
  pub rule : curve_rule c ≡ true
  pub room : Room (1000 * factor) table

-- `fill_by_table`: at most 1,000 MW, and room for the responses by a table
pub record TableFits (mw : ℕ) (entries : List ℕ) (table : List ℕ) : Type 0 where
  pub mw_most : mw ≤ 1000
  pub room : (d : ℕ) → get_or table d 0 + response_by_table entries mw d < 2 ^ 32

-- `fill_direction`: at most 1,000 MW, curves that keep their rule, and room for all of it
pub record DirectionFits (q : Quantities) (cs : Curves) (most : ℕ) (table : List ℕ) : Type 0 where
  pub quantity_most : Q q ≤ 1000
  pub rules : curves_rule cs ≡ true
  pub there : most < length table
  pub room : Room (1000000 * Q q) table

-- ---- sums over the readings

-- what a table has for a direction's deviations, summed
abbrev pub table_sum : (ℕ → ℕ) → List ℕ → List ℕ → ℕ
table_sum deviation table rs = sum (map (λ (r : ℕ). get_or table (deviation r) 0) rs)

abbrev pub table_sums : List ℕ → List ℕ → List ℕ → Directions ℕ
table_sums lows highs rs = record { low = table_sum low_deviation lows rs; high = table_sum high_deviation highs rs }

-- `sum_table`: every deviation is in its table, and the sums stay a u64
pub record Covered (lows highs rs : List ℕ) : Type 0 where
  pub low_there : largest_deviation low_deviation rs < length lows
  pub high_there : largest_deviation high_deviation rs < length highs
  pub count_most : length rs ≤ 2 ^ 32

abbrev pub response_sums : Quantities → Quantities → Curves → List ℕ → Directions ℕ
response_sums low high cs rs = record { low = response_sum low_deviation low cs rs; high = response_sum high_deviation high cs rs }

-- `sum_responses`: the largest deviations are those of the readings, and neither is above 3,000
pub record WithinRange (most : Directions ℕ) (rs : List ℕ) : Type 0 where
  pub same : most ≡ largest_deviations rs
  pub low_most : most.low ≤ 3000
  pub high_most : most.high ≤ 3000
  pub count_most : length rs ≤ 2 ^ 32

-- ---- the sums from the last reading back

-- the sums from a place on, counted from 0: those of the readings from the one at that place to the last, and no others. By its
-- tables the loop of `sum_table` has them at each step, from the present reading's place on.
abbrev pub sums_from : ℕ → (List ℕ → Directions ℕ) → List ℕ → Directions ℕ
sums_from place sums rs = sums (drop place rs)

-- a table has a direction's response to each deviation up to `most`
abbrev pub HasResponses : Quantities → Curves → ℕ → List ℕ → Type 0
HasResponses q cs most table = (d : ℕ) → d ≤ most → get_or table d 0 ≡ responses q cs d

-- by such tables they are, from each place on, the sums over readings and services that 01 speaks of
abbrev pub RunningSums : Type 0
RunningSums =
    (low high : Quantities) (cs : Curves) (lows highs rs : List ℕ) →
    HasResponses low cs (largest_deviation low_deviation rs) lows →
    HasResponses high cs (largest_deviation high_deviation rs) highs →
    (place : ℕ) → sums_from place (table_sums lows highs) rs ≡ sums_from place (response_sums low high cs) rs
