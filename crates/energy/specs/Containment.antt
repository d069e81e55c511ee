-- Paper 02, No. 4: a table for the containment curve, and responses and bounds by it, in watts by No. 5. Assumes nothing.
use Rattle.std.specs.Prelude.{◌≡◌, Bool, true, false, cond, ◌&&◌, List, [], ◌∷◌, Option, Some, None, ℕ, ◌*◌, ◌≤◌, min, eqb, length, get_or}
use Rattle.common.specs.Fraction.{Fraction, rounded_up}
use Rattle.common.specs.Lists.{every_from}
use Rattle.common.specs.declared.Directions.{Directions}
use Rattle.terms.specs.Terms.{Quantities}
use Rattle.energy.specs.Curve.{points_of, containment_curve, share_at, response, Curves}
use Rattle.energy.specs.Period.{low_deviation, high_deviation, response_sum_by, bounds_of}
use Rattle.energy.specs.Rate.{divisor}
use Rattle.energy.specs.declared.curve.Point.{Point}
use Rattle.energy.specs.declared.curve.Curve.{Curve}

-- ---- the table's rule

-- the share of the stock containment curve at a deviation, an exact fraction
abbrev pub containment_share : ℕ → Fraction
containment_share d = share_at (points_of containment_curve) d

-- an entry is the share times 11,100: both are multiplied by the share's denominator, so that nothing is rounded
abbrev pub entry_rule : ℕ → ℕ → Bool
entry_rule d entry = eqb (entry * (containment_share d).denominator) (11100 * (containment_share d).numerator)

-- 501 numbers, one for each deviation from 0 to 500 mHz
unfoldable pub table_rule : List ℕ → Bool
table_rule table = eqb (length table) 501 && every_from 0 entry_rule table

-- ---- responses and bounds by table

-- the entry that serves a deviation: its own, 500 serving for larger deviations
abbrev pub entry_for : List ℕ → ℕ → ℕ
entry_for table d = get_or table (min d 500) 0

-- 1,000 kW for each MW times the entry, divided by 11,100, rounded up
abbrev pub response_by_table : List ℕ → ℕ → ℕ → ℕ
response_by_table table mw d = rounded_up (1000 * mw * entry_for table d) 11100

abbrev pub same_point : Point → Point → Bool
same_point p q = eqb p.deviation q.deviation && eqb p.share q.share

-- as many points, and place by place the same
unfoldable pub same_points : List Point → List Point → Bool
same_points [] [] = true
same_points [] (q ∷ qs) = false
same_points (p ∷ ps) [] = false
same_points (p ∷ ps) (q ∷ qs) = same_point p q && same_points ps qs

-- a curve decides by its points alone, those past its count ignored
abbrev pub is_containment : Curve → Bool
is_containment c = same_points (points_of c) (points_of containment_curve)

-- a service's response: by table where its curve is the stock containment curve, by interpolation where it is not
abbrev pub service_by_table : List ℕ → ℕ → Curve → ℕ → ℕ
service_by_table table mw c d = cond (is_containment c) (response_by_table table mw d) (response mw c d)

-- with these responses, what `bound` and `bounds_of` are by interpolation
abbrev pub bound_by_table : List ℕ → (ℕ → ℕ) → Quantities → Curves → List ℕ → ℕ
bound_by_table table deviation q cs rs = rounded_up (response_sum_by (service_by_table table) deviation q cs rs) (divisor (length rs))

abbrev pub bounds_by_table : List ℕ → Quantities → Quantities → Curves → List ℕ → Directions ℕ
bounds_by_table table low high cs rs =
    record { low = bound_by_table table low_deviation low cs rs; high = bound_by_table table high_deviation high cs rs }

-- ---- a table in place of the steps

-- where a table is offered for a curve, the responses by it are those of the curve, for every quantity and deviation
abbrev pub Offered : Curve → Option (List ℕ) → Type 0
Offered c None = Unit
Offered c (Some table) = (mw d : ℕ) → response_by_table table mw d ≡ response mw c d

-- ---- what holds of a table that keeps the rule

pub record Serves (table : List ℕ) : Type 0 where
  -- entry d is 11,100 times the share at d
  pub entry : (d : ℕ) → d ≤ 500 → get_or table d 0 * (containment_share d).denominator ≡ 11100 * (containment_share d).numerator
  pub entry_200 : get_or table 200 0 ≡ 555000
  -- there is no other such table
  pub only : (other : List ℕ) → table_rule other ≡ true → other ≡ table
  -- the response by table is that by interpolation, for every quantity, also above 1,000 MW, and every deviation
  pub same_response : (mw d : ℕ) → response_by_table table mw d ≡ response mw containment_curve d
  -- and so are the bounds, for every list of readings
  pub same_bounds : (low high : Quantities) (cs : Curves) (rs : List ℕ) → bounds_by_table table low high cs rs ≡ bounds_of low high cs rs

abbrev pub TableServes : Type 0
TableServes = (table : List ℕ) → table_rule table ≡ true → Serves table
