-- Paper 02, No. 5: "Small contracts lose too much when each reading is rounded up to a kilowatt"; "Bounds can only fall or stay".
-- 01's rule stands here for this comparison alone. Assumes nothing.
use Rattle.std.specs.Prelude.{List, ℕ, ◌+◌, ◌*◌, ◌≤◌, length}
use Rattle.common.specs.Fraction.{rounded_up}
use Rattle.terms.specs.Terms.{Quantities}
use Rattle.energy.specs.Curve.{points_of, share_at, response_to, Curves}
use Rattle.energy.specs.Period.{response_sum_by, bound}
use Rattle.energy.specs.declared.curve.Curve.{Curve}

-- 01: a service's response is its MW times the share, in kW, rounded up after the one division
abbrev pub kilowatts : ℕ → Curve → ℕ → ℕ
kilowatts mw c d = response_to mw (share_at (points_of c) d)

-- the sum over readings and services is divided by 7,200, or 72,000 at twenty readings a second, rounded up once
unfoldable pub bound_by_kilowatts : (ℕ → ℕ) → Quantities → Curves → List ℕ → ℕ
bound_by_kilowatts deviation q cs rs = rounded_up (response_sum_by kilowatts deviation q cs rs) (2 * length rs)

pub record Compared (deviation : ℕ → ℕ) (q : Quantities) (cs : Curves) (rs : List ℕ) : Type 0 where
  -- a bound falls or stays
  pub no_more : bound deviation q cs rs ≤ bound_by_kilowatts deviation q cs rs
  -- by at most 2 kWh: half an hour of less than a kilowatt for each of three services, and the last rounding
  pub by_two : bound_by_kilowatts deviation q cs rs ≤ bound deviation q cs rs + 2

-- in either direction, for every quantity, curve and list of readings, accepted or not, and so for either rate
abbrev pub BoundsFall : Type 0
BoundsFall = (deviation : ℕ → ℕ) (q : Quantities) (cs : Curves) (rs : List ℕ) → Compared deviation q cs rs
