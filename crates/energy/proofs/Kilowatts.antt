-- Paper 02, No. 5: bounds by watts beside 01's bounds by kilowatts, `bounds-fall`. Assumes nothing.
use mathlib.Core.List.{List, [], ◌∷◌}
use Prim.Native.Nat.{ℕ, zero, suc, ◌+◌, ◌*◌, ◌≤◌, ◌<◌}
use native.Mathlib.Nat.{lt_of_mul-lt-mul_left, mul_assoc}
use native.Mathlib.Omega.{arith}
use lib.ListN.{length}
use Rattle.common.specs.Fraction.{rounded_up}
use Rattle.common.specs.Lists.{sum}
use Rattle.terms.specs.Terms.{Quantities}
use Rattle.energy.specs.Curve.{points_of, share_at, response, Curves}
use Rattle.energy.specs.Period.{responses_by, responses, response_sum_by, response_sum, bound}
use Rattle.energy.specs.Rate.{divisor}
use Rattle.energy.specs.Kilowatts.{kilowatts, bound_by_kilowatts, BoundsFall}
use Rattle.energy.specs.declared.curve.Curve.{Curve}
use Rattle.energy.proofs.Rounding.{up_none, up-ge, up-near, up_le}

-- watts that n responses come to, beside the kilowatts that they come to by 01's rule: each of these is less than a kW more
record Beside (n watts kw : ℕ) : Type 0 where
  no_more : watts ≤ 1000 * kw
  near : 1000 * kw ≤ watts + 999 * n

-- ---- one response

quotients : (a b : ℕ) → Beside 1 (rounded_up (1000 * a) b) (rounded_up a b)
quotients a zero = rw (up_none (1000 * a), up_none a) (record { no_more = omega arith; near = omega arith })
quotients a (suc n) =
    let b = suc n in
    let watts = rounded_up (1000 * a) b in
    let kw = rounded_up a b in
    let over : b * (1000 * kw) < b * (watts + 1000) = omega (arith, up-near a b (omega arith), up-ge (1000 * a) b (omega arith)) in
    record {
      no_more = up_le (1000 * a) b (1000 * kw) (omega arith) (omega (arith, up-ge a b (omega arith)));
      near = omega (arith, lt_of_mul-lt-mul_left b over);
    }

service : (mw : ℕ) (c : Curve) (d : ℕ) → Beside 1 (response mw c d) (kilowatts mw c d)
unfolding response
service mw c d =
    let share = share_at (points_of c) d in
    rw (mul_assoc 1000 mw share.numerator) (quotients (mw * share.numerator) share.denominator)

-- ---- a direction's three, and those to all readings

direction : (q : Quantities) (cs : Curves) (d : ℕ) → Beside 3 (responses q cs d) (responses_by kilowatts q cs d)
direction q cs d =
    let dc = service q.dc cs.dc d in
    let dm = service q.dm cs.dm d in
    let dr = service q.dr cs.dr d in
    record {
      no_more = omega (arith, dc.no_more, dm.no_more, dr.no_more);
      near = omega (arith, dc.near, dm.near, dr.near);
    }

sums : (deviation : ℕ → ℕ) (q : Quantities) (cs : Curves) (rs : List ℕ) →
    Beside (3 * length rs) (response_sum deviation q cs rs) (response_sum_by kilowatts deviation q cs rs)
unfolding sum
sums deviation q cs [] = record { no_more = omega arith; near = omega arith }
sums deviation q cs (r ∷ rs) =
    let first = direction q cs (deviation r) in
    let others = sums deviation q cs rs in
    record {
      no_more = omega (arith, first.no_more, others.no_more);
      near = omega (arith, first.near, others.near);
    }

-- ---- their energies over a period of n readings

fall : (n : ℕ) {watts kw : ℕ} → Beside (3 * n) watts kw → rounded_up watts (divisor n) ≤ rounded_up kw (2 * n)
fall zero {watts} s = rw (up_none watts) (omega arith)
fall (suc m) {watts} {kw} s =
    let n = suc m in
    up_le watts (divisor n) (rounded_up kw (2 * n)) (omega arith) (omega (arith, s.no_more, up-ge kw (2 * n) (omega arith)))

by_two : (n : ℕ) {watts kw : ℕ} → Beside (3 * n) watts kw → rounded_up kw (2 * n) ≤ rounded_up watts (divisor n) + 2
by_two zero {watts} {kw} s = rw (up_none kw) (omega arith)
by_two (suc m) {watts} {kw} s =
    let n = suc m in
    up_le kw (2 * n) (rounded_up watts (divisor n) + 2) (omega arith) (omega (arith, s.near, up-ge watts (divisor n) (omega arith)))

-- paper 02, No. 5
pub bounds-fall : BoundsFall
unfolding bound bound_by_kilowatts
bounds-fall deviation q cs rs =
    let s = sums deviation q cs rs in
    record { no_more = fall (length rs) s; by_two = by_two (length rs) s }
