-- Paper 01, "Capability": rooms and points, in kW. Assumes nothing.
use Rattle.std.specs.Prelude.{Bool, false, not, cond, ◌&&◌, ◌||◌, List, [], ◌∷◌, length, Result, ℕ, ◌≤◌, ◌<◌, leb, ltb, eqb, ℤ, pos, neg_ℤ, ◌-ℤ◌}
use Rattle.std.specs.Int.Signed.{le_z}
use Rattle.common.specs.Answer.{Answer, cause, checked, answered}
use Rattle.common.specs.Fraction.{Fraction, whole, on_line, rounded_down}
use Rattle.common.specs.Lists.{every, chain}
use Rattle.signed.specs.Sign.{above, eq_z, within}
use Rattle.capability.specs.declared.Limits.{Limits}
use Rattle.capability.specs.declared.Point.{Point}
use Rattle.capability.specs.declared.Direction.{Direction}
use Rattle.capability.specs.declared.Direction.TheVariants.{Low, High}
use Rattle.capability.specs.declared.DataRefusal.{DataRefusal}

-- ---- headroom and footroom

-- each −2,000,000 to 2,000,000
abbrev pub in_range : ℤ → Bool
in_range z = within (neg_ℤ (pos 2000000)) z (pos 2000000)

-- MIL ≤ SIL ≤ 0 ≤ SEL ≤ MEL, with operating level OL in MIL..MEL
unfoldable pub limits_rule : Limits → Bool
limits_rule l =
    every in_range (l.mil ∷ l.sil ∷ l.sel ∷ l.mel ∷ l.ol ∷ [])
    && le_z l.mil l.sil && le_z l.sil (pos 0) && le_z (pos 0) l.sel && le_z l.sel l.mel
    && within l.mil l.ol l.mel

-- SEL = SIL = 0
abbrev pub whole_range : Limits → Bool
whole_range l = eq_z l.sel (pos 0) && eq_z l.sil (pos 0)

-- MEL − OL if SEL = SIL = 0 or OL ≥ SEL; else SIL − OL if OL ≤ SIL; else 0
unfoldable pub headroom : Limits → ℤ
headroom l =
    cond (whole_range l || le_z l.sel l.ol) (l.mel -ℤ l.ol)
    (cond (le_z l.ol l.sil) (l.sil -ℤ l.ol)
    (pos 0))

-- OL − MIL if SEL = SIL = 0 or OL ≤ SIL; else OL − SEL if OL ≥ SEL; else 0
unfoldable pub footroom : Limits → ℤ
footroom l =
    cond (whole_range l || le_z l.ol l.sil) (l.ol -ℤ l.mil)
    (cond (le_z l.sel l.ol) (l.ol -ℤ l.sel)
    (pos 0))

-- direction 1 is low, by headroom; 2 is high, by footroom
abbrev pub direction_rule : ℕ → Bool
direction_rule direction = eqb direction 1 || eqb direction 2

-- the number of each of the code's directions
abbrev pub direction_number : Direction → ℕ
direction_number Low = 1
direction_number High = 2

-- a room is never below 0 where the limits keep their rule
unfoldable pub room_of : ℕ → Limits → ℕ
room_of direction l = above (cond (eqb direction 1) (headroom l) (footroom l))

-- ---- capability

-- 0 to 4,000,000
abbrev pub point_in_range : Point → Bool
point_in_range p = leb p.room 4000000 && leb p.capability 4000000

-- rooms strictly rising, capabilities never falling
abbrev pub rises : Point → Point → Bool
rises p q = ltb p.room q.room && leb p.capability q.capability

-- first room 0
abbrev pub list_rule : List Point → Bool
list_rule [] = false
list_rule (p ∷ ps) = eqb p.room 0 && chain point_in_range rises p ps

-- there are 2 to 5 points
unfoldable pub points_rule : List Point → Bool
points_rule ps = leb 2 (length ps) && leb (length ps) 5 && list_rule ps

abbrev pub line : Point → Point → ℕ → Fraction
line p q room = on_line p.room p.capability q.room q.capability room

-- from two points that follow each other on: linear between points, and past the last on the line of the last two
unfoldable pub capability_from : Point → Point → List Point → ℕ → Fraction
capability_from p q [] room = line p q room
capability_from p q (r ∷ ps) room = cond (leb room q.room) (line p q room) (capability_from q r ps room)

-- fewer than two points break the rule
abbrev pub capability_at : List Point → ℕ → Fraction
capability_at [] room = whole 0
capability_at (p ∷ []) room = whole 0
capability_at (p ∷ q ∷ ps) room = capability_from p q ps room

-- rounded down
unfoldable pub capability_of : List Point → ℕ → ℕ
capability_of ps room = rounded_down (capability_at ps room)

-- ---- the answers: 12 where data break their rule

unfoldable pub room_answer : ℕ → Limits → Answer ℕ
room_answer direction l =
    checked (cause 12 (not (direction_rule direction && limits_rule l)) ∷ []) (room_of direction l)

-- a room is 0 to 4,000,000
unfoldable pub capability_answer : List Point → ℕ → Answer ℕ
capability_answer ps room =
    checked (cause 12 (not (points_rule ps && leb room 4000000)) ∷ []) (capability_of ps room)

-- the number of the code's refusal
abbrev pub data_number : DataRefusal → ℕ
data_number refusal = 12

-- a room or a capability in kW, or the refusal's number
abbrev pub answer_of : Result ℕ DataRefusal → Answer ℕ
answer_of = answered data_number

-- ---- what the private function `on_line` asks

-- what the rule says of two points that follow each other
pub record Segment (p q : Point) : Type 0 where
  pub farther : p.room < q.room
  pub no_less : p.capability ≤ q.capability
  pub room_most : q.room ≤ 4000000
  pub capability_most : q.capability ≤ 4000000
