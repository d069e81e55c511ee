-- The contracted quantity of a unit, in kW: paper 01, "Capability", and paper 02, No. 6. Assumes nothing.
use Rattle.std.specs.Prelude.{◌≡◌, Bool, true, not, cond, ◌&&◌, ◌||◌, List, [], ◌∷◌, Result, ℕ, ◌≤◌, ◌<◌, min, leb, eqb}
use Rattle.common.specs.Answer.{Answer, given, Cause, cause, checked, answered}
use Rattle.capability.specs.declared.Limits.{Limits}
use Rattle.capability.specs.declared.Point.{Point}
use Rattle.capability.specs.declared.Energies.{Energies}
use Rattle.capability.specs.declared.Availability.{Availability}
use Rattle.capability.specs.declared.Availability.TheVariants.{Unavailable, Available}
use Rattle.capability.specs.declared.QuantityRefusal.{QuantityRefusal}
use Rattle.capability.specs.declared.QuantityRefusal.TheVariants.{Data, Energy}
use Rattle.capability.specs.Capability.{limits_rule, direction_rule, room_of, points_rule, capability_of}

-- ---- 01

-- the smaller of capability and the submitted limit
unfoldable pub capability_or_limit : ℕ → Limits → List Point → ℕ → ℕ
capability_or_limit direction l ps limit = min (capability_of ps (room_of direction l)) limit

-- what it asks of the data; the submitted limit is 0 to 4,000,000
unfoldable pub data_rule : ℕ → Limits → List Point → ℕ → Bool
data_rule direction l ps limit = direction_rule direction && limits_rule l && points_rule ps && leb limit 4000000

-- ---- 02, No. 6

-- 1 yes, 0 no
abbrev pub availability_rule : ℕ → Bool
availability_rule available = leb available 1

-- the number of each of the code's cases
abbrev pub availability_number : Availability → ℕ
availability_number Unavailable = 0
availability_number Available = 1

-- each 0 to 10,000,000 kWh, whatever the direction
abbrev pub energies_rule : Energies → Bool
energies_rule e = leb e.offer 10000000 && leb e.bid 10000000

-- a direction's own energy: offer for low, bid for high
abbrev pub energy_of : ℕ → Energies → ℕ
energy_of direction e = cond (eqb direction 1) e.offer e.bid

-- the unit is unavailable, or the direction's own energy is zero
abbrev pub no_quantity : ℕ → ℕ → Energies → Bool
no_quantity direction available e = eqb available 0 || eqb (energy_of direction e) 0

-- zero for such a unit; otherwise as in 01
unfoldable pub quantity_of : ℕ → ℕ → Energies → Limits → List Point → ℕ → ℕ
quantity_of direction available e l ps limit = cond (no_quantity direction available e) 0 (capability_or_limit direction l ps limit)

-- 12: another direction or availability, or data that break their rule. 18: an energy above its limit.
abbrev pub quantity_causes : ℕ → ℕ → Energies → Limits → List Point → ℕ → List Cause
quantity_causes direction available e l ps limit =
    cause 12 (not (data_rule direction l ps limit && availability_rule available))
    ∷ cause 18 (not (energies_rule e))
    ∷ []

unfoldable pub quantity_answer : ℕ → ℕ → Energies → Limits → List Point → ℕ → Answer ℕ
quantity_answer direction available e l ps limit =
    checked (quantity_causes direction available e l ps limit) (quantity_of direction available e l ps limit)

-- the number of each of the code's refusals
abbrev pub quantity_number : QuantityRefusal → ℕ
quantity_number Data = 12
quantity_number Energy = 18

-- a quantity in kW, or the refusal's number
abbrev pub answer_of_quantity : Result ℕ QuantityRefusal → Answer ℕ
answer_of_quantity = answered quantity_number

-- ---- beside 01's quantity

-- 01's contracted quantity, which is here for the laws alone
unfoldable pub quantity_by01 : ℕ → Limits → List Point → ℕ → Answer ℕ
quantity_by01 direction l ps limit =
    checked (cause 12 (not (data_rule direction l ps limit)) ∷ []) (capability_or_limit direction l ps limit)

-- An available unit that has energy has 01's quantity; no unit has more; and energy for bids does not matter in the low direction,
-- nor energy for offers in the high one. `quantity-laws` in proofs/QuantityLaws.antt proves it for every direction, limits, points
-- and submitted limit, good or bad.
pub record QuantityLaws (direction : ℕ) (l : Limits) (ps : List Point) (limit : ℕ) : Type 0 where
  -- with both energies above 0, and neither above its limit, the quantity of an available unit is 01's, and so is its refusal
  pub with_energy : (e : Energies) → energies_rule e ≡ true → 0 < e.offer → 0 < e.bid
      → quantity_answer direction 1 e l ps limit ≡ quantity_by01 direction l ps limit
  -- a quantity is never above 01's, which is given wherever one is
  pub never_above : (available : ℕ) (e : Energies) (kw : ℕ) → quantity_answer direction available e l ps limit ≡ given kw
      → (quantity_by01 direction l ps limit ≡ given (capability_or_limit direction l ps limit))
      × (kw ≤ capability_or_limit direction l ps limit)
  -- only the direction's own energy matters, as far as neither is above its limit
  pub own_energy : (available : ℕ) (e f : Energies) → energies_rule e ≡ true → energies_rule f ≡ true
      → energy_of direction e ≡ energy_of direction f
      → quantity_answer direction available e l ps limit ≡ quantity_answer direction available f l ps limit
