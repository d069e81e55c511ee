-- `quantity-laws`: the contracted quantity beside 01's. Assumes nothing.
use mathlib.Core.Path.{◌≡◌}
use mathlib.Core.Bool.{Bool, true, ◌&&◌, and-true}
use mathlib.Core.List.{List}
use Prim.Native.Nat.{ℕ, ◌≤◌, ◌<◌}
use native.Mathlib.Omega.{arith}
use borrow.Author.Tests.{ne_eqb, not-false}
use lib.Dec.{eqb}
use Rattle.common.specs.Answer.{given, Cause}
use Rattle.common.proofs.Answers.{given-clear, given-value, clear_of}
use Rattle.common.proofs.Tests.{both_true, by-test}
use Rattle.capability.specs.declared.Limits.{Limits}
use Rattle.capability.specs.declared.Point.{Point}
use Rattle.capability.specs.declared.Energies.{Energies}
use Rattle.capability.specs.Quantity.{capability_or_limit, data_rule, availability_rule, energies_rule, energy_of, no_quantity, quantity_of, quantity_causes, quantity_answer, quantity_by01, QuantityLaws}

module _ (direction : ℕ) (l : Limits) (ps : List Point) (limit : ℕ) where
  abbrev most : ℕ
  most = capability_or_limit direction l ps limit

  abbrev good : Bool
  good = data_rule direction l ps limit

  limit-most : most ≤ limit
  unfolding capability_or_limit
  limit-most = omega arith

  with_energy : (e : Energies) → energies_rule e ≡ true → 0 < e.offer → 0 < e.bid
      → quantity_answer direction 1 e l ps limit ≡ quantity_by01 direction l ps limit
  unfolding quantity_answer quantity_of quantity_by01
  with_energy e rule offer bid =
      let some : 0 < energy_of direction e = by-test (λ (n : ℕ). 0 < n) (eqb direction 1) e.offer e.bid (λ _. offer) (λ _. bid) in
      rw (and-true good, rule, ne_eqb (energy_of direction e) 0 (λ none. omega (arith, none)))

  -- ---- where a quantity is given
  module _ (available : ℕ) (e : Energies) (kw : ℕ) (h : quantity_answer direction available e l ps limit ≡ given kw) where
    abbrev causes : List Cause
    causes = quantity_causes direction available e l ps limit

    data-good : good ≡ true
    unfolding quantity_answer
    data-good =
        let passed = clear_of 12 causes (given-clear causes (quantity_of direction available e l ps limit) kw h) in
        (both_true good (availability_rule available) (not-false (good && availability_rule available) passed)).0

    kw-most : kw ≤ most
    unfolding quantity_answer quantity_of
    kw-most =
        rw (← given-value causes (quantity_of direction available e l ps limit) kw h)
        (by-test (λ (n : ℕ). n ≤ most) (no_quantity direction available e) 0 most (λ _. omega arith) (λ _. omega arith))

    never_above : (quantity_by01 direction l ps limit ≡ given most) × (kw ≤ most)
    unfolding quantity_by01
    never_above = (rw data-good, kw-most)

    -- so it fits where the limit does
    pub quantity_most : kw ≤ limit
    quantity_most = omega (arith, kw-most, limit-most)

  own_energy : (available : ℕ) (e f : Energies) → energies_rule e ≡ true → energies_rule f ≡ true → energy_of direction e ≡ energy_of direction f
      → quantity_answer direction available e l ps limit ≡ quantity_answer direction available f l ps limit
  unfolding quantity_answer quantity_of
  own_energy available e f e-rule f-rule same = rw (e-rule, f-rule, same)

pub quantity-laws : (direction : ℕ) (l : Limits) (ps : List Point) (limit : ℕ) → QuantityLaws direction l ps limit
quantity-laws direction l ps limit =
    record {
      with_energy = with_energy direction l ps limit;
      never_above = never_above direction l ps limit;
      own_energy = own_energy direction l ps limit;
    }
