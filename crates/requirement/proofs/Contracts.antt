-- A contract of paper 02, No. 10, by its bounds and its shortfall. Assumes nothing.
use mathlib.Core.Path.{◌≡◌}
use Prim.Native.Nat.{ℕ, suc, ◌+◌, ◌-◌, ◌≤◌}
use Rattle.common.specs.Periods.{of_period}
use Rattle.signed.specs.Sign.{above, below}
use Rattle.requirement.specs.Requirement.{back}
use Rattle.requirement.specs.Stacking.{Contract, start_in, left_in}
use Rattle.requirement.proofs.Shortfall.{shortfall, left_over, back_none, four-on, start-sum}

module _ (c : Contract) where
  abbrev pub bound_in : ℕ → ℕ
  bound_in = of_period c.bounds

  abbrev pub back_in : ℕ → ℕ
  back_in = back c.ER bound_in

  abbrev pub short_in : ℕ → ℕ
  short_in = shortfall c.ER bound_in

  pub over : (i : ℕ) → left_in c (suc (suc i)) ≡ left_in c (suc i) + bound_in (suc i) - c.ER
  over = left_over c.ER bound_in

  pub none-back : (i : ℕ) → i ≤ 4 → back_in i ≡ 0
  none-back = back_none c.ER bound_in

  pub short-later : (i : ℕ) → short_in (suc (suc (suc (suc (suc i)))))
      ≡ left_in c (suc i) + bound_in (suc i) + bound_in (suc (suc i)) + bound_in (suc (suc (suc i))) + bound_in (suc (suc (suc (suc i))))
  short-later = four-on c.ER bound_in

  pub start-short : (i : ℕ) → above (start_in c i) + short_in i ≡ c.REV + below (start_in c i)
  start-short = start-sum c.REV c.ER bound_in
