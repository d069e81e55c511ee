-- The loop of `fill`: after i turns the first i rows are there. Assumes nothing.
use mathlib.Core.Path.{◌≡◌, refl, ap, ◌∙◌}
use mathlib.Core.List.{List, map}
use Prim.Native.Nat.{ℕ, suc, ◌+◌, ◌-◌, ◌≤◌, ◌<◌, ◌^◌}
use native.Mathlib.Omega.{arith}
use lib.IntN.{pos, ◌-ℤ◌}
use lib.ListN.{get_or, set, take, length, length-set, replicate}
use Rattle.common.specs.Periods.{periods_to, of_period}
use Rattle.common.proofs.Periods.{filled_next, filled-all}
use Rattle.requirement.specs.Requirement.{row_from, row_of}
use Rattle.requirement.specs.declared.Row.{Row}
use Rattle.requirement.proofs.Shortfall.{shortfall}
use Rattle.requirement.proofs.Passing.{Passed, none_passed, row_is, one-passed}

module _ (REV ER : ℕ) (bounds : List ℕ) where
  abbrev rows_to : ℕ → List Row
  rows_to n = map (row_of REV ER (of_period bounds)) (periods_to n)

  pub record Filled (rows : List Row) (backs : List ℕ) (l s i : ℕ) : Type 0 where
    pub passed : Passed REV ER bounds backs l s i
    pub rows_long : length rows ≡ 8
    pub filled : take i rows ≡ rows_to i

  pub begin : (rows : List Row) → length rows ≡ 8 → Filled rows (replicate 12 0) 0 0 0
  unfolding periods_to
  begin rows h = record { passed = none_passed REV ER bounds; rows_long = h; filled = refl }

  pub done : {rows : List Row} {backs : List ℕ} {l s i : ℕ} → Filled rows backs l s i → 8 ≤ i → (rows ≡ rows_to 8) × (s ≡ shortfall ER (of_period bounds) 9)
  done {rows} {i} f h =
      let p : i ≡ 8 = omega (arith, f.passed.within) in
      (filled-all _ rows i 8 f.rows_long p f.filled, f.passed.short-is ∙ ap (λ (n : ℕ). shortfall ER (of_period bounds) (suc n)) p)

  pub step : {rows : List Row} {backs : List ℕ} {l s i : ℕ} (f : Filled rows backs l s i) → i < 8 → (row : Row)
      → row ≡ row_from ER (get_or bounds i 0) l (get_or backs i 0) (pos REV -ℤ pos s) → get_or bounds i 0 < 2 ^ 32
      → Filled (set rows i row) (set backs (i + 4) row.sched) (l + get_or bounds i 0 - row.sched) (s + get_or bounds i 0 - get_or backs i 0) (i + 1)
  step {rows} {i = i} f h row p small =
      record {
        passed = one-passed REV ER bounds f.passed h row p small;
        rows_long = length-set rows i row ∙ f.rows_long;
        filled = filled_next _ rows i row (omega (arith, f.rows_long)) f.filled (row_is REV ER bounds f.passed h row p);
      }
