-- The loop of `match_entries`: after i turns, whether the entries of the periods 1 to i are those of their bounds. Assumes nothing.
use mathlib.Core.Path.{◌≡◌, refl}
use mathlib.Core.Bool.{Bool, true, ◌&&◌}
use mathlib.Core.List.{List}
use Prim.Native.Nat.{ℕ, suc, ◌+◌, ◌-◌, ◌≤◌, ◌<◌, ◌^◌}
use native.Mathlib.Numerals.{add-one}
use native.Mathlib.Omega.{arith}
use lib.IntN.{ℤ, pos, ◌-ℤ◌}
use lib.ListN.{get_or, set, replicate}
use Rattle.common.specs.Lists.{every}
use Rattle.common.specs.Periods.{periods_to, of_period}
use Rattle.common.proofs.Periods.{every-next}
use Rattle.requirement.specs.Requirement.{sched, start, row_from, row_of, noted, requirement_in, matched_to}
use Rattle.requirement.specs.declared.Row.{Row}
use Rattle.requirement.proofs.Shortfall.{start_is}
use Rattle.requirement.proofs.Passing.{Passed, none_passed, row_is, one-passed}

module _ (REV ER count : ℕ) (bounds : List ℕ) (requirements : List ℤ) (schedules : List ℕ) where
  abbrev test : ℕ → Bool
  test i = noted (requirement_in requirements i) (of_period schedules i) (start REV ER (of_period bounds) i) (sched ER (of_period bounds) i)

  pub record SameSoFar (backs : List ℕ) (l s : ℕ) (same : Bool) (i : ℕ) : Type 0 where
    pub passed : Passed REV ER bounds backs l s i
    pub counted : i ≤ count
    pub so_far : same ≡ every test (periods_to i)

  pub begin : SameSoFar (replicate 12 0) 0 0 true 0
  unfolding every periods_to
  begin = record { passed = none_passed REV ER bounds; counted = omega arith; so_far = refl }

  module _ {backs : List ℕ} {l s : ℕ} {same : Bool} {i : ℕ} (m : SameSoFar backs l s same i) where
    module _ (h : i < count) (c : count ≤ 8) (row : Row) (p : row ≡ row_from ER (get_or bounds i 0) l (get_or backs i 0) (pos REV -ℤ pos s)) where
      tested : noted (get_or requirements i (pos 0)) (get_or schedules i 0) row.start row.sched ≡ test (suc i)
      unfolding row_of
      tested =
          let n : suc i - 1 ≡ i = omega arith in
          rw (row_is REV ER bounds m.passed (omega arith) row p, n)

      pub step : get_or bounds i 0 < 2 ^ 32 → {t : Bool} → t ≡ noted (get_or requirements i (pos 0)) (get_or schedules i 0) row.start row.sched
          → SameSoFar (set backs (i + 4) row.sched) (l + get_or bounds i 0 - row.sched) (s + get_or bounds i 0 - get_or backs i 0) (same && t) (i + 1)
      step small t =
          record {
            passed = one-passed REV ER bounds m.passed (omega arith) row p small;
            counted = omega arith;
            so_far = rw (add-one i, every-next test i, t, tested, m.so_far);
          }

    pub done : count ≤ i → record { same = same; next = record { left = l; back = get_or backs count 0; start = pos REV -ℤ pos s } } ≡ matched_to REV ER bounds requirements schedules count
    unfolding matched_to
    done h =
        let n : i ≡ count = omega (arith, m.counted) in
        rw (m.so_far, m.passed.left_is, m.passed.short-is, m.passed.backs-are count (omega arith), n, start_is REV ER (of_period bounds) (suc count))
