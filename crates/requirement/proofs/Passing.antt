-- The periods passed one by one, by `fill` and by `match_entries`: after i turns, what is left and what is short at period i + 1, and in
-- `backs` what comes back up to period i + 4. Assumes nothing.
use mathlib.Core.Path.{◌≡◌, refl, sym, ap, ◌∙◌}
use mathlib.Core.List.{List}
use Prim.Native.Nat.{ℕ, suc, ◌+◌, ◌*◌, ◌-◌, ◌≤◌, ◌<◌, ◌^◌}
use native.Mathlib.Numerals.{add-one}
use native.Mathlib.Omega.{arith}
use borrow.Author.Count.{below_more}
use lib.IntN.{pos, ◌-ℤ◌}
use lib.ListN.{get_or, set, length, length-set, replicate, get_or-replicate}
use lib.Seq.{get_or-set_same, get_or-set_other}
use Rattle.common.specs.Periods.{of_period}
use Rattle.requirement.specs.Requirement.{left, sched, back, end, row_from, row_of, RowFits}
use Rattle.requirement.specs.declared.Row.{Row}
use Rattle.requirement.proofs.Shortfall.{shortfall, left-next, back_none, back-later, back-le, start_is}

module _ (REV ER : ℕ) (bounds : List ℕ) where
  abbrev e : ℕ → ℕ
  e = of_period bounds

  made-is : (i : ℕ) → row_from ER (e i) (left ER e i) (back ER e i) (pos REV -ℤ pos (shortfall ER e i)) ≡ row_of REV ER e i
  unfolding row_of sched end
  made-is i = rw (start_is REV ER e i)

  pub record Passed (backs : List ℕ) (l s i : ℕ) : Type 0 where
    pub within : i ≤ 8
    pub backs-long : length backs ≡ 12
    pub left_le : l ≤ 2 ^ 32 * i
    pub short-le : s ≤ 2 ^ 32 * i
    pub left_is : l ≡ left ER e (suc i)
    pub short-is : s ≡ shortfall ER e (suc i)
    pub backs-are : (k : ℕ) → k < i + 4 → get_or backs k 0 ≡ back ER e (suc k)

  pub none_passed : Passed (replicate 12 0) 0 0 0
  unfolding left shortfall
  none_passed =
      record {
        within = omega arith;
        backs-long = refl;
        left_le = omega arith;
        short-le = omega arith;
        left_is = refl;
        short-is = refl;
        backs-are = λ k l. get_or-replicate 12 k 0 0 (omega arith) ∙ sym (back_none ER e (suc k) (omega arith));
      }

  -- a turn, with the row that was made
  module _ {backs : List ℕ} {l s i : ℕ} (w : Passed backs l s i) (h : i < 8) where
    back_is : get_or backs i 0 ≡ back ER e (suc i)
    back_is = w.backs-are i (omega arith)

    here : e (suc i) ≡ get_or bounds i 0
    here = ap (λ (n : ℕ). get_or bounds n 0) (omega arith)

    -- the next period's row fits
    pub fits : RowFits i l (get_or backs i 0) s
    fits =
        record {
          period_left = h;
          left_most = omega (arith, w.left_le);
          short_most = omega (arith, w.short-le);
          back_most = omega (arith, back_is, back-le ER e (suc i));
        }

    module _ (row : Row) (p : row ≡ row_from ER (get_or bounds i 0) l (get_or backs i 0) (pos REV -ℤ pos s)) where
      pub row_is : row ≡ row_of REV ER e (suc i)
      row_is = p ∙ rw (← here, back_is, w.left_is, w.short-is) (made-is (suc i))

      sched-is : row.sched ≡ sched ER e (suc i)
      unfolding row_of
      sched-is = ap (λ (r : Row). r.sched) row_is

      pub one-passed : get_or bounds i 0 < 2 ^ 32 → Passed (set backs (i + 4) row.sched) (l + get_or bounds i 0 - row.sched) (s + get_or bounds i 0 - get_or backs i 0) (i + 1)
      unfolding shortfall
      one-passed small =
          let n : i + 1 ≡ suc i = add-one i in
          record {
            within = omega arith;
            backs-long = length-set backs (i + 4) row.sched ∙ w.backs-long;
            left_le = omega arith;
            short-le = omega arith;
            left_is = rw n (omega (arith, left-next ER e i, sched-is, here));
            short-is = rw n (omega (arith, back_is, here));
            backs-are = λ k lt.
                below_more (λ (k : ℕ). get_or (set backs (i + 4) row.sched) k 0 ≡ back ER e (suc k)) (i + 4)
                (λ k lt. get_or-set_other backs (i + 4) k row.sched 0 (omega arith) ∙ w.backs-are k lt)
                (get_or-set_same backs (i + 4) row.sched 0 (omega arith) ∙ sched-is ∙ sym (back-later ER e i) ∙ ap (back ER e) (omega arith))
                k (omega arith);
          }
