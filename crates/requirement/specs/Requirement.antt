-- Paper 01, "Requirement, each direction alike": REV and ER are a direction's volumes, and e i is the bound of period i = 1, 2, ..
-- There is no period 0: nothing reads what stands for it. Assumes nothing.
use Rattle.std.specs.Prelude.{Bool, cond, ◌&&◌, ◌||◌, List, map, ℕ, zero, suc, ◌+◌, ◌-◌, ◌^◌, ◌≤◌, ◌<◌, min, leb, eqb, ℤ, pos, ◌+ℤ◌, ◌-ℤ◌, get_or}
use Rattle.std.specs.Int.Signed.{le_z}
use Rattle.common.specs.Lists.{every}
use Rattle.common.specs.Periods.{periods_to, of_period}
use Rattle.signed.specs.Sign.{eq_z}
use Rattle.requirement.specs.declared.Matched.{Matched}
use Rattle.requirement.specs.declared.Next.{Next}
use Rattle.requirement.specs.declared.Row.{Row}
use Rattle.requirement.specs.declared.Table.{Table}

-- ---- what is scheduled, and what comes back

-- sched = min(e + left, ER)
abbrev pub sched_of : ℕ → ℕ → ℕ → ℕ
sched_of ER e left = min (e + left) ER

module _ (ER : ℕ) (e : ℕ → ℕ) where
  -- left(1) = 0; left(i+1) = left(i) + e(i) − sched(i)
  unfoldable pub left : ℕ → ℕ
  left zero = 0
  left (suc zero) = 0
  left (suc (suc i)) = left (suc i) + e (suc i) - sched_of ER (e (suc i)) (left (suc i))

  unfoldable pub sched : ℕ → ℕ
  sched i = sched_of ER (e i) (left i)

  -- back(i) = 0 for i ≤ 4, else sched(i−4)
  unfoldable pub back : ℕ → ℕ
  back i = cond (leb i 4) 0 (sched (i - 4))

-- ---- the requirement, which may be negative

-- end = start + back − e
abbrev pub end_of : ℤ → ℕ → ℕ → ℤ
end_of start back e = start +ℤ pos back -ℤ pos e

-- unavailability is allowed exactly when start ≤ 0 or end ≤ 0
abbrev pub flag_of : ℤ → ℤ → Bool
flag_of start end = le_z start (pos 0) || le_z end (pos 0)

module _ (REV ER : ℕ) (e : ℕ → ℕ) where
  -- start(1) = REV; start(i+1) = end(i)
  unfoldable pub start : ℕ → ℤ
  start zero = pos REV
  start (suc zero) = pos REV
  start (suc (suc i)) = end_of (start (suc i)) (back ER e (suc i)) (e (suc i))

  unfoldable pub end : ℕ → ℤ
  end i = end_of (start i) (back ER e i) (e i)

  -- the row of period i
  unfoldable pub row_of : ℕ → Row
  row_of i =
      record {
        left = left ER e i;
        sched = sched ER e i;
        back = back ER e i;
        start = start i;
        end = end i;
        flag = flag_of (start i) (end i);
      }

-- ---- a block

-- the rows of the eight periods; start(9) is the next start after period 8
unfoldable pub table_of : ℕ → ℕ → List ℕ → Table
table_of REV ER bounds =
    record {
      rows = map (row_of REV ER (of_period bounds)) (periods_to 8);
      start9 = start REV ER (of_period bounds) 9;
    }

-- ---- entries beside their bounds

-- a requirement and a schedule are this start and this sched
abbrev pub noted : ℤ → ℕ → ℤ → ℕ → Bool
noted requirement schedule start sched = eq_z requirement start && eqb schedule sched

-- what period i begins with
abbrev pub next_of : ℕ → ℕ → (ℕ → ℕ) → ℕ → Next
next_of REV ER e i = record { left = left ER e i; back = back ER e i; start = start REV ER e i }

-- the requirement in the entries of period i
abbrev pub requirement_in : List ℤ → ℕ → ℤ
requirement_in requirements i = get_or requirements (i - 1) (pos 0)

-- whether requirements and schedules of the periods 1 to n are those of the bounds, and what the period after them begins with
unfoldable pub matched_to : ℕ → ℕ → List ℕ → List ℤ → List ℕ → ℕ → Matched
matched_to REV ER bounds requirements schedules n =
    let e = of_period bounds in
    record {
      same = every (λ (i : ℕ). noted (requirement_in requirements i) (of_period schedules i) (start REV ER e i) (sched ER e i)) (periods_to n);
      next = next_of REV ER e (suc n);
    }

-- ---- what the private function `pass` makes and asks

-- a period's row, from its bound, what is left and what comes back, and its start
abbrev pub row_from : ℕ → ℕ → ℕ → ℕ → ℤ → Row
row_from ER e left back start =
    record {
      left = left;
      sched = sched_of ER e left;
      back = back;
      start = start;
      end = end_of start back e;
      flag = flag_of start (end_of start back e);
    }

-- where start is REV less the shortfall: a period of the block is left, the sums fit, and no more comes back than is short
pub record RowFits (passed left back shortfall : ℕ) : Type 0 where
  pub period_left : passed < 8
  pub left_most : left ≤ 2 ^ 35
  pub short_most : shortfall ≤ 2 ^ 35
  pub back_most : back ≤ shortfall
