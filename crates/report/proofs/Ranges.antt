-- The numbers of every row that the report prints fit their columns: nothing of them is cut off.
-- The quantity is at most 1,000 MW, so REV is at most 1,000,000 and a bound at most 500,000. Eight bounds make at most 4,000,000:
-- starts lie between −4,000,000 and 1,000,000, and what is scheduled, comes back or is left is at most 4,000,000. Assumes nothing.
use mathlib.Core.Path.{◌≡◌}
use mathlib.Core.Bool.{Bool, true, false}
use mathlib.Core.List.{List}
use Prim.Native.Nat.{ℕ, zero, suc, ◌*◌, ◌-◌, ◌≤◌, ◌<◌}
use native.Mathlib.Omega.{arith}
use borrow.Author.Tests.{ltb-false, le-ltb}
use lib.Dec.{ltb, eqb}
use lib.IntN.{ℤ, pos, ◌-ℤ◌}
use lib.ListN.{get_or}
use Rattle.common.specs.Answer.{given}
use Rattle.common.specs.Periods.{of_period}
use Rattle.common.proofs.Lists.{some-not}
use Rattle.common.proofs.Periods.{period-at}
use Rattle.common.proofs.Tests.{neither}
use Rattle.common.proofs.Answers.{given-clear, holds_of, clear_of}
use Rattle.signed.specs.Sign.{above, below}
use Rattle.signed.proofs.Whole.{less, one-sided}
use Rattle.columns.proofs.RoundTrip.{FitsIn, Whole, printed-whole}
use Rattle.terms.specs.Terms.{Q, REV, ER, above1000}
use Rattle.requirement.specs.Requirement.{left, sched, back, start, row_of}
use Rattle.requirement.proofs.Shortfall.{shortfall, left-next, sched-le, back-le, start_is, start-next}
use Rattle.monitor.specs.declared.Row.{Row}
use Rattle.monitor.specs.Monitor.{judged_row, rows_of}
use Rattle.report.specs.declared.Input.{Input}
use Rattle.report.specs.Input.{input_of}
use Rattle.report.specs.Output.{bit}
use Rattle.report.specs.Report.{report_causes, written, reporting}

-- ---- the table of any bounds of at most `most`
module _ (ER : ℕ) (e : ℕ → ℕ) (most : ℕ) (small : (i : ℕ) → e i ≤ most) where
  pub left-range : (i : ℕ) → left ER e (suc i) ≤ most * i
  unfolding left
  left-range zero = omega arith
  left-range (suc i) = omega (arith, left-range i, left-next ER e i, small (suc i))

  pub sched-range : (i : ℕ) → sched ER e (suc i) ≤ most * suc i
  sched-range i = omega (arith, sched-le ER e (suc i), left-range i, small (suc i))

  shortfall-range : (i : ℕ) → shortfall ER e (suc i) ≤ most * i
  unfolding shortfall
  shortfall-range zero = omega arith
  shortfall-range (suc i) = omega (arith, shortfall-range i, small (suc i))

  pub back-range : (i : ℕ) → back ER e (suc i) ≤ most * i
  back-range i = omega (arith, back-le ER e (suc i), shortfall-range i)

  pub start-range : (REV i : ℕ) → (above (start REV ER e (suc i)) ≤ REV) × (below (start REV ER e (suc i)) ≤ most * i)
  start-range REV i =
      let s = shortfall ER e (suc i) in
      rw (start_is REV ER e (suc i)) (omega (arith, less (pos REV) (pos s), one-sided (pos REV -ℤ pos s), shortfall-range i))

-- ---- a row of the report

-- each number of a row, with its columns
pub record Each (holds : ℕ → ℤ → Type 0) (r : Row) : Type 0 where
  pub period : holds 2 (pos r.period)
  pub bound : holds 9 (pos r.bound)
  pub start : holds 9 r.start
  pub end : holds 9 r.end
  pub sched : holds 9 (pos r.sched)
  pub back : holds 9 (pos r.back)
  pub left : holds 9 (pos r.left)
  pub flag : holds 2 (pos (bit r.flag))
  pub verdict : holds 2 (pos (bit r.verdict))

pub fits_whole : (r : Row) → Each FitsIn r → Each Whole r
fits_whole r f =
    record {
      period = printed-whole 0 (pos r.period) f.period;
      bound = printed-whole 7 (pos r.bound) f.bound;
      start = printed-whole 7 r.start f.start;
      end = printed-whole 7 r.end f.end;
      sched = printed-whole 7 (pos r.sched) f.sched;
      back = printed-whole 7 (pos r.back) f.back;
      left = printed-whole 7 (pos r.left) f.left;
      flag = printed-whole 0 (pos (bit r.flag)) f.flag;
      verdict = printed-whole 0 (pos (bit r.verdict)) f.verdict;
    }

bit-fits : (b : Bool) → FitsIn 2 (pos (bit b))
bit-fits true = omega arith
bit-fits false = omega arith

module _ (REV ER : ℕ) (bounds reported : List ℕ) (rev : REV ≤ 1000000) (small : (i : ℕ) → of_period bounds i ≤ 500000) where
  row_fits : (i : ℕ) → i < 8 → Each FitsIn (judged_row REV ER bounds reported (suc i))
  unfolding row_of
  row_fits i h =
      let e = of_period bounds in
      let r = judged_row REV ER bounds reported (suc i) in
      record {
        period = omega arith;
        bound = omega (arith, small (suc i));
        start = omega (arith, start-range ER e 500000 small REV i);
        end = rw (← start-next REV ER e i) (omega (arith, start-range ER e 500000 small REV (suc i)));
        sched = omega (arith, sched-range ER e 500000 small i);
        back = omega (arith, back-range ER e 500000 small i);
        left = omega (arith, left-range ER e 500000 small i);
        flag = bit-fits r.flag;
        verdict = bit-fits r.verdict;
      }

-- ---- where a table is written, each of its rows fits
module _ (input output : List ℕ) {out : List ℕ} (is : reporting input output ≡ given out) where
  abbrev x : Input
  x = input_of input

  abbrev rows : List Row
  rows = rows_of (REV x.quantities) (ER x.quantities) x.bounds x.reported

  -- no cause holds, 1 and 7 among them
  not-held : (k : ℕ) → holds_of k (report_causes input output) ≡ false
  unfolding reporting
  not-held k = clear_of k (report_causes input output) (given-clear (report_causes input output) (written x output) out is)

  quantity_most : Q x.quantities ≤ 1000
  unfolding report_causes
  quantity_most = ltb-false 1000 (Q x.quantities) (neither (above1000 x.quantities) (eqb (Q x.quantities) 0) (not-held 1)).0

  bound-most : (i : ℕ) → of_period x.bounds i ≤ 500000
  unfolding report_causes
  bound-most i =
      let n = 500 * Q x.quantities in
      let h = ltb-false n (of_period x.bounds i) (some-not (ltb n) x.bounds (i - 1) 0 (le-ltb n 0 (omega arith)) (not-held 7)) in
      omega (arith, quantity_most)

  pub rows_fit : (i : ℕ) (d : Row) → i < 8 → Each FitsIn (get_or rows i d)
  unfolding rows_of
  rows_fit i d h =
      rw (period-at (judged_row (REV x.quantities) (ER x.quantities) x.bounds x.reported) 8 i d h)
      (row_fits (REV x.quantities) (ER x.quantities) x.bounds x.reported (omega (arith, quantity_most)) bound-most i h)

  pub rows_whole : (i : ℕ) (d : Row) → i < 8 → Each Whole (get_or rows i d)
  rows_whole i d h = fits_whole (get_or rows i d) (rows_fit i d h)
