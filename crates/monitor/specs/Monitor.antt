-- Paper 01, "Monitor": one direction of nonzero quantity. Assumes nothing.
use Rattle.std.specs.Prelude.{◌||◌, List, [], ◌∷◌, map, Result, ℕ, ◌*◌, ltb, eqb, pos}
use Rattle.std.specs.Int.Signed.{le_z}
use Rattle.common.specs.Answer.{Answer, answered, Cause, cause, checked}
use Rattle.common.specs.Lists.{some_entry}
use Rattle.common.specs.Periods.{periods_to, of_period}
use Rattle.terms.specs.Terms.{Quantities, Q, REV, ER, above1000}
use Rattle.requirement.specs.declared.Row.{Row as Requirement}
use Rattle.requirement.specs.Requirement.{row_of}
use Rattle.monitor.specs.declared.Row.{Row}
use Rattle.monitor.specs.declared.MonitorRefusal.{MonitorRefusal}
use Rattle.monitor.specs.declared.MonitorRefusal.TheVariants.{Quantity, Bound, Reported}

-- ---- the rows

-- the report's fields; a period passes exactly when the reported energy is at least start
abbrev pub judged : ℕ → ℕ → Requirement → ℕ → Row
judged period bound r reported =
    record {
      period = period;
      bound = bound;
      start = r.start;
      end = r.end;
      sched = r.sched;
      back = r.back;
      left = r.left;
      flag = r.flag;
      verdict = le_z r.start (pos reported);
    }

abbrev pub judged_row : ℕ → ℕ → List ℕ → List ℕ → ℕ → Row
judged_row REV ER bounds reported i =
    judged i (of_period bounds i) (row_of REV ER (of_period bounds) i) (of_period reported i)

unfoldable pub rows_of : ℕ → ℕ → List ℕ → List ℕ → List Row
rows_of REV ER bounds reported = map (judged_row REV ER bounds reported) (periods_to 8)

-- ---- the answer

-- 1, 7, 11, each over all eight periods
abbrev pub monitor_causes : Quantities → List ℕ → List ℕ → List Cause
monitor_causes q bounds reported =
    cause 1 (above1000 q || eqb (Q q) 0)
    ∷ cause 7 (some_entry (ltb (500 * Q q)) bounds)
    ∷ cause 11 (some_entry (ltb 10000000) reported)
    ∷ []

unfoldable pub monitoring : Quantities → List ℕ → List ℕ → Answer (List Row)
monitoring q bounds reported = checked (monitor_causes q bounds reported) (rows_of (REV q) (ER q) bounds reported)

-- the number of each of the code's refusals
abbrev pub refusal_number : MonitorRefusal → ℕ
refusal_number Quantity = 1
refusal_number Bound = 7
refusal_number Reported = 11

abbrev pub answer_of : Result (List Row) MonitorRefusal → Answer (List Row)
answer_of = answered refusal_number
