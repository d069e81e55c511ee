-- Paper 01, "Report": from the input's bytes and a lent output to an answer and every byte of the output afterwards.
-- Assumes nothing.
use Rattle.std.specs.Prelude.{not, List, [], ◌∷◌, ◌++◌, ℕ, Result, ltb, length, drop}
use Rattle.common.specs.Answer.{Answer, or_blank, Cause, cause, checked, answered_with}
use Rattle.terms.specs.Terms.{REV, ER}
use Rattle.monitor.specs.Monitor.{monitor_causes, rows_of}
use Rattle.report.specs.Input.{well_formed, input_of}
use Rattle.report.specs.Output.{table}
use Rattle.report.specs.declared.Input.{Input}
use Rattle.monitor.specs.declared.MonitorRefusal.{MonitorRefusal}
use Rattle.report.specs.declared.ReportRefusal.{ReportRefusal}
use Rattle.report.specs.declared.ReportRefusal.TheVariants.{Malformed, Quantity, Bound, Reported, Short}

-- 13, the monitor's 1, 7, 11, then 14
unfoldable pub report_causes : List ℕ → List ℕ → List Cause
report_causes input output =
    (cause 13 (not (well_formed input)) ∷ [])
    ++ monitor_causes (input_of input).quantities (input_of input).bounds (input_of input).reported
    ++ (cause 14 (ltb (length output) 488) ∷ [])

-- the output afterwards: the table, and past 488 the output keeps its bytes
unfoldable pub written : Input → List ℕ → List ℕ
written i output = table (rows_of (REV i.quantities) (ER i.quantities) i.bounds i.reported) ++ drop 488 output

unfoldable pub reporting : List ℕ → List ℕ → Answer (List ℕ)
reporting input output = checked (report_causes input output) (written (input_of input) output)

-- every byte of the output afterwards; where the call is refused, those of before
abbrev pub output_after : List ℕ → List ℕ → List ℕ
output_after input output = or_blank output (reporting input output)

-- the number of each of the code's refusals
abbrev pub refusal_number : ReportRefusal → ℕ
refusal_number Malformed = 13
refusal_number Quantity = 1
refusal_number Bound = 7
refusal_number Reported = 11
refusal_number Short = 14

-- a refusal of the monitor is one of the report
abbrev pub monitor_refusal : MonitorRefusal → ReportRefusal
monitor_refusal MonitorRefusal.Quantity = Quantity
monitor_refusal MonitorRefusal.Bound = Bound
monitor_refusal MonitorRefusal.Reported = Reported

-- where nothing is refused, a is given
abbrev pub answer_of : {A : Type 0} → Result Unit ReportRefusal → A → Answer A
answer_of = answered_with refusal_number
