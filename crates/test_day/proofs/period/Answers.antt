-- `test_day::period` meets its contract. Assumes nothing.
use mathlib.Core.Path.{sym, ◌∙◌}
use Rattle.test_day.proofs.Printing.{malformed-13, seed-refused, seed-given}
use Rattle.test_day.proofs.period.Goals as goal

pub returns-in_default : goal.returns-in_default
returns-in_default c = malformed-13 _ (sym c.read_line.ensures ∙ c.in_default.is)

pub returns-in-Ok : goal.returns-in-Ok
returns-in-Ok c = seed-given _ (sym c.in-Some.ensures) c.min-handed.ensures _ c.in-Ok.ensures.answer c.in-Ok.ensures.buffer

pub returns-in-Err : goal.returns-in-Err
returns-in-Err c = seed-refused _ (sym c.in-Some.ensures) c.min-handed.ensures _ c.in-Err.ensures.answer
