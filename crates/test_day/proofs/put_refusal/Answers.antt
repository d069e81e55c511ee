-- `test_day::put_refusal` meets its contract. Assumes nothing.
use native.Mathlib.Omega.{arith}
use Rattle.test_day.proofs.Printing.{line-length, too_short}
use Rattle.test_day.proofs.put_refusal.Goals as goal

pub returns-then-page-lt10 : goal.returns-then-page-lt10
returns-then-page-lt10 c = too_short _ _ (omega (arith, c.if-page-lt10.true, line-length c.args.n))
