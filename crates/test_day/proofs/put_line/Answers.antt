-- `test_day::put_line` meets its contract. Assumes nothing.
use mathlib.Core.Path.{◌∙◌}
use native.Mathlib.Omega.{arith}
use Rattle.test_day.proofs.Printing.{line-placed}
use Rattle.test_day.proofs.put_line.Goals as goal

pub returns : goal.returns
returns c = line-placed c.args.at _ c.args.n c.args.page.now _ c.requires (omega arith) (c.copy_from_slice.ensures.after ∙ c.number_line.ensures)
