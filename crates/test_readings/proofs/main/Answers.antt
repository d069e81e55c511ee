-- `test_readings::main` writes what `print_period` printed, which fits its page. Assumes nothing.
use Rattle.std.proofs.Common.{ℕ, sym}
use Rattle.std.proofs.Math.ListN.{length-replicate}
use Rattle.std.proofs.Math.Seq.{length-take-le}
use Rattle.test_day.proofs.Printing.{printed-fits}
use Rattle.test_readings.proofs.main.Goals as goal

pub slice_bounds-page-end : goal.slice_bounds-page-end
slice_bounds-page-end c =
    printed-fits _ _ c.print_period-count.ensures.count c.print_period-count.ensures.page (length-replicate {A = ℕ} 36000 0)

pub slice_bounds-write_all-end : goal.slice_bounds-write_all-end
slice_bounds-write_all-end c =
    sym (length-take-le _ _ (printed-fits _ _ c.print_period-count.ensures.count c.print_period-count.ensures.page (length-replicate {A = ℕ} 36000 0)))
