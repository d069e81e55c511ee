-- A period that `soe_test_day` filled has good readings. Assumes nothing.
use mathlib.Core.Path.{◌≡◌}
use mathlib.Core.Bool.{true}
use Prim.Native.Nat.{ℕ}
use native.Mathlib.Omega.{arith}
use borrow.Author.Tests.{le-leb, leb-true, ltb-false}
use lib.Dec.{leb}
use lib.ListN.{length}
use Rattle.common.proofs.Lists.{every-so}
use Rattle.common.proofs.Tests.{both_true}
use Rattle.energy.specs.Period.{is_reading, good_readings}
use Rattle.test_day.specs.Day.{readings, in_range}
use Rattle.test_day.proofs.Laws.{readings-in-range}
use Rattle.test_day.proofs.Seeds.{readings-length, fills}
use Rattle.host.specs.TestDay.{TestDayGood}

range-good : (r : ℕ) → in_range r ≡ true → is_reading r ≡ true
range-good r h =
    let w = both_true (leb 49500 r) (leb r 50500) h in
    rw (le-leb 47000 r (omega (arith, leb-true 49500 r w.0)), le-leb r 53000 (omega (arith, leb-true r 50500 w.1)))

pub test-day-good : TestDayGood
unfolding good_readings
test-day-good seed buffer small count =
    rw (fills seed (ltb-false 2147483647 seed small) buffer, readings-length (length buffer) seed, count)
    (every-so in_range is_reading range-good (readings (length buffer) seed) (readings-in-range (length buffer) seed))
