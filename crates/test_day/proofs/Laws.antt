-- The laws of a test day. Assumes nothing.
use mathlib.Core.Path.{◌≡◌, refl}
use mathlib.Core.Bool.{true}
use mathlib.Core.List.{◌++◌}
use Prim.Native.Nat.{ℕ, zero, suc, ◌+◌, ◌≤◌}
use native.Mathlib.Omega.{arith}
use borrow.Author.Tests.{le-leb}
use lib.ListN.{length, length-append}
use Rattle.common.specs.Lists.{every}
use Rattle.test_day.specs.Day.{next_seed, reading, readings, last_seed, in_range, ReadingsInRange, FillInParts}
use Rattle.test_day.proofs.Seeds.{last-split, readings-split, last-small, gives, fills, given-good, given-last}

reading-in-range : (seed : ℕ) → in_range (reading seed) ≡ true
reading-in-range seed = rw (le-leb 49500 (reading seed) (omega arith), le-leb (reading seed) 50500 (omega arith))

pub readings-in-range : ReadingsInRange
unfolding readings every
readings-in-range zero seed = refl
readings-in-range (suc n) seed = rw (reading-in-range (next_seed seed)) (readings-in-range n (next_seed seed))

pub fill-in-parts : FillInParts
fill-in-parts seed last first rest e =
    let whole : seed ≤ 2147483647 = given-good seed (length first) e in
    let on : last_seed (length first) seed ≡ last = given-last seed (length first) e in
    let part : last ≤ 2147483647 = rw (← on) (last-small (length first) seed whole) in
    let both : length (first ++ rest) ≡ length first + length rest = length-append first rest in
    record {
      answer = rw (gives last part (length rest), gives seed whole (length (first ++ rest)), both, last-split (length first) (length rest) seed, on);
      buffer = rw (fills seed whole (first ++ rest), fills seed whole first, fills last part rest, both, readings-split (length first) (length rest) seed, on);
    }
