-- What the loop of `pairs_in` keeps. Assumes nothing.
use mathlib.Core.Path.{◌≡◌}
use lib.ListN.{length, take}
use Rattle.host.specs.Pairs.{first_pairs}
use Rattle.host.proofs.pairs.pairs_in.Given as goal

abbrev pub invariant-loop-i : goal.invariant-loop-i
invariant-loop-i g l = record {
  long : length l.pairs ≡ g.row.MOST;
  read : take l.i l.pairs ≡ first_pairs g.P.Pair.pair l.i l.bytes;
}
