-- `host::pairs::pairs_in` meets its contract. Assumes nothing.
use mathlib.Core.Path.{sym, ◌∙◌}
use native.Mathlib.Omega.{arith}
use lib.ListN.{length-replicate, length-set}
use Rattle.host.proofs.PairBytes.{none, next}
use Rattle.host.proofs.pairs.pairs_in.Goals as goal

pub loop-i-init : goal.loop-i-init
loop-i-init g c = record {
  long = length-replicate g.row.MOST c.pair-pairs.result;
  read = sym (none g.P.Pair.pair c.args.bytes.now);
}

pub loop-i-preserved : goal.loop-i-preserved
loop-i-preserved g c =
    let l = c.loop-i in
    record {
      long = length-set l.pairs l.i c.pair_at.result ∙ l.invariant.long;
      read = next g.P.Pair.pair c.args.bytes.now l.pairs l.i c.pair_at.result (omega (arith, l.invariant.long)) c.pair_at.ensures l.invariant.read;
    }
