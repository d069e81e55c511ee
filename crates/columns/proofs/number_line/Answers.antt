-- `columns::number_line` meets its contract. Assumes nothing.
use mathlib.Core.Path.{refl}
use lib.Dec.{lit≤}
use lib.IntN.{pos}
use lib.ListN.{replicate}
use Rattle.common.proofs.Placing.{nothing, byte, whole}
use Rattle.columns.specs.Line.{number_line}
use Rattle.columns.proofs.Placing.{number}
use Rattle.columns.proofs.number_line.Goals as goal

pub returns : goal.returns
unfolding number_line
returns c =
    let p = number (nothing 10 (replicate 10 0) refl) 9 (pos c.args.n) (lit≤ tt) c.put_number.ensures in
    whole (byte p 10 (lit≤ tt)) (lit≤ tt)
