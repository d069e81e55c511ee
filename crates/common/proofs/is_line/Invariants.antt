-- The loop's invariant: what is left of the line decides as the whole does. Assumes nothing.
use mathlib.Core.Path.{◌≡◌}
use lib.ListN.{drop}
use Rattle.common.specs.Lists.{chain}
use Rattle.common.proofs.is_line.Given as goal

abbrev pub invariant-loop-next : goal.invariant-loop-next
invariant-loop-next g l =
    let P = g.P.LinePoint in
    chain P.in_range P.rises l.fn.first l.others ≡ chain P.in_range P.rises l.last (drop l.next-index l.others)
