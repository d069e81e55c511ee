-- `common::is_line` meets its contract. Assumes nothing.
use mathlib.Core.Path.{◌≡◌, sym, ◌∙◌}
use mathlib.Core.Bool.{true, false, ◌&&◌}
use lib.ListN.{get_or}
use Rattle.common.proofs.Chains.{stops, goes_on, ends}
use Rattle.common.proofs.is_line.Goals as goal

pub returns-then-not-is_in_range-rises_to : goal.returns-then-not-is_in_range-rises_to
returns-then-not-is_in_range-rises_to g c =
    let P = g.P.LinePoint in
    let bad : P.in_range c.loop-next.last && P.rises c.loop-next.last (get_or c.args.others.now c.loop-next.next-index c.next-item.result) ≡ false =
    rw (c.is_in_range.ensures, c.rises_to.ensures, c.next-item.is) at c.if-not-is_in_range-rises_to.true in
    sym (stops P.in_range P.rises c.args.others.now c.loop-next.last c.loop-next.next-index c.loop-next.invariant c.next-item.result c.loop-next-test.true bad)

pub loop-next-preserved : goal.loop-next-preserved
loop-next-preserved g c =
    let P = g.P.LinePoint in
    let good : P.in_range c.loop-next.last && P.rises c.loop-next.last (get_or c.args.others.now c.loop-next.next-index c.next-item.result) ≡ true =
    rw (c.is_in_range.ensures, c.rises_to.ensures, c.next-item.is) at c.if-not-is_in_range-rises_to.false in
    rw c.next-item.is (goes_on P.in_range P.rises c.args.others.now c.loop-next.last c.loop-next.next-index c.loop-next.invariant c.next-item.result c.loop-next-test.true good)

pub returns : goal.returns
returns g c =
    let P = g.P.LinePoint in
    c.is_in_range-2.ensures ∙ sym (ends P.in_range P.rises c.args.others.now c.loop-next.last c.loop-next.next-index c.loop-next.invariant c.loop-next-test.false)
