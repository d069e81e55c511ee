-- `ledger::carry_out` meets its contract. Assumes nothing.
use mathlib.Core.Path.{◌≡◌, ap}
use Prim.Native.Nat.{ℕ, ◌-◌}
use native.Mathlib.Omega.{arith}
use borrow.Author.Rules.{rules}
use borrow.Author.Tests.{ltb-false}
use lib.IntN.{pos}
use lib.ListN.{length}
use Rattle.common.proofs.Lists.{sum-part}
use Rattle.terms.specs.Terms.{Q}
use Rattle.ledger_record.specs.Rule.{standing_of}
use Rattle.ledger_record.specs.declared.Record.{Record}
use Rattle.ledger_record.specs.declared.Standing.{Standing}
use Rattle.ledger_record.proofs.Kept.{kept, opened}
use Rattle.ledger.specs.declared.Closing.{Closing as Asked}
use Rattle.ledger.specs.Calls.{moved, TotalsFit, closed_record, CanClose}
use Rattle.ledger.proofs.ByTrader.{trader-in}
use Rattle.ledger.proofs.Closings.{accepted-most, settled-most}
use Rattle.ledger.proofs.Usable.{rule-kept, before_eight}
use Rattle.ledger.proofs.carry_out.Goals as goal

-- the totals stay in range
totals_fit : (g : Record) (s : Standing) (low high : ℕ) (a : Asked) → CanClose g s low high a → length g.low.bounds ≡ 8 → length g.high.bounds ≡ 8 → TotalsFit g.totals a
totals_fit g s low high a can low-long high-long =
    let rule = rule-kept g can.usable in
    let kept_here = kept g low-long high-long rule in
    let f = opened g rule in
    let n = before_eight g can.usable in
    let most = accepted-most g a.purchase can.accepted kept_here.state-most f.size-most in
    let i = settled-most low high g.size a.delivered a.taken (moved (pos g.state) a.purchase a.delivered a.taken) can.settled in
    let t = trader-in a.trader can.trader in
    record {
      bought_fits = record { trader = t; fits = omega (arith, most, kept_here.bought-most, n, sum-part g.totals.bought (a.trader - 1)) };
      sold_fits = record { trader = t; fits = omega (arith, most, kept_here.sold-most, n, sum-part g.totals.sold (a.trader - 1)) };
      delivered_fits = omega (arith, i, kept_here.delivered_most, can.low_most, ltb-false 1000 (Q g.terms.low) f.low-quantity);
      taken_fits = omega (arith, i, kept_here.taken_most, can.high_most, ltb-false 1000 (Q g.terms.high) f.high-quantity);
    }

pub overflow_add-given : goal.overflow_add-given
overflow_add-given c = record { fits = omega (arith, before_eight c.args.given.now c.requires.usable) }

pub close_entries-requires : goal.close_entries-requires
unfolding standing_of
close_entries-requires c = (before_eight c.args.given.now c.requires.usable, ap (λ (s : Standing). s.low) c.requires.stands)

pub close_entries-requires-2 : goal.close_entries-requires-2
unfolding standing_of
close_entries-requires-2 c = (before_eight c.args.given.now c.requires.usable, ap (λ (s : Standing). s.high) c.requires.stands)

pub add_closing-requires : goal.add_closing-requires
add_closing-requires c =
    let a = c.args in
    let g = a.given.now in
    let low-long : length g.low.bounds ≡ 8 = search rules in
    let high-long : length g.high.bounds ≡ 8 = search rules in
    totals_fit g a.standing a.bounds.low a.bounds.high a.asked c.requires low-long high-long

pub returns : goal.returns
unfolding closed_record
returns c = rw (c.add_closing.ensures, c.close_entries-2.ensures, c.close_entries.ensures)
