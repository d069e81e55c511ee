-- `energy::table::fill_service` meets its contract, by table or by steps. Assumes nothing.
use native.Mathlib.Omega.{arith}
use Rattle.energy.specs.Curve.{response}
use Rattle.energy.proofs.Services.{none}
use Rattle.energy.proofs.Shares.{response-le}
use Rattle.energy.proofs.table.fill_service.Goals as goal

pub returns-then-mw-eq0 : goal.returns-then-mw-eq0
returns-then-mw-eq0 g c = none c.args.curve _ c.if-mw-eq0.true

pub fill_by_table-requires : goal.fill_by_table-requires
fill_by_table-requires g c =
    record {
      mw_most = omega (arith, c.requires.factor_most);
      room = λ d. omega (arith, c.in-Some.ensures.offered c.args.mw d, response-le c.args.mw c.args.curve c.requires.rule d, c.requires.room d);
    }

pub returns-in-None : goal.returns-in-None
unfolding response
returns-in-None g c = c.fill_by_steps.ensures
