-- `energy::table::fill_direction` meets its contract: each service adds its responses. Assumes nothing.
use Prim.Native.Nat.{◌+◌, ◌*◌}
use native.Mathlib.Omega.{arith}
use lib.ListN.{take}
use Rattle.std.proofs.lemmas.Grind.{common_steps}
use Rattle.energy.specs.Table.{Room}
use Rattle.energy.proofs.Responses.{rules}
use Rattle.energy.proofs.Shares.{response-le}
use Rattle.energy.proofs.Tables.{room-left, room-front}
use Rattle.energy.proofs.table.fill_direction.Given.{Over}
use Rattle.energy.proofs.table.fill_direction.Goals as goal
use Rattle.energy.proofs.table.fill_direction.Goals.{After-from, After-fill_service, After-fill_service-2}

-- the room before each service adds

room-for-three : (g : Over) (c : After-from g) → Room (1000000 * c.args.q.dc + (1000000 * c.args.q.dm + 1000000 * c.args.q.dr)) (take (c.from.result + 1) c.args.table.now)
room-for-three g c = room-front (c.from.result + 1) _ c.args.table.now (λ d. omega (arith, c.requires.room d))

room-for-two : (g : Over) (c : After-fill_service g) → Room (1000000 * c.args.q.dm + 1000000 * c.args.q.dr) c.fill_service.new.table
room-for-two g c =
    let q = c.args.q in
    room-left c.fill_service.ensures (1000000 * q.dm + 1000000 * q.dr) (1000000 * q.dc) (response-le q.dc c.args.curves.dc (rules c.args.curves c.requires.rules).dc)
    (room-front (c.from.result + 1) _ c.args.table.now (λ d. omega (arith, c.requires.room d)))

room-for-one : (g : Over) (c : After-fill_service-2 g) → Room (1000000 * c.args.q.dm + 1000000 * c.args.q.dr) c.fill_service.new.table → Room (1000000 * c.args.q.dr) c.fill_service-2.new.table
room-for-one g c room =
    let q = c.args.q in
    room-left c.fill_service-2.ensures (1000000 * q.dr) (1000000 * q.dm) (response-le q.dm c.args.curves.dm (rules c.args.curves c.requires.rules).dm) room

pub fill_service-requires : goal.fill_service-requires
fill_service-requires g c =
    record {
      factor_most = omega (arith, c.requires.quantity_most);
      rule = (rules c.args.curves c.requires.rules).dc;
      room = λ d. omega (arith, room-for-three g (goal.at.fill_service-requires g c).After-from d);
    }

pub fill_service-requires-2 : goal.fill_service-requires-2
fill_service-requires-2 g c =
    record {
      factor_most = omega (arith, c.requires.quantity_most);
      rule = (rules c.args.curves c.requires.rules).dm;
      room = λ d. omega (arith, room-for-two g (goal.at.fill_service-requires-2 g c).After-fill_service d);
    }

pub fill_service-requires-3 : goal.fill_service-requires-3
fill_service-requires-3 g c =
    let at = goal.at.fill_service-requires-3 g c in
    record {
      factor_most = omega (arith, c.requires.quantity_most);
      rule = (rules c.args.curves c.requires.rules).dr;
      room = λ d. omega (arith, room-for-one g at.After-fill_service-2 (room-for-two g at.After-fill_service) d);
    }

pub returns : goal.returns
returns g c = grind (arith, common_steps)
