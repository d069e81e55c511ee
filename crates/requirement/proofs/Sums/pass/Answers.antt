-- `pass` of the `Sums` meets its contract. Assumes nothing.
use Prim.Native.Nat.{◌+◌, ◌-◌}
use lib.ListN.{get_or}
use borrow.Author.Rules.{sfits_of}
use mir.Facts.{to_z-of_z}
use Rattle.signed.proofs.Signs.{sub-le_z0}
use Rattle.requirement.proofs.Shortfall.{end-less}
use Rattle.requirement.proofs.Sums.pass.Goals as goal

pub returns-clause-row : goal.returns-clause-row
returns-clause-row c =
    let d = c.less in
    let d2 = c.less-2 in
    let s = c.args.self.now in
    let back = get_or s.backs s.passed 0 in
    rw (
      c.min-sched.ensures,
      to_z-of_z {z = d.result} (sfits_of d.type_inv),
      to_z-of_z {z = d2.result} (sfits_of d2.type_inv),
      d.ensures,
      d2.ensures,
      end-less s.volumes.rev s.shortfall back c.args.bound c.requires.back_most,
      sub-le_z0 s.volumes.rev s.shortfall,
      sub-le_z0 s.volumes.rev (s.shortfall + c.args.bound - back),
    )
