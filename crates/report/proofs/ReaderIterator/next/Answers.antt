-- `next` of a `Reader` meets its contract. Assumes nothing.
use mathlib.Core.Path.{◌≡◌, refl}
use Prim.Native.Nat.{◌+◌, ◌-◌, ◌*◌}
use native.Mathlib.Omega.{arith}
use Rattle.report.proofs.Parsing.{line_1, line-at}
use Rattle.report.proofs.ReaderIterator.next.Goals as goal

pub returns-then-n-eq1-clause-steps : goal.returns-then-n-eq1-clause-steps
returns-then-n-eq1-clause-steps c =
    let x = c.args.self.now in
    record {
      gives = (rw c.if-n-eq1.true (line_1 x.text.now), omega arith, omega arith);
      keeps = refl;
      goes_on = refl;
      stays = tt;
      ends = tt;
    }

pub returns-clause-steps : goal.returns-clause-steps
returns-clause-steps c =
    let x = c.args.self.now in
    let past : 37 + 19 * (x.line - 2) + 19 - (37 + 19 * (x.line - 2)) ≡ 19 = omega arith in
    record {
      gives = (rw past (line-at x.text.now x.line (omega arith)), omega arith, omega arith);
      keeps = refl;
      goes_on = refl;
      stays = tt;
      ends = tt;
    }
