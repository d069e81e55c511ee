-- `requirement::fill` meets its contract. A turn keeps the loop's invariant by `step`. Assumes nothing.
use mathlib.Core.Path.{refl, ◌∙◌}
use native.Mathlib.Omega.{arith}
use borrow.Author.Rules.{rules, sfits_of}
use mir.Facts.{to_z-of_z}
use Rattle.common.specs.Periods.{of_period}
use Rattle.requirement.specs.Requirement.{table_of}
use Rattle.requirement.proofs.Shortfall.{start_is}
use Rattle.requirement.proofs.Passing.{fits}
use Rattle.requirement.proofs.Filling.{begin, done, step}
use Rattle.requirement.proofs.fill.Goals as goal

pub loop-i-init : goal.loop-i-init
loop-i-init c =
    let s = c.of-sums.ensures.sums in
    record { volumes_are = c.of-sums.ensures.volumes; passed_are = s.0; filled = rw (s.1, s.2, s.3) (begin _ _ _ _ refl) }

pub pass-requires : goal.pass-requires
pass-requires c =
    let at = c.loop-i.invariant in
    rw at.passed_are (fits _ _ _ at.filled.passed c.loop-i-test.true)

pub loop-i-preserved : goal.loop-i-preserved
loop-i-preserved c =
    let at = c.loop-i.invariant in
    let e = c.pass.ensures in
    record {
      volumes_are = e.volumes ∙ at.volumes_are;
      passed_are = omega (arith, e.passed, at.passed_are);
      filled = rw (e.backs, e.left, e.shortfall, at.passed_are) (step _ _ _ at.filled c.loop-i-test.true _ (rw (at.volumes_are, at.passed_are) at e.row) (search rules));
    }

pub returns : goal.returns
unfolding table_of
returns c =
    let v = c.args.volumes in
    let d = done _ _ _ c.loop-i.invariant.filled c.loop-i-test.false in
    let z = c.less in
    rw (to_z-of_z {z = z.result} (sfits_of z.type_inv), z.ensures, d.1, d.0, start_is v.rev v.er (of_period c.args.bounds) 9)
