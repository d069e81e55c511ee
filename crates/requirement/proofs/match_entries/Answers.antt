-- `requirement::match_entries` meets its contract. A turn keeps the loop's invariant by `step`. Assumes nothing.
use mathlib.Core.Path.{◌≡◌, ap, ◌∙◌}
use Prim.Native.Nat.{◌≤◌, ◌<◌, min}
use native.Mathlib.Omega.{arith}
use borrow.Author.Rules.{rules}
use lib.IntN.{pos}
use lib.ListN.{get_or}
use mir.Syntax.{w64}
use mir.Val.{SFits}
use mir.Facts.{to_z-of_z}
use Rattle.requirement.proofs.Matching.{begin, step, done}
use Rattle.requirement.proofs.Passing.{fits}
use Rattle.requirement.proofs.match_entries.Goals as goal

pub loop-i-init : goal.loop-i-init
loop-i-init c =
    let v = c.of-sums.ensures.volumes in
    let s = c.of-sums.ensures.sums in
    record {
      rev_is = ap (λ v. v.rev) v ∙ c.of.ensures.0;
      er_is = ap (λ v. v.er) v ∙ c.of.ensures.1;
      passed_are = s.0;
      so_far = rw (s.1, s.2, s.3) (begin _ _ _ _ _ _);
    }

pub pass-made-requires : goal.pass-made-requires
pass-made-requires c =
    let at = c.loop-i.invariant in
    let h : c.loop-i.i < 8 = omega (arith, c.min-count.ensures) in
    rw at.passed_are (fits _ _ _ at.so_far.passed h)

pub loop-i-preserved : goal.loop-i-preserved
loop-i-preserved c =
    let at = c.loop-i.invariant in
    let e = c.pass-made.ensures in
    -- the requirement that is read, and the start of the row, are numbers of an `i64`
    let read : SFits w64 (get_or c.args.requirements c.loop-i.i (pos 0)) = search rules in
    let made : SFits w64 c.pass-made.result.start = search rules in
    let eight : c.min-count.result ≤ 8 = omega (arith, c.min-count.ensures) in
    record {
      rev_is = ap (λ v. v.rev) e.volumes ∙ at.rev_is;
      er_is = ap (λ v. v.er) e.volumes ∙ at.er_is;
      passed_are = omega (arith, e.passed, at.passed_are);
      so_far = rw (e.backs, e.left, e.shortfall, at.passed_are) (step _ _ _ _ _ _ at.so_far c.loop-i-test.true eight _ (rw (at.rev_is, at.er_is, at.passed_are) at e.row) (search rules)
          (rw (to_z-of_z read, to_z-of_z made) at c.is_noted-same.ensures));
    }

pub returns : goal.returns
returns c =
    let at = c.loop-i.invariant in
    let all : c.loop-i.i ≡ c.min-count.result = omega arith in
    let count : c.min-count.result ≡ min c.args.closed 8 = omega (arith, c.min-count.ensures) in
    rw (c.next.ensures, at.passed_are, all, at.rev_is, ← count) (done _ _ _ _ _ _ at.so_far c.loop-i-test.false)
