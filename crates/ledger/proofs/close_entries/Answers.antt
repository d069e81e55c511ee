-- `ledger::close_entries` meets its contract. Assumes nothing.
use mathlib.Core.Path.{◌≡◌, ap}
use Prim.Native.Nat.{ℕ, ◌<◌}
use native.Mathlib.Omega.{arith}
use borrow.Author.Rules.{rules}
use lib.ListN.{length, get_or}
use mir.Facts.{to_z-of_z}
use mir.Syntax.{w32, w64}
use mir.Val.{Fits, SFits}
use Rattle.requirement.specs.declared.Next.{Next}
use Rattle.ledger.proofs.NextPeriod.{left-fits, closed-by-next}
use Rattle.ledger.proofs.close_entries.Goals as goal

pub overflow_add-bound : goal.overflow_add-bound
overflow_add-bound c =
    let a = c.args in
    let bound-fits : (k : ℕ) → k < 8 → Fits w32 (get_or a.entries.now.bounds k 0) = λ k h. search rules in
    omega (arith, ap (λ (n : Next). n.left) c.requires.1, left-fits a.q a.closed a.entries.now (λ k h. (bound-fits k h).fits))

pub returns : goal.returns
returns c =
    let a = c.args in
    let start-read : SFits w64 a.next.start = search rules in
    let eight : length a.entries.now.bounds ≡ 8 = search rules in
    rw (to_z-of_z start-read, c.min.ensures, c.of.ensures, c.requires.1) (closed-by-next a.q a.entries.now a.closed a.bound c.requires.0 eight)
