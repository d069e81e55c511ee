-- What paper 01 says of every record that keeps the record rule. Assumes nothing.
use mathlib.Core.Path.{◌≡◌}
use mathlib.Core.Bool.{true}
use Prim.Native.Nat.{ℕ, suc, ◌≤◌, ◌<◌}
use native.Mathlib.Omega.{arith}
use lib.IntN.{pos}
use Rattle.common.specs.Periods.{of_period}
use Rattle.terms.specs.Terms.{Quantities, Q, REV, ER}
use Rattle.requirement.proofs.Laws.{start-unmoved}
use Rattle.ledger_record.specs.Rule.{start_at, entries_rule}
use Rattle.ledger_record.specs.declared.Entries.{Entries}
use Rattle.ledger_record.proofs.Kept.{bound-most}

-- a direction of quantity 0 has requirement 0
module _ (q : Quantities) (closed : ℕ) (x : Entries) (none : Q q ≡ 0) (rule : entries_rule q closed x ≡ true) where
  bound-zero : (k : ℕ) → k < 8 → of_period x.bounds (suc k) ≡ 0
  bound-zero k h = omega (arith, none, bound-most q closed x k h rule)

  pub no-quantity : (i : ℕ) → i ≤ 9 → start_at q x i ≡ pos 0
  unfolding start_at
  no-quantity i h =
      let z : REV q ≡ 0 = omega (arith, none) in
      rw (start-unmoved (REV q) (ER q) (of_period x.bounds) i (λ k l. bound-zero k (omega arith)), z)
