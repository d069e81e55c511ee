-- The greater of 0 and start + back, as a natural number. Assumes nothing.
use mathlib.Core.Path.{◌≡◌, ap, ◌∙◌}
use Prim.Native.Nat.{ℕ, ◌+◌, ◌-◌, ◌≤◌}
use native.Mathlib.Omega.{arith}
use lib.IntN.{ℤ, pos, ◌+ℤ◌}
use Rattle.signed.specs.Sign.{above, below, greater}
use Rattle.signed.proofs.Whole.{one-sided, sum}
use Rattle.signed.proofs.Orders.{greater-zero}
use Rattle.requirement.specs.Requirement.{start, back}
use Rattle.requirement.proofs.Shortfall.{start-sum, back-le}

pub greater-sum : (s : ℤ) (b : ℕ) → greater (pos 0) (s +ℤ pos b) ≡ pos (above s + b - below s)
greater-sum s b =
    let z = s +ℤ pos b in
    let p : above z ≡ above s + b - below s = omega (arith, sum s (pos b), one-sided z) in
    greater-zero z ∙ ap pos p

module _ (REV ER : ℕ) (e : ℕ → ℕ) (i : ℕ) where
  abbrev pub needed : ℕ
  needed = above (start REV ER e i) + back ER e i - below (start REV ER e i)

  pub needed-is : greater (pos 0) (start REV ER e i +ℤ pos (back ER e i)) ≡ pos needed
  needed-is = greater-sum (start REV ER e i) (back ER e i)

  pub start-above : above (start REV ER e i) ≤ REV
  start-above = omega (arith, start-sum REV ER e i, one-sided (start REV ER e i))

  pub needed-most : needed ≤ REV
  needed-most = omega (arith, start-sum REV ER e i, back-le ER e i)
