-- `payment-laws`: never more than price times quantity and time, and nothing for an empty list. Assumes nothing.
use mathlib.Core.Path.{◌≡◌, refl, sym}
use mathlib.Core.Bool.{true, not}
use mathlib.Core.List.{List, []}
use Prim.Native.Nat.{ℕ, ◌+◌, ◌*◌, ◌≤◌, max}
use native.Mathlib.Nat.{mul-le-mul, mul-le-mul_left}
use native.Mathlib.Omega.{arith}
use borrow.Author.Tests.{ltb-false, not-true}
use lib.Dec.{ltb}
use lib.IntN.{ℤ, pos}
use lib.Signed.{◌≤ℤ◌}
use Rattle.common.specs.Answer.{given}
use Rattle.common.specs.Lists.{sum, every}
use Rattle.common.proofs.Answers.{given-value, given-clear}
use Rattle.common.proofs.Tests.{both_true}
use Rattle.payment.specs.Exact.{total, rounded}
use Rattle.payment.specs.Payment.{pieces_rule, amount, gross, payment_causes, paying, PaymentLaws}
use Rattle.payment.specs.declared.Piece.{Piece}
use Rattle.payment.proofs.Amounts.{all, gross-is, sum_is}
use Rattle.payment.proofs.Answers.{paid}
use Rattle.payment.proofs.Rounding.{rounded-mono}

amount-most : (price adjustment k f : ℕ) (ps : List Piece) → k ≤ 1000 → f ≤ 1000 → amount price adjustment k f ps ≤ℤ gross price ps
unfolding amount gross
amount-most price adjustment k f ps hk hf =
    let kf : k * f ≤ 1000000 = mul-le-mul hk hf in
    rounded-mono (sum_is price adjustment k f ps) (gross-is price ps) (omega arith)
    (at_most (all ps) (price * 1000000) (max price adjustment) (k * f) (mul-le-mul_left (all ps * max price adjustment) kf))
  where
    at_most : (w a m kf : ℕ) → w * m * kf ≤ w * m * 1000000 → w * (a + m * kf) + w * 0 ≤ w * a + w * (m * 1000000)
    at_most w a m kf h = omega arith

amount-none : (price adjustment k f : ℕ) → amount price adjustment k f [] ≡ pos 0
unfolding amount total rounded
amount-none price adjustment k f = refl

module _ (price adjustment k f : ℕ) (ps : List Piece) where
  -- where an amount is given, K and F are within their limits
  factors : {z : ℤ} → paying price adjustment k f ps ≡ given z → (k ≤ 1000) × (f ≤ 1000)
  unfolding paying payment_causes
  factors {z} e =
      let first = both_true (not (ltb 10000 price)) _ (given-clear (payment_causes price adjustment k f ps) (amount price adjustment k f ps) z e) in
      let second = both_true (not (ltb 10000 adjustment)) _ first.1 in
      let third = both_true (not (ltb 1000 k)) _ second.1 in
      let fourth = both_true (not (ltb 1000 f)) _ third.1 in
      (ltb-false 1000 k (not-true (ltb 1000 k) third.0), ltb-false 1000 f (not-true (ltb 1000 f) fourth.0))

  is-amount : {z : ℤ} → paying price adjustment k f ps ≡ given z → amount price adjustment k f ps ≡ z
  unfolding paying
  is-amount {z} e = given-value (payment_causes price adjustment k f ps) (amount price adjustment k f ps) z e

  never_more : (z : ℤ) → paying price adjustment k f ps ≡ given z → z ≤ℤ gross price ps
  never_more z e =
      let h = factors e in
      rw (← is-amount e) (amount-most price adjustment k f ps h.0 h.1)

  empty : price ≤ 10000 → adjustment ≤ 10000 → k ≤ 1000 → f ≤ 1000 → ps ≡ [] → paying price adjustment k f ps ≡ given (pos 0)
  unfolding pieces_rule every sum
  empty p a hk hf none =
      let rule : pieces_rule ps ≡ true = rw none in
      let zero : pos 0 ≡ amount price adjustment k f ps = rw none (sym (amount-none price adjustment k f)) in
      sym (paid price adjustment k f ps p a hk hf rule zero).0

  pub payment-laws : PaymentLaws price adjustment k f ps
  payment-laws = record { never_more = never_more; empty = empty }
