-- What opening's checks let through, as facts, and what their answer says. Assumes nothing.
use mathlib.Core.Path.{◌≡◌, ap, ◌∙◌}
use mathlib.Core.Bool.{true, false, ◌&&◌, ◌||◌}
use mathlib.Core.List.{List}
use Prim.Native.Nat.{ℕ, ◌+◌, ◌≤◌}
use native.Mathlib.Omega.{arith}
use borrow.Author.Tests.{ltb-false, not-false}
use lib.Dec.{ltb, eqb}
use lib.IntN.{pos, ◌-ℤ◌}
use lib.Signed.{lt_z}
use Rattle.std.specs.Prelude.{Result, Ok, Err}
use Rattle.std.specs.Result.{is_ok}
use Rattle.common.specs.Answer.{is_given, Cause, checked, clear}
use Rattle.common.proofs.Answers.{given_is, holds_of, clear_of}
use Rattle.common.proofs.Tests.{neither}
use Rattle.signed.proofs.Whole.{whole, less}
use Rattle.signed.proofs.Orders.{lt_z-false}
use Rattle.terms.specs.Terms.{Q, REV, above1000}
use Rattle.terms.specs.declared.Terms.{Terms}
use Rattle.energy.specs.Curve.{curves_rule}
use Rattle.energy.specs.Curve.{Curves}
use Rattle.ledger_record.specs.Opening.{opening_causes, answer_of}
use Rattle.ledger_record.specs.declared.OpenRefusal.{OpenRefusal}

module _ (t : Terms) (curves : Curves) (size first : ℕ) where
  pub record LetThrough : Type 0 where
    pub low-quantity : above1000 t.low ≡ false
    pub high-quantity : above1000 t.high ≡ false
    pub curves-hold : curves_rule curves ≡ true
    pub size-most : size ≤ 10000000
    pub size-least : REV t.low + REV t.high ≤ size
    pub first-least : REV t.low ≤ first
    pub first-most : first + REV t.high ≤ size

  pub let_through : clear (opening_causes t curves size first) ≡ true → LetThrough
  unfolding opening_causes
  let_through e =
      let room = pos size -ℤ pos (REV t.high) in
      let none-holds : (k : ℕ) → holds_of k (opening_causes t curves size first) ≡ false = λ k. clear_of k (opening_causes t curves size first) e in
      let none = eqb (Q t.low) 0 && eqb (Q t.high) 0 in
      let over = (neither (above1000 t.low || above1000 t.high) none (none-holds 1)).0 in
      let q = neither (above1000 t.low) (above1000 t.high) over in
      let s = neither (ltb 10000000 size) (ltb size (REV t.low + REV t.high)) (none-holds 3) in
      let f = neither (ltb first (REV t.low)) (lt_z room (pos first)) (none-holds 4) in
      let most = lt_z-false room (pos first) f.1 in
      let least : REV t.low + REV t.high ≤ size = ltb-false size (REV t.low + REV t.high) s.1 in
      record {
        low-quantity = q.0;
        high-quantity = q.1;
        curves-hold = not-false (curves_rule curves) (none-holds 5);
        size-most = ltb-false 10000000 size s.0;
        size-least = least;
        first-least = ltb-false first (REV t.low) f.0;
        first-most = omega (arith, whole, less (pos size) (pos (REV t.high)));
      }

-- ---- the checks' answer: nothing is refused where no cause holds
pub ok_is : (r : Result Unit OpenRefusal) (causes : List Cause) → answer_of r ≡ checked causes tt → is_ok r ≡ clear causes
ok_is (Ok u) causes e = ap is_given e ∙ given_is causes tt
ok_is (Err x) causes e = ap is_given e ∙ given_is causes tt
