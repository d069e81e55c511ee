-- What refusal 10 lets through, and what the standing of a record says of it. Assumes nothing.
use mathlib.Core.Path.{◌≡◌, refl, sym, ◌∙◌}
use mathlib.Core.Bool.{Bool, true, false, not, cond, ◌||◌}
use Prim.Native.Nat.{◌<◌}
use native.Mathlib.Omega.{arith}
use borrow.Author.Tests.{eqb-false, not-true, not-false}
use lib.Dec.{eqb}
use Rattle.std.specs.Prelude.{Option, None, Some}
use Rattle.std.proofs.lemmas.Option.{cond_some}
use Rattle.common.proofs.Tests.{neither}
use Rattle.ledger_record.specs.Rule.{record_rule, standing_of}
use Rattle.ledger_record.specs.declared.Record.{Record}
use Rattle.ledger_record.specs.declared.Standing.{Standing}
use Rattle.ledger_record.proofs.Kept.{closed-most}
use Rattle.ledger.specs.Calls.{unusable, usable_standing}

module _ (r : Record) (e : unusable r ≡ false) where
  pub rule-kept : record_rule r ≡ true
  unfolding unusable
  rule-kept = not-false (record_rule r) (neither (eqb r.closed 8) (not (record_rule r)) e).1

  pub before_eight : r.closed < 8
  unfolding unusable
  before_eight =
      let n = eqb-false r.closed 8 (neither (eqb r.closed 8) (not (record_rule r)) e).0 in
      omega (arith, closed-most r rule-kept)

-- no value where a test fails
pub no_value : {A : Type 0} (b : Bool) (a : A) (o : Option A) → o ≡ cond b (Some a) None → ((x : A) → o ≡ Some x → ⊥) → b ≡ false
no_value true a o e none = absurd (none a e)
no_value false a o e none = refl

-- ---- a record by its standing
module _ (r : Record) where
  pub unusable-is : (s : Standing) → s ≡ standing_of r → eqb r.closed 8 || not s.holds ≡ unusable r
  unfolding unusable standing_of
  unusable-is s is = rw is

module _ (r : Record) {o : Option Standing} (is : o ≡ usable_standing r) where
  pub not_usable : ((s : Standing) → o ≡ Some s → ⊥) → unusable r ≡ true
  not_usable none = not-false (unusable r) (no_value (not (unusable r)) (standing_of r) o is none)

  module _ {s : Standing} (e : o ≡ Some s) where
    there : (not (unusable r) ≡ true) × (standing_of r ≡ s)
    there = cond_some (not (unusable r)) (standing_of r) s (sym is ∙ e)

    pub usable : unusable r ≡ false
    usable = not-true (unusable r) there.0

    pub stands : s ≡ standing_of r
    stands = sym there.1
