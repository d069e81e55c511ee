-- What a closing learns on its way: the most that an accepted purchase is, what a settled delivery and taking are, and what the
-- period energy says. Assumes nothing.
use mathlib.Core.Path.{◌≡◌, refl, ap, sym, ◌∙◌}
use mathlib.Core.Bool.{Bool, true, false, not, cond, ◌&&◌}
use mathlib.Core.List.{List}
use Prim.Native.Nat.{ℕ, suc, ◌≤◌}
use native.Mathlib.Omega.{arith}
use lib.IntN.{ℤ, pos, ◌+ℤ◌}
use Rattle.std.specs.Prelude.{Result, Ok, Err}
use Rattle.common.specs.Answer.{refused, given}
use Rattle.common.specs.declared.Directions.{Directions}
use Rattle.common.specs.Periods.{of_period}
use Rattle.common.proofs.Tests.{both_true}
use Rattle.signed.specs.Sign.{above, below, within}
use Rattle.signed.proofs.Whole.{whole, one-sided, sum, less}
use Rattle.signed.proofs.Orders.{within-true}
use Rattle.terms.specs.Terms.{Quantities, REV, ER, above1000}
use Rattle.requirement.proofs.Need.{needed, needed-is}
use Rattle.energy.specs.Curve.{Curves, curves_rule}
use Rattle.energy.specs.Period.{good_readings, bounds_of, period_energy, answer_of}
use Rattle.energy.specs.declared.period.EnergyRefusal.{EnergyRefusal}
use Rattle.ledger_record.specs.Rule.{start_at, back_at}
use Rattle.ledger_record.specs.declared.Entries.{Entries}
use Rattle.ledger_record.specs.declared.Record.{Record}
use Rattle.ledger.specs.Calls.{need, floor, ceiling, accepts, settles}

-- ---- an accepted purchase lies within the size

need-is : (q : Quantities) (x : Entries) (i : ℕ) → need q x i ≡ pos (needed (REV q) (ER q) (of_period x.bounds) i)
unfolding need start_at back_at
need-is q x i = needed-is (REV q) (ER q) (of_period x.bounds) i

pub accepted-most : (r : Record) (p : ℤ) → accepts r p ≡ true → r.state ≤ r.size → r.size ≤ 10000000 → (above p ≤ 10000000) × (below p ≤ 10000000)
unfolding accepts
accepted-most r p e full large =
    let w = within-true (floor r) (pos r.state +ℤ p) (ceiling r) e in
    let low = need-is r.terms.low r.low (suc r.closed) in
    let high = need-is r.terms.high r.high (suc r.closed) in
    let n = need r.terms.high r.high (suc r.closed) in (
      omega (arith, whole, w, sum (pos r.state) p, less (pos r.size) n, one-sided p, ap below high),
      omega (arith, whole, w, sum (pos r.state) p, one-sided p, ap below low),
    )

-- ---- what is delivered and taken is at most the bounds where a closing settles

pub settled-most : (low high size : ℕ) (d k new : ℤ) → settles low high size d k new ≡ true → (above d ≤ low) × (above k ≤ high)
settled-most low high size d k new e =
    let inside = both_true (within (pos 0) d (pos low) && within (pos 0) k (pos high)) (within (pos 0) new (pos size)) e in
    let each = both_true (within (pos 0) d (pos low)) (within (pos 0) k (pos high)) inside.0 in (
      omega (arith, whole, within-true (pos 0) d (pos low) each.0, one-sided d),
      omega (arith, whole, within-true (pos 0) k (pos high) each.1, one-sided k),
    )

-- ---- the period energy, where 1 and 5 do not hold
module _ (low high : Quantities) (c : Curves) (xs : List ℕ) (l : above1000 low ≡ false) (h : above1000 high ≡ false) (k : curves_rule c ≡ true)
    (r : Result (Directions ℕ) EnergyRefusal) (e : answer_of r ≡ period_energy low high c xs) where
  energy-is : answer_of r ≡ cond (not (good_readings xs)) (refused 6) (given (bounds_of low high c xs))
  unfolding period_energy
  energy-is = e ∙ rw (l, h, k)

  -- no bounds: 6 holds
  pub no-bounds : ((b : Directions ℕ) → r ≡ Ok b → ⊥) → good_readings xs ≡ false
  no-bounds t = by r t (good_readings xs) energy-is
    where
      by : (r : Result (Directions ℕ) EnergyRefusal) → ((b : Directions ℕ) → r ≡ Ok b → ⊥) → (g : Bool)
          → answer_of r ≡ cond (not g) (refused 6) (given (bounds_of low high c xs)) → g ≡ false
      by r t false p = refl
      by (Ok b) t true p = absurd (t b refl)
      by (Err x) t true p = let z : ◌≡◌ {A = ℕ} 0 1 = cc in absurd (omega arith)

  -- bounds: they are the readings', and 6 does not hold
  pub bounds-are : (b : Directions ℕ) → r ≡ Ok b → (good_readings xs ≡ true) × (b ≡ bounds_of low high c xs)
  bounds-are b q = by (good_readings xs) refl (sym (ap answer_of q) ∙ energy-is)
    where
      same : (a b : Directions ℕ) → given a ≡ given b → a ≡ b
      same a b p = cc

      by : (g : Bool) → good_readings xs ≡ g → given b ≡ cond (not g) (refused 6) (given (bounds_of low high c xs))
          → (good_readings xs ≡ true) × (b ≡ bounds_of low high c xs)
      by false f p = let z : ◌≡◌ {A = ℕ} 0 1 = cc in absurd (omega arith)
      by true f p = (f, same b (bounds_of low high c xs) p)
