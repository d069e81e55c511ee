-- What a record that keeps the record rule tells of its numbers. Assumes nothing.
use mathlib.Core.Path.{◌≡◌}
use mathlib.Core.Bool.{Bool, true, false, ◌&&◌}
use Prim.Native.Nat.{ℕ, suc, ◌-◌, ◌*◌, ◌≤◌, ◌<◌}
use native.Mathlib.Omega.{arith}
use borrow.Author.Tests.{leb-true, eqb-true, ltb-false}
use lib.Dec.{leb}
use lib.ListN.{length}
use Rattle.common.specs.Answer.{clear}
use Rattle.common.specs.Lists.{sum}
use Rattle.common.specs.Periods.{of_period}
use Rattle.common.proofs.Lists.{sum-entries}
use Rattle.common.proofs.Periods.{period-holds}
use Rattle.common.proofs.Tests.{both_true}
use Rattle.terms.specs.Terms.{Quantities, Q, above1000}
use Rattle.ledger_record.specs.Opening.{opening_causes}
use Rattle.ledger_record.specs.Rule.{entry_rule, entries_rule, totals_rule, state_rule, record_rule}
use Rattle.ledger_record.specs.declared.Entries.{Entries}
use Rattle.ledger_record.specs.declared.Record.{Record}
use Rattle.ledger_record.proofs.Openings.{LetThrough, let_through}

-- a bound is at most 500 × Q, whether its period is closed or not
pub bound-most : (q : Quantities) (closed : ℕ) (x : Entries) (k : ℕ) → k < 8 → entries_rule q closed x ≡ true → of_period x.bounds (suc k) ≤ 500 * Q q
unfolding entries_rule
bound-most q closed x k h e = by (leb (suc k) closed) (period-holds (λ (i : ℕ). entry_rule q x i (leb i closed)) 8 k e h)
  where
    b : ℕ
    b = of_period x.bounds (suc k)

    by : (c : Bool) → entry_rule q x (suc k) c ≡ true → b ≤ 500 * Q q
    by true e = leb-true b (500 * Q q) (both_true _ _ e).0
    by false e =
        let z = eqb-true b 0 (both_true _ _ e).0 in
        omega arith

sum-most : (q : Quantities) (closed : ℕ) (x : Entries) → length x.bounds ≡ 8 → above1000 q ≡ false → entries_rule q closed x ≡ true → sum x.bounds ≤ 4000000
sum-most q closed x long few e =
    let each = sum-entries (500 * Q q) x.bounds (λ i l. let p : suc i - 1 ≡ i = omega arith in rw p at (bound-most q closed x i (omega arith) e)) in
    omega (arith, rw long at each, ltb-false 1000 (Q q) few)

module _ (r : Record) where
  -- the rule's parts
  record Parts : Type 0 where
    closed-holds : leb r.closed 8 ≡ true
    opening-holds : clear (opening_causes r.terms r.curves r.size r.first) ≡ true
    low-holds : entries_rule r.terms.low r.closed r.low ≡ true
    high-holds : entries_rule r.terms.high r.closed r.high ≡ true
    totals-hold : totals_rule r ≡ true
    state-holds : state_rule r ≡ true

  parts : record_rule r ≡ true → Parts
  unfolding record_rule
  parts e =
      let opens = clear (opening_causes r.terms r.curves r.size r.first) in
      let low = entries_rule r.terms.low r.closed r.low in
      let high = entries_rule r.terms.high r.closed r.high in
      let z = both_true (leb r.closed 8 && opens && low && high && totals_rule r) (state_rule r) e in
      let y = both_true (leb r.closed 8 && opens && low && high) (totals_rule r) z.0 in
      let x = both_true (leb r.closed 8 && opens && low) high y.0 in
      let w = both_true (leb r.closed 8 && opens) low x.0 in
      let v = both_true (leb r.closed 8) opens w.0 in
      record {
        closed-holds = v.0;
        opening-holds = v.1;
        low-holds = w.1;
        high-holds = x.1;
        totals-hold = y.1;
        state-holds = z.1;
      }

  pub closed-most : record_rule r ≡ true → r.closed ≤ 8
  closed-most e = leb-true r.closed 8 (parts e).closed-holds

  pub opened : record_rule r ≡ true → LetThrough r.terms r.curves r.size r.first
  opened e = let_through r.terms r.curves r.size r.first (parts e).opening-holds

  -- where the arrays have eight entries, the totals are in range
  pub record Kept : Type 0 where
    pub bought-most : sum r.totals.bought ≤ 10000000 * r.closed
    pub sold-most : sum r.totals.sold ≤ 10000000 * r.closed
    pub delivered_most : r.totals.delivered ≤ 4000000
    pub taken_most : r.totals.taken ≤ 4000000
    pub state-most : r.state ≤ r.size

  pub kept : length r.low.bounds ≡ 8 → length r.high.bounds ≡ 8 → record_rule r ≡ true → Kept
  unfolding totals_rule state_rule
  kept low-long high-long e =
      let p = parts e in
      let f = opened e in
      let bought-in = leb (sum r.totals.bought) (10000000 * r.closed) in
      let sold-in = leb (sum r.totals.sold) (10000000 * r.closed) in
      let delivered-in = leb r.totals.delivered (sum r.low.bounds) in
      let t = both_true (bought-in && sold-in && delivered-in) (leb r.totals.taken (sum r.high.bounds)) p.totals-hold in
      let d = both_true (bought-in && sold-in) delivered-in t.0 in
      let b = both_true bought-in sold-in d.0 in
      let s₃ = both_true (leb r.state r.size && _ && _) _ p.state-holds in
      let s₂ = both_true (leb r.state r.size && _) _ s₃.0 in
      let s₁ = both_true (leb r.state r.size) _ s₂.0 in
      record {
        bought-most = leb-true (sum r.totals.bought) (10000000 * r.closed) b.0;
        sold-most = leb-true (sum r.totals.sold) (10000000 * r.closed) b.1;
        delivered_most = omega (arith, leb-true r.totals.delivered (sum r.low.bounds) d.1, sum-most r.terms.low r.closed r.low low-long f.low-quantity p.low-holds);
        taken_most = omega (arith, leb-true r.totals.taken (sum r.high.bounds) t.1, sum-most r.terms.high r.closed r.high high-long f.high-quantity p.high-holds);
        state-most = leb-true r.state r.size s₁.0;
      }
