-- The calls by what the next period begins with: floor and ceiling, and the entries of a closing. Assumes nothing.
use mathlib.Core.Path.{◌≡◌, ap, ◌∙◌}
use mathlib.Core.Bool.{Bool, false}
use Prim.Native.Nat.{ℕ, suc, ◌+◌, ◌-◌, ◌*◌, ◌^◌, ◌≤◌, ◌<◌, min}
use native.Mathlib.Omega.{arith}
use borrow.Author.Tests.{ltb-false}
use lib.IntN.{ℤ, pos, ◌+ℤ◌, ◌-ℤ◌}
use lib.ListN.{length, get_or, set}
use lib.Seq.{get_or-set_same, get_or-set_other}
use mir.Facts.{to_z-of_z}
use mir.Syntax.{w64}
use mir.Val.{SFits, to_z, of_z}
use Rattle.std.specs.Prelude.{Option, Some}
use Rattle.common.specs.Periods.{of_period}
use Rattle.signed.specs.Sign.{within}
use Rattle.terms.specs.Terms.{Quantities, Q, REV, ER, above1000}
use Rattle.requirement.specs.Requirement.{sched}
use Rattle.requirement.specs.declared.Next.{Next}
use Rattle.requirement.proofs.Laws.{back-recovery, left_most, left-local, start-local}
use Rattle.requirement.proofs.Need.{start-above}
use Rattle.ledger_record.specs.Rule.{start_at, back_at, next_at, standing_of}
use Rattle.ledger_record.specs.declared.Entries.{Entries}
use Rattle.ledger_record.specs.declared.Record.{Record}
use Rattle.ledger_record.specs.declared.Standing.{Standing}
use Rattle.ledger_record.proofs.Openings.{LetThrough}
use Rattle.ledger_record.proofs.Kept.{opened}
use Rattle.ledger.specs.Calls.{accepts, need, floor, ceiling, need_of, NeedFits, closed_entries, usable_standing}
use Rattle.ledger.proofs.Usable.{rule-kept, before_eight, usable, stands}

-- what is needed where the next period begins so
abbrev needed : Next → ℤ
needed n = need_of n.start n.back

-- ---- needs

need-is : (q : Quantities) (closed : ℕ) (x : Entries) → closed < 8 → needed (next_at q closed x) ≡ need q x (suc closed)
unfolding need start_at back_at
need-is q closed x h = let p : min closed 8 ≡ closed = omega arith in rw p

need-fits : (q : Quantities) (closed : ℕ) (x : Entries) → above1000 q ≡ false → NeedFits (next_at q closed x)
need-fits q closed x few =
    let i = suc (min closed 8) in
    let most = ltb-false 1000 (Q q) few in
    record {
      start_most = omega (arith, start-above (REV q) (ER q) (of_period x.bounds) i, most);
      back_most = omega (arith, back-recovery (ER q) (of_period x.bounds) i, most);
    }

-- ---- a record that refusal 10 lets through, by its standing
module _ (r : Record) {o : Option Standing} (is : o ≡ usable_standing r) {s : Standing} (e : o ≡ Some s) where
  pub was-opened : LetThrough r.terms r.curves r.size r.first
  was-opened = opened r (rule-kept r (usable r is e))

  pub needs_fit : NeedFits s.low × NeedFits s.high
  unfolding standing_of
  needs_fit =
      rw (stands r is e) (need-fits r.terms.low r.closed r.low was-opened.low-quantity, need-fits r.terms.high r.closed r.high was-opened.high-quantity)

  module _ {low high : ℕ} (needs : (pos low ≡ needed s.low) × (pos high ≡ needed s.high)) where
    pub floor-is : pos low ≡ floor r
    unfolding standing_of
    floor-is = needs.0 ∙ rw (stands r is e) (need-is r.terms.low r.closed r.low (before_eight r (usable r is e)))

    pub ceiling-is : pos r.size -ℤ pos high ≡ ceiling r
    unfolding standing_of
    ceiling-is = ap (λ z. pos r.size -ℤ z) (needs.1 ∙ rw (stands r is e) (need-is r.terms.high r.closed r.high (before_eight r (usable r is e))))

    -- of a purchase that is an i64
    pub accepts-is : (p : ℤ) → SFits w64 p → {b : Bool} → b ≡ within (pos low) (pos r.state +ℤ to_z w64 (of_z w64 p)) (pos r.size -ℤ pos high) → b ≡ accepts r p
    unfolding accepts
    accepts-is p fits test = test ∙ rw (to_z-of_z fits, floor-is, ceiling-is)

-- ---- entries

pub left-fits : (q : Quantities) (closed : ℕ) (x : Entries) → ((k : ℕ) → k < 8 → get_or x.bounds k 0 < 2 ^ 32) → (next_at q closed x).left ≤ 2 ^ 32 * 8
left-fits q closed x each =
    let n = min closed 8 in
    omega (arith, left_most (ER q) (of_period x.bounds) (2 ^ 32) n (λ k l. let p : suc k - 1 ≡ k = omega arith in rw p (omega (arith, each k (omega arith)))))

-- the bounds before the next period are as they were
module _ (q : Quantities) (x : Entries) (closed bound : ℕ) (h : closed < 8) (long : length x.bounds ≡ 8) where
  abbrev e : ℕ → ℕ
  e = of_period x.bounds

  abbrev e⁺ : ℕ → ℕ
  e⁺ = of_period (set x.bounds closed bound)

  before : (k : ℕ) → suc k < suc closed → e⁺ (suc k) ≡ e (suc k)
  before k l = get_or-set_other x.bounds closed (suc k - 1) bound 0 (omega arith)

  here : e⁺ (suc closed) ≡ bound
  here =
      let p : suc closed - 1 ≡ closed = omega arith in
      rw p (get_or-set_same x.bounds closed bound 0 (omega arith))

  pub closed-by-next :
      let n = next_at q closed x in
      record { bounds = set x.bounds closed bound; starts = set x.starts closed n.start; scheds = set x.scheds closed (min (bound + n.left) (ER q)) }
      ≡ closed_entries q x closed bound
  unfolding closed_entries sched
  closed-by-next =
      let p : min closed 8 ≡ closed = omega arith in
      rw (p, here, left-local (ER q) e⁺ e (suc closed) before, start-local (ER q) e⁺ e (REV q) (suc closed) before)
