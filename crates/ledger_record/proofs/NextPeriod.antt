-- The period after the closed ones, and the record rule by what it begins with. Assumes nothing.
use mathlib.Core.Path.{◌≡◌}
use mathlib.Core.Bool.{Bool, ◌&&◌}
use Prim.Native.Nat.{ℕ, ◌+◌, ◌≤◌, min}
use native.Mathlib.Omega.{arith}
use native.Mathlib.Decide.{dec_le}
use borrow.Author.Tests.{le-leb, lt-leb}
use lib.Dec.{leb, eqb}
use lib.IntN.{ℤ}
use Rattle.common.specs.Answer.{clear}
use Rattle.common.specs.Lists.{sum}
use Rattle.signed.proofs.Orders.{balance}
use Rattle.terms.specs.Terms.{Quantities}
use Rattle.ledger_record.specs.Opening.{opening_causes}
use Rattle.ledger_record.specs.Rule.{start_at, next_start, next_at, entries_rule, totals_rule, passes_both, state_rule, record_rule, standing_of, direction_of}
use Rattle.ledger_record.specs.declared.Direction.{Direction}
use Rattle.ledger_record.specs.declared.Entries.{Entries}
use Rattle.ledger_record.specs.declared.Record.{Record}

pub next-start-is : (q : Quantities) (closed : ℕ) (x : Entries) → closed ≤ 8 → next_start q closed x ≡ (next_at q closed x).start
unfolding next_start start_at
next-start-is q closed x h =
    let p : min closed 8 ≡ closed = omega arith in
    rw (le-leb closed 8 h, p)

-- the rule as it is tested
module _ (r : Record) where
  abbrev tested : ℤ → ℤ → Bool
  tested low high =
      leb r.closed 8
      && clear (opening_causes r.terms r.curves r.size r.first)
      && entries_rule r.terms.low r.closed r.low
      && entries_rule r.terms.high r.closed r.high
      && totals_rule r
      && (passes_both r.state r.size low high && eqb (r.state + (sum r.totals.sold + r.totals.delivered)) (r.first + sum r.totals.bought + r.totals.taken))

  pub rule-by-next : record_rule r ≡ tested (next_at r.terms.low r.closed r.low).start (next_at r.terms.high r.closed r.high).start
  unfolding record_rule state_rule
  rule-by-next = by (dec_le r.closed 8)
    where
      by : Dec (r.closed ≤ 8) → record_rule r ≡ tested (next_at r.terms.low r.closed r.low).start (next_at r.terms.high r.closed r.high).start
      by (yes h) =
          let t = r.totals in
          rw (
            balance r.state r.first (sum t.bought) (sum t.sold) t.delivered t.taken,
            next-start-is r.terms.low r.closed r.low h,
            next-start-is r.terms.high r.closed r.high h,
          )
      by (no h) = rw (lt-leb r.closed 8 (omega arith))

  -- what the tests of `standing_of` come to
  pub standing-is : (opens totals passes fits : Bool) (low high : Direction)
      → opens ≡ clear (opening_causes r.terms r.curves r.size r.first)
      → low ≡ direction_of r.terms.low r.closed r.low
      → high ≡ direction_of r.terms.high r.closed r.high
      → totals ≡ totals_rule r
      → passes ≡ passes_both r.state r.size low.next.start high.next.start
      → fits ≡ eqb (r.state + (sum r.totals.sold + r.totals.delivered)) (r.first + sum r.totals.bought + r.totals.taken)
      → record { holds = leb r.closed 8 && opens && low.holds && high.holds && totals && (passes && fits); low = low.next; high = high.next } ≡ standing_of r
  unfolding standing_of
  standing-is opens totals passes fits low high o l h t p f = rw (p, o, l, h, t, f, rule-by-next)
