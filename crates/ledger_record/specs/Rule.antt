-- Paper 01, "Ledger", and paper 02, No. 7: the record rule. Assumes nothing.
use Rattle.std.specs.Prelude.{Bool, cond, ◌&&◌, ℕ, suc, ◌*◌, min, leb, eqb, ℤ, pos, ◌+ℤ◌, ◌-ℤ◌}
use Rattle.std.specs.Int.Signed.{le_z}
use Rattle.common.specs.Answer.{clear}
use Rattle.common.specs.Lists.{sum, every}
use Rattle.common.specs.Periods.{periods_to, of_period}
use Rattle.signed.specs.Sign.{eq_z}
use Rattle.terms.specs.Terms.{Quantities, Q, REV, ER}
use Rattle.requirement.specs.Requirement.{sched, back, start, noted, next_of, requirement_in}
use Rattle.requirement.specs.declared.Next.{Next}
use Rattle.ledger_record.specs.declared.Direction.{Direction}
use Rattle.ledger_record.specs.declared.Entries.{Entries}
use Rattle.ledger_record.specs.declared.Record.{Record}
use Rattle.ledger_record.specs.declared.Standing.{Standing}
use Rattle.ledger_record.specs.Opening.{opening_causes}

-- ---- a direction: its quantities, and the bounds in its entries

unfoldable pub start_at : Quantities → Entries → ℕ → ℤ
start_at q x i = start (REV q) (ER q) (of_period x.bounds) i

unfoldable pub sched_at : Quantities → Entries → ℕ → ℕ
sched_at q x i = sched (ER q) (of_period x.bounds) i

unfoldable pub back_at : Quantities → Entries → ℕ → ℕ
back_at q x i = back (ER q) (of_period x.bounds) i

-- the requirement in the entries of period i
abbrev pub requirement_of : Entries → ℕ → ℤ
requirement_of x = requirement_in x.starts

-- the entries of period i, closed or not: bounds are at most 500 × Q; requirements and schedules are those of the bounds, and
-- entries of periods not closed are 0
abbrev pub entry_rule : Quantities → Entries → ℕ → Bool → Bool
entry_rule q x i closed =
    cond closed
    (leb (of_period x.bounds i) (500 * Q q) && noted (requirement_of x i) (of_period x.scheds i) (start_at q x i) (sched_at q x i))
    (eqb (of_period x.bounds i) 0 && noted (requirement_of x i) (of_period x.scheds i) (pos 0) 0)

unfoldable pub entries_rule : Quantities → ℕ → Entries → Bool
entries_rule q closed x = every (λ (i : ℕ). entry_rule q x i (leb i closed)) (periods_to 8)

-- ---- the whole record

-- bought and sold, summed over the traders, are each at most 10,000,000 per period closed, delivered at most the sum of the low
-- bounds, taken at most that of the high
unfoldable pub totals_rule : Record → Bool
totals_rule r =
    leb (sum r.totals.bought) (10000000 * r.closed)
    && leb (sum r.totals.sold) (10000000 * r.closed)
    && leb r.totals.delivered (sum r.low.bounds)
    && leb r.totals.taken (sum r.high.bounds)

-- the next start, that of the period after the closed ones; 0 where more than eight are closed
unfoldable pub next_start : Quantities → ℕ → Entries → ℤ
next_start q closed x = cond (leb closed 8) (start_at q x (suc closed)) (pos 0)

-- the state lies in 0..size and passes both directions at these starts; state is export energy, and import energy is size
-- less state
abbrev pub passes_both : ℕ → ℕ → ℤ → ℤ → Bool
passes_both state size low high = leb state size && le_z low (pos state) && le_z high (pos size -ℤ pos state)

-- it passes them at the next start, and equals the first state plus all purchases less all sales, less delivered, plus taken
unfoldable pub state_rule : Record → Bool
state_rule r =
    passes_both r.state r.size (next_start r.terms.low r.closed r.low) (next_start r.terms.high r.closed r.high)
    && eq_z (pos r.state)
    (pos r.first +ℤ pos (sum r.totals.bought) -ℤ pos (sum r.totals.sold) -ℤ pos r.totals.delivered +ℤ pos r.totals.taken)

-- periods closed 0 to 8, and what opening checks holds
unfoldable pub record_rule : Record → Bool
record_rule r =
    leb r.closed 8
    && clear (opening_causes r.terms r.curves r.size r.first)
    && entries_rule r.terms.low r.closed r.low
    && entries_rule r.terms.high r.closed r.high
    && totals_rule r
    && state_rule r

-- ---- what the calls need of a record

-- what the period after the closed ones begins with in a direction; after more than eight, as after eight
abbrev pub next_at : Quantities → ℕ → Entries → Next
next_at q closed x = next_of (REV q) (ER q) (of_period x.bounds) (suc (min closed 8))

-- whether the record keeps the rule, and what the next period begins with in each direction
unfoldable pub standing_of : Record → Standing
standing_of r =
    record {
      holds = record_rule r;
      low = next_at r.terms.low r.closed r.low;
      high = next_at r.terms.high r.closed r.high;
    }

-- ---- what private functions make

-- `direction_of`
abbrev pub direction_of : Quantities → ℕ → Entries → Direction
direction_of q closed x = record { holds = entries_rule q closed x; next = next_at q closed x }

-- `entries_within`: the rule of the entries but for what the bounds of the closed periods make of them
abbrev pub within_rule : ℕ → ℕ → Entries → Bool
within_rule most closed x =
    every
    (λ (i : ℕ). cond (leb i closed) (leb (of_period x.bounds i) most) (eqb (of_period x.bounds i) 0 && noted (requirement_of x i) (of_period x.scheds i) (pos 0) 0))
    (periods_to 8)
