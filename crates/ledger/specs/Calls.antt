-- Paper 01, "Ledger", and paper 02, No. 7: checking, proposing and closing, each as its whole answer for any record. Assumes
-- nothing.
use Rattle.std.specs.Prelude.{◌≡◌, Bool, true, false, not, cond, ◌&&◌, ◌||◌, List, [], ◌∷◌, Option, None, Some, Result, ℕ, suc, ◌+◌, ◌-◌, ◌*◌, ◌≤◌, ◌<◌, ◌^◌, leb, eqb, ℤ, pos, ◌+ℤ◌, ◌-ℤ◌, get_or, set}
use Rattle.std.specs.Int.Signed.{lt_z}
use Rattle.common.specs.Answer.{Answer, Cause, cause, checked, answered, answered_with}
use Rattle.common.specs.Periods.{of_period}
use Rattle.signed.specs.Sign.{above, below, greater, within}
use Rattle.terms.specs.Terms.{Quantities, Q, REV, ER}
use Rattle.requirement.specs.Requirement.{sched, start}
use Rattle.requirement.specs.declared.Next.{Next}
use Rattle.energy.specs.Period.{good_readings, low_bound, high_bound}
use Rattle.ledger_record.specs.Rule.{start_at, back_at, record_rule, standing_of}
use Rattle.ledger_record.specs.declared.Entries.{Entries}
use Rattle.ledger_record.specs.declared.Totals.{Totals}
use Rattle.ledger_record.specs.declared.Record.{Record}
use Rattle.ledger_record.specs.declared.Standing.{Standing}
use Rattle.ledger.specs.declared.Closing.{Closing as Asked}
use Rattle.ledger.specs.declared.CheckRefusal.{CheckRefusal}
use Rattle.ledger.specs.declared.CheckRefusal.TheVariants as checks
use Rattle.ledger.specs.declared.ProposeRefusal.{ProposeRefusal}
use Rattle.ledger.specs.declared.ProposeRefusal.TheVariants as proposes
use Rattle.ledger.specs.declared.CloseRefusal.{CloseRefusal}
use Rattle.ledger.specs.declared.CloseRefusal.TheVariants as closes

-- eight periods closed, or record rule broken
unfoldable pub unusable : Record → Bool
unusable r = eqb r.closed 8 || not (record_rule r)

-- ---- checking a purchase p (negative is a sale), with period i next

-- the greater of 0 and start + back
abbrev pub need_of : ℤ → ℕ → ℤ
need_of start back = greater (pos 0) (start +ℤ pos back)

-- of period i
unfoldable pub need : Quantities → Entries → ℕ → ℤ
need q x i = need_of (start_at q x i) (back_at q x i)

-- floor: the low need; ceiling: size less the high need
abbrev pub floor : Record → ℤ
floor r = need r.terms.low r.low (suc r.closed)

abbrev pub ceiling : Record → ℤ
ceiling r = pos r.size -ℤ need r.terms.high r.high (suc r.closed)

-- accepted exactly when floor ≤ state + p ≤ ceiling
unfoldable pub accepts : Record → ℤ → Bool
accepts r p = within (floor r) (pos r.state +ℤ p) (ceiling r)

-- checking refuses only 10, then 8
unfoldable pub checking : Record → ℤ → Answer Unit
checking r p = checked (cause 10 (unusable r) ∷ cause 8 (not (accepts r p)) ∷ []) tt

-- ---- proposing

-- the accepted p nearest 0: what brings the state up to the floor, or down to the ceiling, or 0
abbrev pub toward : ℤ → ℤ → ℤ → ℤ
toward floor state ceiling =
    cond (lt_z state floor) (floor -ℤ state)
    (cond (lt_z ceiling state) (ceiling -ℤ state)
    (pos 0))

unfoldable pub proposal : Record → ℤ
proposal r = toward (floor r) (pos r.state) (ceiling r)

-- proposing refuses only 10
unfoldable pub proposing : Record → Answer ℤ
proposing r = checked (cause 10 (unusable r) ∷ []) (proposal r)

-- ---- closing

-- purchase, readings, energy delivered low and energy taken high, and the trader
pub record Closing : Type 0 where
  pub purchase : ℤ
  pub readings : List ℕ
  pub delivered : ℤ
  pub taken : ℤ
  pub trader : ℕ

-- the closing of these arguments
abbrev pub closing_with : ℤ → List ℕ → ℤ → ℤ → ℕ → Closing
closing_with purchase readings delivered taken trader =
    record { purchase = purchase; readings = readings; delivered = delivered; taken = taken; trader = trader }

-- traders are 1 to 4
abbrev pub is_trader : ℕ → Bool
is_trader w = leb 1 w && leb w 4

-- new state = state + p − delivered + taken
abbrev pub moved : ℤ → ℤ → ℤ → ℤ → ℤ
moved state p delivered taken = state +ℤ p -ℤ delivered +ℤ taken

abbrev pub new_state : ℤ → Closing → ℤ
new_state state c = moved state c.purchase c.delivered c.taken

-- delivered and taken are each from 0 to their bound, and the new state lies in 0..size
abbrev pub settles : ℕ → ℕ → ℕ → ℤ → ℤ → ℤ → Bool
settles low high size delivered taken new =
    within (pos 0) delivered (pos low)
    && within (pos 0) taken (pos high)
    && within (pos 0) new (pos size)

-- a direction's entries with one period more: its bound, its start and its schedule
unfoldable pub closed_entries : Quantities → Entries → ℕ → ℕ → Entries
closed_entries q x closed bound =
    record {
      bounds = set x.bounds closed bound;
      starts = set x.starts closed (start (REV q) (ER q) (of_period (set x.bounds closed bound)) (suc closed));
      scheds = set x.scheds closed (sched (ER q) (of_period (set x.bounds closed bound)) (suc closed));
    }

-- the total of trader w, in a list that begins with trader 1's
abbrev pub of_trader : List ℕ → ℕ → ℕ
of_trader each w = get_or each (w - 1) 0

-- a closing adds to its trader's total, and to nobody else's
abbrev pub added_to : ℕ → List ℕ → ℕ → List ℕ
added_to w each more = set each (w - 1) (of_trader each w + more)

-- purchases above 0 are bought, those below 0 sold
abbrev pub closed_totals : Totals → ℤ → ℤ → ℤ → ℕ → Totals
closed_totals t p delivered taken w =
    record {
      bought = added_to w t.bought (above p);
      sold = added_to w t.sold (below p);
      delivered = t.delivered + above delivered;
      taken = t.taken + above taken;
    }

-- one period more is closed
unfoldable pub closed_record : Record → ℕ → ℕ → ℕ → ℤ → ℤ → ℤ → ℕ → Record
closed_record r low high new p delivered taken w =
    record {
      terms = r.terms;
      curves = r.curves;
      size = r.size;
      first = r.first;
      state = new;
      closed = r.closed + 1;
      low = closed_entries r.terms.low r.low r.closed low;
      high = closed_entries r.terms.high r.high r.closed high;
      totals = closed_totals r.totals p delivered taken w;
    }

module _ (r : Record) (c : Closing) where
  -- the bounds of the period's readings
  abbrev pub low : ℕ
  low = low_bound r.terms.low r.curves c.readings

  abbrev pub high : ℕ
  high = high_bound r.terms.high r.curves c.readings

  abbrev pub record_closed : Record
  record_closed = closed_record r low high (above (new_state (pos r.state) c)) c.purchase c.delivered c.taken c.trader

  -- closing checks 10, 19, 8, 6, 9
  abbrev pub closing_causes : List Cause
  closing_causes =
      cause 10 (unusable r)
      ∷ cause 19 (not (is_trader c.trader))
      ∷ cause 8 (not (accepts r c.purchase))
      ∷ cause 6 (not (good_readings c.readings))
      ∷ cause 9 (not (settles low high r.size c.delivered c.taken (new_state (pos r.state) c)))
      ∷ []

  unfoldable pub closing : Answer Record
  closing = checked closing_causes record_closed

-- ---- the code's closing with its readings, and the number of each of the code's refusals

abbrev pub closing_of : Asked → List ℕ → Closing
closing_of a readings = closing_with a.purchase readings a.delivered a.taken a.trader

abbrev pub check_number : CheckRefusal → ℕ
check_number checks.Unusable = 10
check_number checks.Purchase = 8

abbrev pub check_answer_of : Result Unit CheckRefusal → Answer Unit
check_answer_of = answered check_number

abbrev pub propose_number : ProposeRefusal → ℕ
propose_number proposes.Unusable = 10

abbrev pub propose_answer_of : Result ℤ ProposeRefusal → Answer ℤ
propose_answer_of = answered propose_number

abbrev pub close_number : CloseRefusal → ℕ
close_number closes.Unusable = 10
close_number closes.Trader = 19
close_number closes.Purchase = 8
close_number closes.Readings = 6
close_number closes.Energy = 9

-- what a closing gives is the record afterwards
abbrev pub close_answer_of : Result Unit CloseRefusal → Record → Answer Record
close_answer_of = answered_with close_number

-- ---- what private functions ask and give

-- `usable_standing`: the standing, where refusal 10 does not hold
abbrev pub usable_standing : Record → Option Standing
usable_standing r = cond (not (unusable r)) (Some (standing_of r)) None

-- `need_of`: start and back of a period are such that their sum is a u64
pub record NeedFits (n : Next) : Type 0 where
  pub start_most : above n.start ≤ 2 ^ 44
  pub back_most : n.back ≤ 2 ^ 44

-- `settle`: the new state, where the closing settles
abbrev pub settling : ℕ → ℕ → ℕ → ℤ → ℤ → ℤ → Option ℕ
settling low high size delivered taken new = cond (settles low high size delivered taken new) (Some (above new)) None

-- `add_to`: the trader has a total, which is a u32 with what is added
pub record TotalFits (w : ℕ) (each : List ℕ) (more : ℕ) : Type 0 where
  pub trader : (1 ≤ w) × (w ≤ 4)
  pub fits : of_trader each w + more < 2 ^ 32

-- `add_closing`: each total with one more closing is a u32
pub record TotalsFit (t : Totals) (a : Asked) : Type 0 where
  pub bought_fits : TotalFits a.trader t.bought (above a.purchase)
  pub sold_fits : TotalFits a.trader t.sold (below a.purchase)
  pub delivered_fits : t.delivered + above a.delivered < 2 ^ 32
  pub taken_fits : t.taken + above a.taken < 2 ^ 32

abbrev pub totals_with : Totals → Asked → Totals
totals_with t a = closed_totals t a.purchase a.delivered a.taken a.trader

-- `carry_out`: 10, 19, 8 and 9 do not hold, by the record's standing, and the bounds are at most 500 × Q, as those of good readings are
pub record CanClose (r : Record) (s : Standing) (low high : ℕ) (a : Asked) : Type 0 where
  pub usable : unusable r ≡ false
  pub stands : s ≡ standing_of r
  pub trader : is_trader a.trader ≡ true
  pub accepted : accepts r a.purchase ≡ true
  pub low_most : low ≤ 500 * Q r.terms.low
  pub high_most : high ≤ 500 * Q r.terms.high
  pub settled : settles low high r.size a.delivered a.taken (moved (pos r.state) a.purchase a.delivered a.taken) ≡ true

abbrev pub record_with : Record → ℕ → ℕ → ℕ → Asked → Record
record_with r low high new a = closed_record r low high new a.purchase a.delivered a.taken a.trader
