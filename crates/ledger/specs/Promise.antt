-- Demand 3 of paper 01, "Ledger": one claim about a whole list of calls. `Demand3`, at the end, is the statement, and
-- `demand-3` in proofs/Promise.antt its proof. The calls are those that the contracts of this crate and of ledger_record cite.
-- In words: open a record with terms, curves, size and first state of which no cause of opening holds. Make any calls on it,
-- one after the other, each on the record that the last one returned or left. Then read off the list which closings were carried
-- out: their readings give the bounds, the bounds give every start, and their purchases, deliveries and takings give the state.
-- Each closing's readings are at two a second or at twenty, and one list may mix both (paper 02, No. 1); the bounds are those by watts
-- (No. 5). Each closing names its trader, 1 to 4, and what it buys or sells is that trader's (No. 7).
-- The unit passes both directions at every start: after the first k closings carried out, for every k from none to all, at
-- start(k+1). Every call gives 10 exactly when eight closings were carried out. Before that the proposal is accepted, lies within
-- the recovery volumes and is nearest to 0, and a purchase is refused exactly when it goes past empty or full itself or some
-- outcome of the period, with readings of either rate, fails a direction at the start after it. A closing is carried out exactly
-- when none of its causes holds, read off the list. A refused call leaves the record as it was. The record keeps the record rule,
-- and holds just what the list gives. Assumes nothing.
use Rattle.std.specs.Prelude.{◌≡◌, Bool, true, cond, ◌↔◌, ◌≢◌, ◌⊎◌, ℕ, suc, ◌-◌, ◌≤◌, ◌<◌, eqb, ℤ, pos, neg_ℤ, nat_abs, ◌+ℤ◌, ◌-ℤ◌, length, take, replicate, ◌≤ℤ◌, ◌<ℤ◌}
use mathlib.Core.List.{List, [], ◌∷◌, ◌++◌, map, foldl}
use Rattle.common.specs.Answer.{refused, given, is_given, or_blank}
use Rattle.common.specs.Lists.{sum}
use Rattle.common.specs.Periods.{periods_to, of_period}
use Rattle.signed.specs.Sign.{above, below}
use Rattle.terms.specs.Terms.{REV, ER}
use Rattle.terms.specs.declared.Terms.{Terms}
use Rattle.requirement.specs.Requirement.{start, sched, back}
use Rattle.energy.specs.Period.{good_readings, low_bound, high_bound}
use Rattle.energy.specs.Curve.{Curves}
use Rattle.ledger_record.specs.Rule.{record_rule}
use Rattle.ledger_record.specs.declared.Entries.{Entries}
use Rattle.ledger_record.specs.declared.Totals.{Totals}
use Rattle.ledger_record.specs.declared.Record.{Record}
use Rattle.ledger.specs.Calls.{Closing, closing_with, need_of, new_state, checking, proposing, closing}

-- ---- a list of calls

-- checking comes with any purchase, closing with any arguments
pub data Call : Type 0 where
  check : ℤ → Call
  propose : Call
  close : Closing → Call

-- each call gets the record that the last one returned or left
abbrev pub after : Record → Call → Record
after r (check p) = r
after r propose = r
after r (close c) = or_blank r (closing r c)

abbrev pub run : Record → List Call → Record
run r calls = foldl after r calls

-- the call gives number k
abbrev pub Gives : Record → Call → ℕ → Type 0
Gives r (check p) k = checking r p ≡ refused k
Gives r propose k = proposing r ≡ refused k
Gives r (close c) k = closing r c ≡ refused k

-- the closings carried out, the oldest first: those that give no number
abbrev pub History : Type 0
History = List Closing

abbrev pub done : Record → Call → History
done r (check p) = []
done r propose = []
done r (close c) = cond (is_given (closing r c)) (c ∷ []) []

unfoldable pub carried_out : Record → List Call → History
carried_out r [] = []
carried_out r (call ∷ calls) = done r call ++ carried_out (after r call) calls

-- ---- what the closings carried out give

-- a direction: its volumes, and the bound that readings give
pub record Direction : Type 0 where
  pub REV : ℕ
  pub ER : ℕ
  pub bound : List ℕ → ℕ

pub record Battery : Type 0 where
  pub size : ℕ
  pub first : ℕ
  pub low : Direction
  pub high : Direction
  -- the readings that 6 lets through, of either rate
  pub good : List ℕ → Bool

-- the readings give the bounds
abbrev pub bounds : Direction → History → List ℕ
bounds d h = map (λ (c : Closing). d.bound c.readings) h

-- the bounds give the requirements: start(n+1) and back(n+1) after n closings
unfoldable pub start_after : Direction → History → ℤ
start_after d h = start d.REV d.ER (of_period (bounds d h)) (suc (length h))

unfoldable pub back_after : Direction → History → ℕ
back_after d h = back d.ER (of_period (bounds d h)) (suc (length h))

-- the greater of 0 and start(n+1) + back(n+1)
unfoldable pub need_after : Direction → History → ℤ
need_after d h = need_of (start_after d h) (back_after d h)

abbrev pub extend : History → Closing → History
extend h c = h ++ (c ∷ [])

module _ (b : Battery) where
  -- the state is the first state plus their purchases, less delivered, plus taken
  unfoldable pub state_after : History → ℤ
  state_after h = foldl new_state (pos b.first) h

  abbrev pub InSize : ℤ → Type 0
  InSize s = (pos 0 ≤ℤ s) × (s ≤ℤ pos b.size)

  -- past empty or full
  abbrev pub OutOfSize : ℤ → Type 0
  OutOfSize s = (s <ℤ pos 0) ⊎ (pos b.size <ℤ s)

  -- ---- an outcome of period n+1

  -- readings that 6 lets through, of either rate, with delivered from 0 to their low bound and taken from 0 to their high one
  pub record Possible (readings : List ℕ) (delivered taken : ℤ) : Type 0 where
    pub good : b.good readings ≡ true
    pub delivered_least : pos 0 ≤ℤ delivered
    pub delivered_most : delivered ≤ℤ pos (b.low.bound readings)
    pub taken_least : pos 0 ≤ℤ taken
    pub taken_most : taken ≤ℤ pos (b.high.bound readings)

  pub record Outcome : Type 0 where
    pub readings : List ℕ
    pub delivered : ℤ
    pub taken : ℤ
    pub possible : Possible readings delivered taken

  -- the closing with purchase p of trader w, whom checking does not ask for
  abbrev pub ending : ℤ → ℕ → Outcome → Closing
  ending p w o = closing_with p o.readings o.delivered o.taken w

  -- it fails when the new state is below low start(n+2), or size less the new state is below high start(n+2)
  abbrev pub Fails : History → Closing → Type 0
  Fails h c =
      (new_state (state_after h) c <ℤ start_after b.low (extend h c))
      ⊎ ((pos b.size -ℤ new_state (state_after h) c) <ℤ start_after b.high (extend h c))

  -- ---- what n closings carried out say of the next call, on the record r

  -- none of a closing's causes holds, in the order 10, 19, 8, 6, 9
  pub record NoCause (h : History) (c : Closing) : Type 0 where
    pub before_eight : length h < 8
    pub trader : (1 ≤ c.trader) × (c.trader ≤ 4)
    pub floor : need_after b.low h ≤ℤ (state_after h +ℤ c.purchase)
    pub ceiling : (state_after h +ℤ c.purchase) ≤ℤ (pos b.size -ℤ need_after b.high h)
    pub possible : Possible c.readings c.delivered c.taken
    pub in_size : InSize (new_state (state_after h) c)

  -- while fewer than eight closings are carried out
  pub record Open (h : History) (r : Record) : Type 0 where
    -- the proposal is accepted, lies between minus the high ER and the low ER, and every other accepted purchase is farther from 0
    pub proposal : ℤ
    pub proposes : proposing r ≡ given proposal
    pub proposal_accepted : checking r proposal ≡ given tt
    pub proposal_least : neg_ℤ (pos b.high.ER) ≤ℤ proposal
    pub proposal_most : proposal ≤ℤ pos b.low.ER
    pub proposal_nearest : (q : ℤ) → checking r q ≡ given tt → q ≢ proposal → nat_abs proposal < nat_abs q
    -- a purchase is accepted or refused 8
    pub accepted_or_refused : (p : ℤ) → (checking r p ≡ given tt) ⊎ (checking r p ≡ refused 8)
    -- whoever the trader w: refused exactly when state + p is past empty or full, or some outcome fails
    pub refused_exactly : (p : ℤ) (w : ℕ) →
        checking r p ≡ refused 8 ↔ OutOfSize (state_after h +ℤ p) ⊎ ((o : Outcome) × Fails h (ending p w o))
    -- for an accepted p no outcome fails, even where the new state is outside 0..size
    pub accepted_passes : (p : ℤ) (w : ℕ) → checking r p ≡ given tt → (o : Outcome) → ¬ Fails h (ending p w o)
    -- for a refused p with state + p in 0..size, some outcome fails whose new state is in 0..size
    pub refused_fails : (p : ℤ) (w : ℕ) → checking r p ≡ refused 8 → InSize (state_after h +ℤ p) →
        (o : Outcome) × Fails h (ending p w o) × InSize (new_state (state_after h) (ending p w o))

  pub record Promise (h : History) (r : Record) : Type 0 where
    pub at_most_eight : length h ≤ 8
    -- the unit passes both directions at every start: for every k from 0 to n, after the first k closings carried out the state is
    -- at least low start(k+1), and size less state is at least high start(k+1)
    pub low_passes : (k : ℕ) → k ≤ length h → start_after b.low (take k h) ≤ℤ state_after (take k h)
    pub high_passes : (k : ℕ) → k ≤ length h → start_after b.high (take k h) ≤ℤ (pos b.size -ℤ state_after (take k h))
    -- with n = 8 every call gives 10; before that none does
    pub eight : (call : Call) → Gives r call 10 ↔ length h ≡ 8
    pub before_eight : length h < 8 → Open h r
    -- a closing is carried out exactly when none of its causes holds
    pub carried_exactly : (c : Closing) → is_given (closing r c) ≡ true ↔ NoCause h c
    -- a refused call leaves the record as it was
    pub refused_leaves : (call : Call) (k : ℕ) → Gives r call k → after r call ≡ r

-- ---- the record that the closings carried out give

-- entries of the closed periods, and 0 for those not closed
abbrev pub eight_of : {A : Type 0} → A → List A → List A
eight_of zero xs = xs ++ replicate (8 - length xs) zero

unfoldable pub entries_after : Direction → History → Entries
entries_after d h =
    record {
      bounds = eight_of 0 (bounds d h);
      starts = eight_of (pos 0) (map (start d.REV d.ER (of_period (bounds d h))) (periods_to (length h)));
      scheds = eight_of 0 (map (sched d.ER (of_period (bounds d h))) (periods_to (length h)));
    }

-- what a closing bought, sold, delivered and took
abbrev pub bought : Closing → ℕ
bought c = above c.purchase

abbrev pub sold : Closing → ℕ
sold c = below c.purchase

abbrev pub delivered : Closing → ℕ
delivered c = above c.delivered

abbrev pub taken : Closing → ℕ
taken c = above c.taken

-- the sum over the closings carried out
abbrev pub total : (Closing → ℕ) → History → ℕ
total f h = sum (map f h)

-- the sum over those with trader w's number
abbrev pub total_of : (Closing → ℕ) → History → ℕ → ℕ
total_of f h w = total (λ (c : Closing). cond (eqb c.trader w) (f c) 0) h

-- for traders 1 to 4
abbrev pub totals_by_trader : (Closing → ℕ) → History → List ℕ
totals_by_trader f h = map (total_of f h) (1 ∷ 2 ∷ 3 ∷ 4 ∷ [])

unfoldable pub totals_after : History → Totals
totals_after h =
    record {
      bought = totals_by_trader bought h;
      sold = totals_by_trader sold h;
      delivered = total delivered h;
      taken = total taken h;
    }

-- ---- at what a unit opens with
module _ (t : Terms) (curves : Curves) (size first : ℕ) where
  abbrev pub battery : Battery
  battery =
      record {
        size = size;
        first = first;
        low = record { REV = REV t.low; ER = ER t.low; bound = low_bound t.low curves };
        high = record { REV = REV t.high; ER = ER t.high; bound = high_bound t.high curves };
        good = good_readings;
      }

  -- the record that the closings carried out give
  unfoldable pub record_after : History → Record
  record_after h =
      record {
        terms = t;
        curves = curves;
        size = size;
        first = first;
        state = above (state_after battery h);
        closed = length h;
        low = entries_after battery.low h;
        high = entries_after battery.high h;
        totals = totals_after h;
      }

  -- after any list of calls on the record r₀ that opening returned
  pub record Demand3 (r₀ : Record) (calls : List Call) : Type 0 where
    pub promise : Promise battery (carried_out r₀ calls) (run r₀ calls)
    -- the record keeps the record rule, and holds the bounds, requirements, schedules and totals that the list gives
    pub keeps : record_rule (run r₀ calls) ≡ true
    pub holds : run r₀ calls ≡ record_after (carried_out r₀ calls)
