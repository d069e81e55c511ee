-- Paper 02, No. 7: what trader numbers do to a list of calls, and what they leave. `TwoLists` and `OneTrader` are the statements,
-- and `two-lists` and `one-trader` in proofs/Traders.antt their proofs. The calls are those that the contracts of this crate and of
-- ledger_record cite.
-- `TwoLists`, in words: make two lists of calls on the record of one opening, which differ only in trader numbers, all 1 to 4. Each
-- call of the one is answered as the call in its place in the other, and afterwards the two records agree in everything but the
-- traders' totals, whose sums agree. The second list may be the first with trader 1 for every closing. So a plan passes just as
-- with one book: what is accepted, proposed, carried out or refused is so whoever trades.
-- `OneTrader`, in words: with trader 1 for every closing, trader 1's totals are the totals of paper 01, and the others' stay 0.
-- Assumes nothing.
use Rattle.std.specs.Prelude.{◌≡◌, Bool, true, List, [], ◌∷◌, map, ℕ, ℤ}
use Rattle.common.specs.Answer.{Answer, refused, given}
use Rattle.common.specs.Lists.{sum, every}
use Rattle.ledger_record.specs.declared.Totals.{Totals}
use Rattle.ledger_record.specs.declared.Record.{Record}
use Rattle.ledger.specs.Calls.{Closing, closing_with, is_trader, checking, proposing, closing}
use Rattle.ledger.specs.Promise.{Call, check, propose, close, after, run, History, carried_out, total, bought, sold, delivered, taken}

-- ---- one book

-- trader 1 has all of it
abbrev pub trader1_has : ℕ → List ℕ
trader1_has n = n ∷ 0 ∷ 0 ∷ 0 ∷ []

-- a record with the sums over the traders under trader 1, and all else as it is
abbrev pub one_book : Record → Record
one_book r =
    record {
      terms = r.terms;
      curves = r.curves;
      size = r.size;
      first = r.first;
      state = r.state;
      closed = r.closed;
      low = r.low;
      high = r.high;
      totals = record {
        bought = trader1_has (sum r.totals.bought);
        sold = trader1_has (sum r.totals.sold);
        delivered = r.totals.delivered;
        taken = r.totals.taken;
      };
    }

-- a closing with trader 1 in place of its own
abbrev pub with_trader1 : Closing → Closing
with_trader1 c = closing_with c.purchase c.readings c.delivered c.taken 1

-- checking and proposing name no trader
abbrev pub by_trader1 : Call → Call
by_trader1 (check p) = check p
by_trader1 propose = propose
by_trader1 (close c) = close (with_trader1 c)

-- ---- the answers of a list, call by call

-- traders' totals apart: what a closing gives is the record in one book
pub data CallAnswer : Type 0 where
  checks : Answer Unit → CallAnswer
  proposes : Answer ℤ → CallAnswer
  closes : Answer Record → CallAnswer

abbrev pub in_one_book : Answer Record → Answer Record
in_one_book (refused number) = refused number
in_one_book (given r) = given (one_book r)

abbrev pub answer_to : Record → Call → CallAnswer
answer_to r (check p) = checks (checking r p)
answer_to r propose = proposes (proposing r)
answer_to r (close c) = closes (in_one_book (closing r c))

-- each call gets the record that the last one returned or left
unfoldable pub answers : Record → List Call → List CallAnswer
answers r [] = []
answers r (call ∷ calls) = answer_to r call ∷ answers (after r call) calls

-- ---- two lists

-- the trader, where the call names one, is 1 to 4
abbrev pub trader_good : Call → Bool
trader_good (check p) = true
trader_good propose = true
trader_good (close c) = is_trader c.trader

-- all traders are 1 to 4, and with trader 1 for every closing the two lists are one
pub record DifferInTraders (calls others : List Call) : Type 0 where
  pub good : every trader_good calls ≡ true
  pub others_good : every trader_good others ≡ true
  pub else_same : map by_trader1 calls ≡ map by_trader1 others

-- on the record r₀ that opening returned: the same answers call by call, and records that agree in everything but the traders'
-- totals, whose sums agree; so a plan passes just as with one book
pub record TwoLists (r₀ : Record) (calls others : List Call) : Type 0 where
  pub same_answers : answers r₀ calls ≡ answers r₀ others
  pub same_record : one_book (run r₀ calls) ≡ one_book (run r₀ others)

-- ---- one trader

-- 01's totals of the closings carried out, whoever traded
unfoldable pub totals_of01 : History → Totals
totals_of01 h =
    record {
      bought = trader1_has (total bought h);
      sold = trader1_has (total sold h);
      delivered = total delivered h;
      taken = total taken h;
    }

-- with trader 1 for every closing the totals are these
abbrev pub OneTrader : Record → List Call → Type 0
OneTrader r₀ calls = (run r₀ (map by_trader1 calls)).totals ≡ totals_of01 (carried_out r₀ (map by_trader1 calls))
