-- Paper 02, No. 7: `two-lists` and `one-trader`, the statements of specs/Traders.antt. A list of calls on a record, and the same list
-- with trader 1 for every closing on the same record in one book, go side by side. Assumes nothing.
use mathlib.Core.Path.{◌≡◌, refl, sym, ap, ◌∙◌}
use mathlib.Core.Bool.{Bool, true, false, cond}
use mathlib.Core.List.{List, [], ◌∷◌, map}
use Prim.Native.Nat.{ℕ, ◌+◌}
use native.Mathlib.Omega.{arith}
use borrow.Author.Tests.{eqb-true}
use lib.Dec.{eqb}
use lib.IntN.{ℤ}
use lib.ListN.{length, length-set}
use Rattle.common.specs.Answer.{Answer, refused, given, is_given, Cause, checked, or_blank}
use Rattle.common.specs.Lists.{sum, every}
use Rattle.common.proofs.Answers.{given-value}
use Rattle.common.proofs.Lists.{every_append}
use Rattle.common.proofs.Tests.{both_true, by-test}
use Rattle.signed.specs.Sign.{above, below}
use Rattle.terms.specs.declared.Terms.{Terms}
use Rattle.energy.specs.Curve.{Curves}
use Rattle.ledger_record.specs.Opening.{opening_causes, first_record, opening}
use Rattle.ledger_record.specs.Rule.{totals_rule, state_rule, record_rule}
use Rattle.ledger_record.specs.declared.Record.{Record}
use Rattle.ledger.specs.Calls.{Closing, unusable, accepts, proposal, checking, proposing, closed_record, record_closed, closing_causes, closing}
use Rattle.ledger.specs.Promise.{Call, check, propose, close, after, run, History, done, carried_out, bought, sold, total, total_of, totals_by_trader, totals_after, record_after}
use Rattle.ledger.specs.Traders.{trader1_has, one_book, with_trader1, by_trader1, closes, in_one_book, answer_to, answers, trader_good, DifferInTraders, TwoLists, totals_of01, OneTrader}
use Rattle.ledger.proofs.ByTrader.{OneToFour, trader-in, is-trader, sum-with}
use Rattle.ledger.proofs.Promise.{left_is, demand-3}

one-sum : (n : ℕ) → sum (trader1_has n) ≡ n
unfolding sum
one-sum n = omega arith

-- ---- a call on a record, and on the same in one book
module _ (r : Record) where
  rule-same : record_rule (one_book r) ≡ record_rule r
  unfolding record_rule totals_rule state_rule
  rule-same = rw (one-sum (sum r.totals.bought), one-sum (sum r.totals.sold))

  unusable-same : unusable (one_book r) ≡ unusable r
  unfolding unusable
  unusable-same = rw rule-same

  checking-same : (p : ℤ) → checking (one_book r) p ≡ checking r p
  unfolding checking accepts
  checking-same p = rw unusable-same

  proposing-same : proposing (one_book r) ≡ proposing r
  unfolding proposing proposal
  proposing-same = rw unusable-same

  -- in one book already
  once : one_book (one_book r) ≡ one_book r
  once = rw (one-sum (sum r.totals.bought), one-sum (sum r.totals.sold))

in-book-once : (a : Answer Record) → in_one_book (in_one_book a) ≡ in_one_book a
in-book-once (refused number) = refl
in-book-once (given r) = ap given (once r)

checked-in-book : (causes : List Cause) (r : Record) → in_one_book (checked causes r) ≡ checked causes (one_book r)
checked-in-book [] r = refl
checked-in-book (c ∷ causes) r = by c.holds (checked-in-book causes r)
  where
    by : (b : Bool) → in_one_book (checked causes r) ≡ checked causes (one_book r)
        → in_one_book (cond b (refused c.number) (checked causes r)) ≡ cond b (refused c.number) (checked causes (one_book r))
    by true e = refl
    by false e = e

left-in-book : (r : Record) (a : Answer Record) → or_blank (one_book r) (in_one_book a) ≡ one_book (or_blank r a)
left-in-book r (refused number) = refl
left-in-book r (given s) = refl

-- a total for each of the four traders, as every record of the code has
record Four (r : Record) : Type 0 where
  bought : length r.totals.bought ≡ 4
  sold : length r.totals.sold ≡ 4

module _ (r : Record) (four : Four r) (c : Closing) (i : OneToFour c.trader) where
  closed_same : record_closed (one_book r) (with_trader1 c) ≡ one_book (record_closed r c)
  unfolding closed_record
  closed_same =
      rw (
        sum-with c.trader r.totals.bought (above c.purchase) i four.bought,
        sum-with c.trader r.totals.sold (below c.purchase) i four.sold,
      )

  closing_same : closing (one_book r) (with_trader1 c) ≡ in_one_book (closing r c)
  unfolding closing accepts
  closing_same = rw (checked-in-book (closing_causes r c) (record_closed r c), unusable-same r, is-trader c.trader i, closed_same)

-- ---- call by call
module _ (r : Record) (four : Four r) where
  answer-same : (call : Call) → trader_good call ≡ true → answer_to (one_book r) (by_trader1 call) ≡ answer_to r call
  answer-same (check p) good = rw (checking-same r p)
  answer-same propose good = rw (proposing-same r)
  answer-same (close c) good = ap closes (ap in_one_book (closing_same r four c (trader-in c.trader good)) ∙ in-book-once (closing r c))

  after_same : (call : Call) → trader_good call ≡ true → after (one_book r) (by_trader1 call) ≡ one_book (after r call)
  after_same (check p) good = refl
  after_same propose good = refl
  after_same (close c) good = ap (or_blank (one_book r)) (closing_same r four c (trader-in c.trader good)) ∙ left-in-book r (closing r c)

  four-after : (call : Call) → Four (after r call)
  unfolding closed_record
  four-after (check p) = four
  four-after propose = four
  four-after (close c) = rw (left_is c r) (by-test Four (is_given (closing r c)) (record_closed r c) r (λ e. added) (λ e. four))
    where
      added : Four (record_closed r c)
      added = record { bought = length-set r.totals.bought _ _ ∙ four.bought; sold = length-set r.totals.sold _ _ ∙ four.sold }

answers-same : (calls : List Call) (r : Record) → Four r → every trader_good calls ≡ true → answers (one_book r) (map by_trader1 calls) ≡ answers r calls
unfolding answers every
answers-same [] r four good = refl
answers-same (call ∷ calls) r four good =
    let g = both_true (trader_good call) (every trader_good calls) good in
    rw (answer-same r four call g.0, after_same r four call g.0, answers-same calls (after r call) (four-after r four call) g.1)

run-same : (calls : List Call) (r : Record) → Four r → every trader_good calls ≡ true → run (one_book r) (map by_trader1 calls) ≡ one_book (run r calls)
unfolding every
run-same [] r four good = refl
run-same (call ∷ calls) r four good =
    let g = both_true (trader_good call) (every trader_good calls) good in
    ap (λ (s : Record). run s (map by_trader1 calls)) (after_same r four call g.0) ∙ run-same calls (after r call) (four-after r four call) g.1

-- ---- closings by trader 1 alone

abbrev by_one : Closing → Bool
by_one c = eqb c.trader 1

-- of a list with trader 1 for every closing, the closings carried out are all by trader 1
carried-by-one : (calls : List Call) (r : Record) → every by_one (carried_out r (map by_trader1 calls)) ≡ true
unfolding carried_out every
carried-by-one [] r = refl
carried-by-one (call ∷ calls) r =
    rw (every_append by_one (done r (by_trader1 call)) (carried_out (after r (by_trader1 call)) (map by_trader1 calls)), done-by-one call)
    (carried-by-one calls (after r (by_trader1 call)))
  where
    done-by-one : (call : Call) → every by_one (done r (by_trader1 call)) ≡ true
    done-by-one (check p) = refl
    done-by-one propose = refl
    done-by-one (close c) = by-test (λ (h : History). every by_one h ≡ true) (is_given (closing r (with_trader1 c))) (with_trader1 c ∷ []) [] (λ e. refl) (λ e. refl)

-- a choice of nothing, and of two numbers' sum
none-chosen : (b : Bool) → ◌≡◌ {A = ℕ} 0 (cond b 0 0)
none-chosen true = refl
none-chosen false = refl

both-chosen : (b : Bool) (m n : ℕ) → cond b m 0 + cond b n 0 ≡ cond b (m + n) 0
both-chosen true m n = refl
both-chosen false m n = refl

module _ (f : Closing → ℕ) (w : ℕ) where
  -- trader w's sum: all of it where w is 1, otherwise nothing
  one_of : (h : History) → every by_one h ≡ true → total_of f h w ≡ cond (eqb 1 w) (total f h) 0
  unfolding sum every
  one_of [] good = none-chosen (eqb 1 w)
  one_of (c ∷ h) good =
      let g = both_true (by_one c) (every by_one h) good in
      ap (λ (n : ℕ). cond (eqb n w) (f c) 0 + total_of f h w) (eqb-true c.trader 1 g.0) ∙ rw (one_of h g.1) (both-chosen (eqb 1 w) (f c) (total f h))

by_one_lem : (f : Closing → ℕ) (h : History) → every by_one h ≡ true → totals_by_trader f h ≡ trader1_has (total f h)
by_one_lem f h good = rw (one_of f 1 h good, one_of f 2 h good, one_of f 3 h good, one_of f 4 h good)

-- ---- from the record that opening returned
module _ (t : Terms) (curves : Curves) (size first : ℕ) (r₀ : Record) (opens : opening t curves size first ≡ given r₀) where
  four-first : Four r₀
  unfolding opening
  four-first =
      let is : first_record t curves size first ≡ r₀ = given-value (opening_causes t curves size first) (first_record t curves size first) r₀ opens in
      rw (← is) (record { bought = refl; sold = refl })

  pub two-lists : (calls others : List Call) → DifferInTraders calls others → TwoLists r₀ calls others
  two-lists calls others d =
      record {
        same_answers = sym (answers-same calls r₀ four-first d.good) ∙ ap (answers (one_book r₀)) d.else_same ∙ answers-same others r₀ four-first d.others_good;
        same_record = sym (run-same calls r₀ four-first d.good) ∙ ap (run (one_book r₀)) d.else_same ∙ run-same others r₀ four-first d.others_good;
      }

  pub one-trader : (calls : List Call) → OneTrader r₀ calls
  unfolding record_after totals_after totals_of01
  one-trader calls =
      let in-book = map by_trader1 calls in
      let h = carried_out r₀ in-book in
      let good = carried-by-one calls r₀ in
      ap (λ (r : Record). r.totals) (demand-3 t curves size first r₀ opens in-book).holds ∙ rw (by_one_lem bought h good, by_one_lem sold h good)
