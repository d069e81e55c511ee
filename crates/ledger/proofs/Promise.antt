-- Demand 3 of paper 01: `demand-3`, the statement `Demand3` of specs/Promise.antt for every opening and every list of calls.
-- The invariant of a list of calls is that the record agrees with the closings carried out. Assumes nothing.
use mathlib.Core.Path.{◌≡◌, refl, sym, ap, ◌∙◌}
use mathlib.Core.Logic.{◌↔◌, ◌⊎◌, inl, inr}
use mathlib.Core.Bool.{Bool, true, false, not, cond}
use mathlib.Core.List.{List, [], ◌∷◌, ◌++◌, append_assoc, append-nil}
use Prim.Native.Nat.{ℕ, ◌<◌}
use native.Mathlib.Omega.{arith}
use borrow.Author.Tests.{eqb-true, eqb-false, eq-eqb, ne_eqb, not-true, not-false}
use lib.Dec.{eqb}
use lib.IntN.{ℤ, pos}
use lib.ListN.{length, drop, replicate}
use Rattle.common.specs.Answer.{refused, given, is_given, Cause, cause, checked, clear, or_blank}
use Rattle.common.specs.Lists.{sum, every}
use Rattle.common.specs.Periods.{periods_to}
use Rattle.common.proofs.Answers.{given_is, given-clear, given-value, or_blank-is, first-given, holds_of, clear_of}
use Rattle.terms.specs.declared.Terms.{Terms}
use Rattle.energy.specs.Period.{good_readings, low_deviation, high_deviation}
use Rattle.energy.specs.Rate.{two, period_count}
use Rattle.energy.specs.Curve.{Curves}
use Rattle.energy.proofs.Laws.{still-good, still-bound}
use Rattle.ledger_record.specs.Opening.{opening_causes, first_record, opening}
use Rattle.ledger_record.specs.declared.Record.{Record}
use Rattle.ledger_record.proofs.Openings.{LetThrough, let_through}
use Rattle.ledger.specs.Calls.{Closing, is_trader, new_state, unusable, checking, proposing, closing_causes, closing, record_closed, settles, low, high}
use Rattle.ledger.specs.Calls as calls
use Rattle.ledger.specs.Promise.{Call, check, propose, close, after, run, Gives, History, done, carried_out, Battery, NoCause, Open, Promise, battery, state_after, entries_after, totals_after, record_after, Demand3}
use Rattle.ledger.proofs.History.{Opened, Still, Passes, AllPass, all-passes, first-all, next-all, accepts, proposal, settled, no-cause, no-cause-accepts, no-cause-settled, proposal_nearest, safe, refused_exactly, refused_fails}
use Rattle.ledger.proofs.ByTrader.{trader-in, is-trader}
use Rattle.ledger.proofs.Agreement.{TotalsKept, no-totals, totals-next, rule-holds, usable-is, accepts-are, proposal-is, settles-are, closed_is}

-- a closing leaves the closed record where it is carried out
pub left_is : (c : Closing) (r : Record) → or_blank r (closing r c) ≡ cond (is_given (closing r c)) (record_closed r c) r
unfolding closing
left_is c r =
    let new = record_closed r c in
    or_blank-is r (closing_causes r c) new ∙ ap (λ (g : Bool). cond g new r) (sym (given_is (closing_causes r c) new))

module _ (t : Terms) (curves : Curves) (size first : ℕ) (no_number : clear (opening_causes t curves size first) ≡ true) where
  abbrev b : Battery
  b = battery t curves size first

  opens : LetThrough t curves size first
  opens = let_through t curves size first no_number

  opened : Opened b
  opened = record { fits = opens.size-least; low = opens.first-least; high = opens.first-most }

  -- a period's readings of 50,000, at one of the rates
  still : Still b
  still = record {
    readings = replicate (period_count two) 50000;
    good = still-good two;
    low = still-bound t.low curves opens.curves-hold low_deviation refl (period_count two);
    high = still-bound t.high curves opens.curves-hold high_deviation refl (period_count two);
  }

  record Agrees (r : Record) (h : History) : Type 0 where
    all_pass : AllPass b h
    totals : TotalsKept t curves size first no_number h
    is-record : r ≡ record_after t curves size first h

  module _ {r : Record} {h : History} (a : Agrees r h) where
    passes : Passes b h
    passes = all-passes b a.all_pass

    -- ---- the tests of a call on the record are those that the list gives
    usable : unusable r ≡ eqb (length h) 8
    usable = ap unusable a.is-record ∙ usable-is t curves size first no_number h passes a.totals

    accepting : (p : ℤ) → calls.accepts r p ≡ accepts b h p
    accepting p = ap (λ (r : Record). calls.accepts r p) a.is-record ∙ accepts-are t curves size first no_number h passes p

    settling : (c : Closing) → settles (low r c) (high r c) r.size c.delivered c.taken (new_state (pos r.state) c) ≡ settled b h c
    settling c = ap (λ (r : Record). settles (low r c) (high r c) r.size c.delivered c.taken (new_state (pos r.state) c)) a.is-record ∙ settles-are t curves size first no_number h passes c

    -- ---- 10 exactly when eight closings are carried out
    eight_is : unusable r ≡ true ↔ length h ≡ 8
    eight_is = (λ e. eqb-true (length h) 8 (sym usable ∙ e), λ e. usable ∙ eq-eqb (length h) 8 e)

    eight : (call : Call) → Gives r call 10 ↔ length h ≡ 8
    unfolding checking proposing closing every
    eight (check p) =
        let w = first-given 10 (unusable r) (cause 8 (not (calls.accepts r p)) ∷ []) tt refl in
        (λ e. eight_is.0 (w.0 e), λ e. w.1 (eight_is.1 e))
    eight propose =
        let w = first-given 10 (unusable r) [] (calls.proposal r) refl in
        (λ e. eight_is.0 (w.0 e), λ e. w.1 (eight_is.1 e))
    eight (close c) =
        let w = first-given 10 (unusable r) (drop 1 (closing_causes r c)) (record_closed r c) refl in
        (λ e. eight_is.0 (w.0 e), λ e. w.1 (eight_is.1 e))

    -- ---- a closing is carried out exactly when none of its causes holds

    -- its causes as the list gives them
    abbrev list_causes : Closing → List Cause
    list_causes c =
        cause 10 (eqb (length h) 8)
        ∷ cause 19 (not (is_trader c.trader))
        ∷ cause 8 (not (accepts b h c.purchase))
        ∷ cause 6 (not (good_readings c.readings))
        ∷ cause 9 (not (settled b h c))
        ∷ []

    given-exactly : (c : Closing) → is_given (closing r c) ≡ clear (list_causes c)
    unfolding closing
    given-exactly c = given_is (closing_causes r c) (record_closed r c) ∙ rw (usable, accepting c.purchase, settling c)

    carried_exactly : (c : Closing) → is_given (closing r c) ≡ true ↔ NoCause b h c
    carried_exactly c = (
      λ e.
          let none-holds : (k : ℕ) → holds_of k (list_causes c) ≡ false = λ k. clear_of k (list_causes c) (sym (given-exactly c) ∙ e) in
          let n = eqb-false (length h) 8 (none-holds 10) in
          no-cause b h c (omega (arith, n, passes.eight))
          (trader-in c.trader (not-false (is_trader c.trader) (none-holds 19)))
          (not-false (accepts b h c.purchase) (none-holds 8))
          (not-false (good_readings c.readings) (none-holds 6))
          (not-false (settled b h c) (none-holds 9)),
      λ o.
          let n : eqb (length h) 8 ≡ false = ne_eqb (length h) 8 (λ e. omega (arith, o.before_eight)) in
          given-exactly c ∙ rw (n, is-trader c.trader o.trader, no-cause-accepts b h c o, o.possible.good, no-cause-settled b h c o),
    )

    -- ---- a refused call leaves the record as it was
    refused_leaves : (call : Call) (k : ℕ) → Gives r call k → after r call ≡ r
    refused_leaves (check p) k e = refl
    refused_leaves propose k e = refl
    refused_leaves (close c) k e = ap (or_blank r) e

    -- ---- before eight
    module _ (before : length h < 8) where
      is-usable : unusable r ≡ false
      is-usable = usable ∙ ne_eqb (length h) 8 (λ e. omega arith)

      accepted-exactly : (p : ℤ) → checking r p ≡ given tt ↔ accepts b h p ≡ true
      unfolding checking
      accepted-exactly p = (
        λ e.
            let causes = cause 10 (unusable r) ∷ cause 8 (not (calls.accepts r p)) ∷ [] in
            sym (accepting p) ∙ not-false (calls.accepts r p) (clear_of 8 causes (given-clear causes tt tt e)),
        λ e. rw (is-usable, accepting p, e),
      )

      refused-is : (p : ℤ) → checking r p ≡ refused 8 ↔ accepts b h p ≡ false
      unfolding checking every
      refused-is p = rw (is-usable, accepting p) (λ e. not-true (accepts b h p) (w.0 e), λ e. w.1 (ap not e))
        where
          w : checked {A = Unit} (cause 8 (not (accepts b h p)) ∷ []) tt ≡ refused 8 ↔ not (accepts b h p) ≡ true
          w = first-given 8 (not (accepts b h p)) [] tt refl

      accepted_or_refused : (p : ℤ) → (checking r p ≡ given tt) ⊎ (checking r p ≡ refused 8)
      accepted_or_refused p = by (accepts b h p) refl
        where
          by : (x : Bool) → accepts b h p ≡ x → (checking r p ≡ given tt) ⊎ (checking r p ≡ refused 8)
          by true e = inl ((accepted-exactly p).1 e)
          by false e = inr ((refused-is p).1 e)

      proposes : proposing r ≡ given (proposal b h)
      unfolding proposing
      proposes = rw is-usable (ap given (ap calls.proposal a.is-record ∙ proposal-is t curves size first no_number h passes))

      is_open : Open b h r
      is_open =
          let q = proposal_nearest b opened h passes in
          record {
            proposal = proposal b h;
            proposes = proposes;
            proposal_accepted = (accepted-exactly (proposal b h)).1 q.accepted;
            proposal_least = q.least;
            proposal_most = q.most;
            proposal_nearest = λ p e. q.nearest p ((accepted-exactly p).0 e);
            accepted_or_refused = accepted_or_refused;
            refused_exactly = λ p w.
                let x = refused_exactly b still h p w in
                (λ e. x.0 ((refused-is p).0 e), λ f. (refused-is p).1 (x.1 f));
            accepted_passes = λ p w e. safe b h p w ((accepted-exactly p).0 e);
            refused_fails = λ p w e. refused_fails b still h p w ((refused-is p).0 e);
          }

    holds-here : Promise b h r
    holds-here =
        record {
          at_most_eight = passes.eight;
          low_passes = λ k l. (a.all_pass k l).low_passes;
          high_passes = λ k l. (a.all_pass k l).high_passes;
          eight = eight;
          before_eight = is_open;
          carried_exactly = carried_exactly;
          refused_leaves = refused_leaves;
        }

  -- ---- a call keeps the agreement
  no_more : {r : Record} {h : History} → Agrees r h → Agrees r (h ++ [])
  no_more {r} {h} a = rw (append-nil h) a

  step : (call : Call) (r : Record) (h : History) → Agrees r h → Agrees (after r call) (h ++ done r call)
  step (check p) r h a = no_more a
  step propose r h a = no_more a
  step (close c) r h a = rw (left_is c r) (by (is_given (closing r c)) refl)
    where
      by : (g : Bool) → is_given (closing r c) ≡ g → Agrees (cond g (record_closed r c) r) (h ++ cond g (c ∷ []) [])
      by false e = no_more a
      by true e =
          let o = (carried_exactly a c).0 e in
          record {
            all_pass = next-all b h c a.all_pass o;
            totals = totals-next t curves size first no_number h c (passes a) a.totals o;
            is-record = ap (λ (r : Record). record_closed r c) a.is-record ∙ closed_is t curves size first no_number h (passes a) c o;
          }

  reaches : (calls : List Call) (r : Record) (h : History) → Agrees r h → Agrees (run r calls) (h ++ carried_out r calls)
  unfolding carried_out
  reaches [] r h a = no_more a
  reaches (call ∷ calls) r h a =
      rw (append_assoc h (done r call) (carried_out (after r call) calls)) at
      (reaches calls (after r call) (h ++ done r call) (step call r h a))

  -- ---- from the record that opening returned
  at_first : Agrees (first_record t curves size first) []
  unfolding record_after totals_after entries_after state_after periods_to sum
  at_first = record { all_pass = first-all b opened; totals = no-totals t curves size first no_number; is-record = refl }

  kept : (calls : List Call) → Demand3 t curves size first (first_record t curves size first) calls
  kept calls =
      let a = reaches calls (first_record t curves size first) [] at_first in
      record {
        promise = holds-here a;
        keeps = rw a.is-record (rule-holds t curves size first no_number _ (passes a) a.totals);
        holds = a.is-record;
      }

-- from the record that opening returned where none of its causes holds, after every list of calls
pub demand-3 : (t : Terms) (curves : Curves) (size first : ℕ) (r₀ : Record) → opening t curves size first ≡ given r₀
    → (calls : List Call) → Demand3 t curves size first r₀ calls
unfolding opening
demand-3 t curves size first r₀ e calls =
    let no_number = given-clear (opening_causes t curves size first) (first_record t curves size first) r₀ e in
    let is : first_record t curves size first ≡ r₀ = given-value (opening_causes t curves size first) (first_record t curves size first) r₀ e in
    rw (← is) (kept t curves size first no_number calls)
