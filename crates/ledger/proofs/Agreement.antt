-- The record that the closings carried out give: it keeps the record rule, each call answers on it as the list says, and a closing
-- that is carried out gives the record of the list with it. Assumes nothing.
use mathlib.Core.Path.{◌≡◌, sym, ap}
use mathlib.Core.Bool.{true, or-false}
use mathlib.Core.List.{List, [], ◌∷◌, ◌++◌, map-append}
use Prim.Native.Nat.{ℕ, zero, suc, ◌+◌, ◌*◌, ◌≤◌}
use native.Mathlib.Omega.{arith}
use borrow.Author.Tests.{le-leb}
use lib.Dec.{eqb}
use lib.IntN.{ℤ, pos, ◌+ℤ◌, ◌-ℤ◌}
use lib.ListN.{length, get_or, length-append}
use Rattle.common.specs.Answer.{clear}
use Rattle.common.specs.Lists.{sum}
use Rattle.common.proofs.Lists.{sum-next}
use Rattle.signed.specs.Sign.{above, below}
use Rattle.signed.proofs.Whole.{whole, one-sided, less, same}
use Rattle.signed.proofs.Whole as integers
use Rattle.signed.proofs.Orders.{true-le_z, eq_z-refl}
use Rattle.terms.specs.Terms.{Q}
use Rattle.terms.specs.declared.Terms.{Terms}
use Rattle.energy.specs.Period.{low_deviation, high_deviation}
use Rattle.energy.specs.Curve.{Curves}
use Rattle.energy.proofs.Laws.{bound-most}
use Rattle.ledger_record.specs.Opening.{opening_causes}
use Rattle.ledger_record.specs.Rule.{totals_rule, next_start, state_rule, record_rule}
use Rattle.ledger_record.specs.declared.Record.{Record}
use Rattle.ledger_record.proofs.Openings.{LetThrough, let_through}
use Rattle.ledger.specs.Calls.{Closing, new_state, unusable, settles, closed_record, record_closed, low, high}
use Rattle.ledger.specs.Calls as calls
use Rattle.ledger.specs.Promise.{History, Battery, extend, bounds, start_after, state_after, NoCause, bought, sold, delivered, taken, total, totals_by_trader, battery, entries_after, totals_after, record_after}
use Rattle.ledger.proofs.ByTrader.{by-trader-next, all-next}
use Rattle.ledger.proofs.Eight.{eight-sum}
use Rattle.ledger.proofs.Entries.{start-here, need-here, entries-keep, entries_next}
use Rattle.ledger.proofs.History as History'
use Rattle.ledger.proofs.History.{Passes, accepts, proposal, settled, accepts-true, no-cause-accepts, state-next, new_is}

-- each entry of a list and of one that is longer by one
most-next : (m : ℕ) (xs : List ℕ) (x : ℕ) → ((k : ℕ) → get_or xs k 0 ≤ m) → x ≤ m → (k : ℕ) → get_or (xs ++ (x ∷ [])) k 0 ≤ m
most-next m [] x all h zero = h
most-next m [] x all h (suc k) = omega arith
most-next m (y ∷ ys) x all h zero = all 0
most-next m (y ∷ ys) x all h (suc k) = most-next m ys x (λ k. all (suc k)) h k

module _ (t : Terms) (curves : Curves) (size first : ℕ) (no_number : clear (opening_causes t curves size first) ≡ true) where
  abbrev b : Battery
  b = battery t curves size first

  opens : LetThrough t curves size first
  opens = let_through t curves size first no_number

  -- ---- the totals of a history
  pub record TotalsKept (h : History) : Type 0 where
    pub bought-most : sum (totals_by_trader bought h) ≤ 10000000 * length h
    pub sold-most : sum (totals_by_trader sold h) ≤ 10000000 * length h
    pub delivered_most : total delivered h ≤ sum (bounds b.low h)
    pub taken_most : total taken h ≤ sum (bounds b.high h)
    pub low-bounds : (k : ℕ) → get_or (bounds b.low h) k 0 ≤ 500 * Q t.low
    pub high-bounds : (k : ℕ) → get_or (bounds b.high h) k 0 ≤ 500 * Q t.high
    -- the state is first state + bought − sold − delivered + taken
    pub adds-up : above (state_after b h) + sum (totals_by_trader sold h) + total delivered h ≡ first + below (state_after b h) + sum (totals_by_trader bought h) + total taken h

  pub no-totals : TotalsKept []
  unfolding sum state_after
  no-totals =
      record {
        bought-most = omega arith;
        sold-most = omega arith;
        delivered_most = omega arith;
        taken_most = omega arith;
        low-bounds = λ k. omega arith;
        high-bounds = λ k. omega arith;
        adds-up = omega arith;
      }

  pub totals-next : (h : History) (c : Closing) → Passes b h → TotalsKept h → NoCause b h c → TotalsKept (extend h c)
  totals-next h c v w o =
      let p = c.purchase in
      let yes = accepts-true b h p (no-cause-accepts b h c o) in
      let longer = length-append h (c ∷ []) in
      let is = state-next b h c in
      let bought-next = all-next bought h c o.trader in
      let sold-next = all-next sold h c o.trader in
      record {
        bought-most = omega (arith, whole, v.in_size, w.bought-most, opens.size-most, one-sided p, bought-next);
        sold-most = omega (arith, whole, v.in_size, w.sold-most, opens.size-most, one-sided p, sold-next);
        delivered_most = omega (arith, whole, o.possible.delivered_most, w.delivered_most, one-sided c.delivered, sum-next delivered h c, sum-next (λ (c : Closing). b.low.bound c.readings) h c);
        taken_most = omega (arith, whole, o.possible.taken_most, w.taken_most, one-sided c.taken, sum-next taken h c, sum-next (λ (c : Closing). b.high.bound c.readings) h c);
        low-bounds = rw map-append (most-next (500 * Q t.low) (bounds b.low h) (b.low.bound c.readings) w.low-bounds (bound-most t.low curves opens.curves-hold low_deviation c.readings o.possible.good));
        high-bounds = rw map-append (most-next (500 * Q t.high) (bounds b.high h) (b.high.bound c.readings) w.high-bounds (bound-most t.high curves opens.curves-hold high_deviation c.readings o.possible.good));
        adds-up = omega (arith, whole, o.possible.delivered_least, o.possible.taken_least, w.adds-up, new_is b h c, ap above is, ap below is, one-sided c.delivered, one-sided c.taken, bought-next, sold-next, sum-next delivered h c, sum-next taken h c);
      }

  module _ (h : History) (v : Passes b h) where
    abbrev r : Record
    r = record_after t curves size first h

    -- the state is not negative
    state-is : pos (above (state_after b h)) ≡ state_after b h
    state-is = same (pos (above (state_after b h))) (state_after b h) (omega (arith, whole, v.in_size.0, one-sided (state_after b h)))

    -- ---- it keeps the record rule
    module _ (w : TotalsKept h) where
      totals-keep : totals_rule r ≡ true
      unfolding totals_rule record_after totals_after entries_after
      totals-keep =
          rw (
            eight-sum (bounds b.low h),
            eight-sum (bounds b.high h),
            le-leb (sum (totals_by_trader bought h)) (10000000 * length h) w.bought-most,
            le-leb (sum (totals_by_trader sold h)) (10000000 * length h) w.sold-most,
            le-leb (total delivered h) (sum (bounds b.low h)) w.delivered_most,
            le-leb (total taken h) (sum (bounds b.high h)) w.taken_most,
          )

      fits-totals : pos first +ℤ pos (sum (totals_by_trader bought h)) -ℤ pos (sum (totals_by_trader sold h)) -ℤ pos (total delivered h) +ℤ pos (total taken h) ≡ state_after b h
      fits-totals =
          let all-bought = pos (sum (totals_by_trader bought h)) in
          let all-sold = pos (sum (totals_by_trader sold h)) in
          let x = pos first +ℤ all-bought in
          let y = x -ℤ all-sold in
          let z = y -ℤ pos (total delivered h) in
          let u = z +ℤ pos (total taken h) in
          same u (state_after b h)
          (omega (arith, w.adds-up, integers.sum (pos first) all-bought, less x all-sold, less y (pos (total delivered h)), integers.sum z (pos (total taken h))))

      state-keeps : state_rule r ≡ true
      unfolding state_rule next_start record_after totals_after start_after
      state-keeps =
          rw (
            state-is,
            le-leb (length h) 8 v.eight,
            start-here t.low b.low.bound h (suc (length h)),
            start-here t.high b.high.bound h (suc (length h)),
            true-le_z v.low_passes,
            true-le_z v.high_passes,
            fits-totals,
            eq_z-refl (state_after b h),
            le-leb (above (state_after b h)) size (omega (arith, whole, v.in_size, one-sided (state_after b h))),
          )

      pub rule-holds : record_rule r ≡ true
      unfolding record_rule record_after
      rule-holds =
          rw (
            le-leb (length h) 8 v.eight,
            no_number,
            entries-keep t.low b.low.bound h w.low-bounds,
            entries-keep t.high b.high.bound h w.high-bounds,
            totals-keep,
            state-keeps,
          )

      -- ---- on it, each test of a call is as the list gives it
      pub usable-is : unusable r ≡ eqb (length h) 8
      unfolding unusable record_after
      usable-is = rw rule-holds (or-false (eqb (length h) 8))

    needs-are : (calls.floor r ≡ History'.floor b h) × (calls.ceiling r ≡ History'.ceiling b h)
    unfolding record_after
    needs-are = (need-here t.low b.low.bound h, ap (λ z. pos size -ℤ z) (need-here t.high b.high.bound h))

    pub accepts-are : (p : ℤ) → calls.accepts r p ≡ accepts b h p
    unfolding calls.accepts accepts record_after
    accepts-are p = rw (needs-are.0, needs-are.1, state-is)

    pub proposal-is : calls.proposal r ≡ proposal b h
    unfolding calls.proposal proposal record_after
    proposal-is = rw (needs-are.0, needs-are.1, state-is)

    pub settles-are : (c : Closing) → settles (low r c) (high r c) r.size c.delivered c.taken (new_state (pos r.state) c) ≡ settled b h c
    unfolding settled record_after
    settles-are c = rw state-is

    -- ---- a closing that is carried out gives the record of the history with it
    pub closed_is : (c : Closing) → NoCause b h c → record_closed r c ≡ record_after t curves size first (extend h c)
    unfolding closed_record record_after totals_after
    closed_is c o =
        λ i.
        record {
          terms = t;
          curves = curves;
          size = size;
          first = first;
          state = new-state i;
          closed = sym (length-append h (c ∷ [])) i;
          low = entries_next t.low b.low.bound h c o.before_eight i;
          high = entries_next t.high b.high.bound h c o.before_eight i;
          totals = record {
            bought = by-trader-next bought h c o.trader i;
            sold = by-trader-next sold h c o.trader i;
            delivered = sym (sum-next delivered h c) i;
            taken = sym (sum-next taken h c) i;
          };
        }
      where
        new-state : above (new_state (pos (above (state_after b h))) c) ≡ above (state_after b (extend h c))
        new-state = rw state-is (ap above (sym (state-next b h c)))
