-- The promise over the closings carried out, with any period energy that has one good list of readings whose bounds are 0.
-- Assumes nothing.
use mathlib.Core.Path.{◌≡◌, refl, ap}
use mathlib.Core.Logic.{◌↔◌, ◌≢◌, ◌⊎◌, inl, inr}
use mathlib.Core.Bool.{Bool, true, false, cond, ◌&&◌}
use mathlib.Core.List.{List, [], ◌∷◌, foldl-append}
use Prim.Native.Nat.{ℕ, ◌+◌, ◌≤◌, ◌<◌}
use native.Mathlib.Decide.{dec_le}
use native.Mathlib.Omega.{arith}
use lib.IntN.{ℤ, pos, neg_ℤ, nat_abs, ◌+ℤ◌, ◌-ℤ◌}
use lib.ListN.{length, take, length-append}
use lib.Seq.{take_all, take-length, take-nil, take-append-le}
use lib.Signed.{lt_z, ◌≤ℤ◌, ◌<ℤ◌}
use Rattle.common.proofs.Tests.{both_true}
use Rattle.signed.specs.Sign.{above, below, within}
use Rattle.signed.proofs.Whole.{whole, one-sided, abs_is, sum, less, neg, same}
use Rattle.signed.proofs.Orders.{lt_z-true, lt_z-false, within-true, true-within, within-false}
use Rattle.requirement.specs.Requirement.{start}
use Rattle.ledger.specs.Calls.{Closing, new_state, toward, settles}
use Rattle.ledger.specs.Promise.{History, Battery, extend, start_after, need_after, state_after, InSize, OutOfSize, Possible, Outcome, ending, Fails, NoCause}
use Rattle.ledger.proofs.Directions.{need, need-is, need-most, back_most, start-next}

module _ (b : Battery) where
  -- ---- the tests of the calls, as the list gives them
  module _ (h : History) where
    abbrev pub floor : ℤ
    floor = need_after b.low h

    abbrev pub ceiling : ℤ
    ceiling = pos b.size -ℤ need_after b.high h

    unfoldable pub accepts : ℤ → Bool
    accepts p = within floor (state_after b h +ℤ p) ceiling

    unfoldable pub proposal : ℤ
    proposal = toward floor (state_after b h) ceiling

    unfoldable pub settled : Closing → Bool
    settled c = settles (b.low.bound c.readings) (b.high.bound c.readings) b.size c.delivered c.taken (new_state (state_after b h) c)

  -- what opening lets through
  pub record Opened : Type 0 where
    pub fits : b.low.REV + b.high.REV ≤ b.size
    pub low : b.low.REV ≤ b.first
    pub high : b.first + b.high.REV ≤ b.size

  -- readings at which nothing may be delivered or taken
  pub record Still : Type 0 where
    pub readings : List ℕ
    pub good : b.good readings ≡ true
    pub low : b.low.bound readings ≡ 0
    pub high : b.high.bound readings ≡ 0

  module _ (h : History) (c : Closing) where
    pub new_is : above (new_state (state_after b h) c) + (below (state_after b h) + below c.purchase + above c.delivered + below c.taken)
        ≡ above (state_after b h) + above c.purchase + below c.delivered + above c.taken + below (new_state (state_after b h) c)
    new_is =
        let s = state_after b h +ℤ c.purchase in
        omega (arith, sum (state_after b h) c.purchase, less s c.delivered, sum (s -ℤ c.delivered) c.taken)

    pub state-next : state_after b (extend h c) ≡ new_state (state_after b h) c
    unfolding state_after
    state-next = foldl-append new_state (pos b.first) h (c ∷ [])

  -- ---- an accepted purchase, in natural numbers
  module _ (h : History) where
    floor-is : floor h ≡ pos (need b.low h)
    floor-is = need-is b.low h

    ceiling-is : ceiling h ≡ pos b.size -ℤ pos (need b.high h)
    ceiling-is = ap (λ z. pos b.size -ℤ z) (need-is b.high h)

    -- with purchase p the state reaches the floor; it stays under the ceiling
    abbrev Reaches : ℤ → Type 0
    Reaches p = need b.low h + below (state_after b h) + below p ≤ above (state_after b h) + above p

    abbrev Under : ℤ → Type 0
    Under p = above (state_after b h) + above p + need b.high h ≤ b.size + below (state_after b h) + below p

    module _ (p : ℤ) where
      reaches : (floor h ≤ℤ (state_after b h +ℤ p)) ↔ Reaches p
      reaches = omega (arith, whole, ap above floor-is, ap below floor-is, sum (state_after b h) p)

      under : ((state_after b h +ℤ p) ≤ℤ ceiling h) ↔ Under p
      under = omega (arith, whole, ap above ceiling-is, ap below ceiling-is, sum (state_after b h) p, less (pos b.size) (pos (need b.high h)))

      pub accepts-true : accepts h p ≡ true → Reaches p × Under p
      unfolding accepts
      accepts-true e =
          let w = within-true (floor h) (state_after b h +ℤ p) (ceiling h) e in
          (reaches.0 w.0, under.0 w.1)

      true-accepts : Reaches p → Under p → accepts h p ≡ true
      unfolding accepts
      true-accepts l m = true-within (floor h) (state_after b h +ℤ p) (ceiling h) (reaches.1 l) (under.1 m)

      accepts-false : accepts h p ≡ false → (¬ Reaches p) ⊎ (¬ Under p)
      unfolding accepts
      accepts-false e = go (within-false (floor h) (state_after b h +ℤ p) (ceiling h) e)
        where
          go : ((state_after b h +ℤ p) <ℤ floor h) ⊎ (ceiling h <ℤ (state_after b h +ℤ p)) → (¬ Reaches p) ⊎ (¬ Under p)
          go (inl k) = inl (λ r. let l = reaches.1 r in omega (arith, whole))
          go (inr k) = inr (λ r. let l = under.1 r in omega (arith, whole))

  -- ---- an accepted purchase: whatever the outcome, the next state passes both directions
  module _ (h : History) (c : Closing) (accepted : accepts h c.purchase ≡ true)
      (x : Possible b c.readings c.delivered c.taken) where
    low-safe : start_after b.low (extend h c) ≤ℤ new_state (state_after b h) c
    low-safe = omega (arith, whole, accepts-true h c.purchase accepted, new_is h c, start-next b.low h c)

    high-safe : start_after b.high (extend h c) ≤ℤ (pos b.size -ℤ new_state (state_after b h) c)
    high-safe = omega (arith, whole, accepts-true h c.purchase accepted, new_is h c, start-next b.high h c, less (pos b.size) (new_state (state_after b h) c))

  pub safe : (h : History) (p : ℤ) (w : ℕ) → accepts h p ≡ true → (o : Outcome b) → ¬ Fails b h (ending b p w o)
  safe h p w e o (inl f) =
      let l = low-safe h (ending b p w o) e o.possible in
      omega (arith, whole)
  safe h p w e o (inr f) =
      let l = high-safe h (ending b p w o) e o.possible in
      omega (arith, whole)

  -- ---- what every history keeps: it passes both directions at the next start
  pub record Passes (h : History) : Type 0 where
    pub eight : length h ≤ 8
    pub low_passes : start_after b.low h ≤ℤ state_after b h
    pub high_passes : start_after b.high h ≤ℤ (pos b.size -ℤ state_after b h)
    pub in_size : InSize b (state_after b h)

  first_passes : Opened → Passes []
  unfolding start_after start state_after
  first_passes o = record {
    eight = omega arith;
    low_passes = omega (arith, whole, o.low);
    high_passes = omega (arith, whole, o.fits, o.high, less (pos b.size) (pos b.first));
    in_size = omega (arith, whole, o.high);
  }

  next-passes : (h : History) (c : Closing) → Passes h → NoCause b h c → Passes (extend h c)
  unfolding accepts
  next-passes h c v x =
      let e = true-within (floor h) (state_after b h +ℤ c.purchase) (ceiling h) x.floor x.ceiling in
      record {
        eight = omega (arith, x.before_eight, v.eight, length-append h (c ∷ []));
        low_passes = rw (state-next h c) (low-safe h c e x.possible);
        high_passes = rw (state-next h c) (high-safe h c e x.possible);
        in_size = rw (state-next h c) x.in_size;
      }

  -- ---- the same after each number of the closings, from none to all
  abbrev pub AllPass : History → Type 0
  AllPass h = (k : ℕ) → k ≤ length h → Passes (take k h)

  pub all-passes : {h : History} → AllPass h → Passes h
  all-passes {h} all = rw (take-length h) at (all (length h) (omega arith))

  pub first-all : Opened → AllPass []
  first-all o k l = rw (take-nil {A = Closing} k) (first_passes o)

  pub next-all : (h : History) (c : Closing) → AllPass h → NoCause b h c → AllPass (extend h c)
  next-all h c all x k l = by (dec_le k (length h))
    where
      by : Dec (k ≤ length h) → Passes (take k (extend h c))
      by (yes m) = rw (take-append-le k h (c ∷ []) m) (all k m)
      by (no m) = rw (take_all k (extend h c) (omega (arith, length-append h (c ∷ [])))) (next-passes h c (all-passes all) x)

  -- ---- none of a closing's causes holds
  pub no-cause : (h : History) (c : Closing) → length h < 8 → (1 ≤ c.trader) × (c.trader ≤ 4) → accepts h c.purchase ≡ true → b.good c.readings ≡ true → settled h c ≡ true → NoCause b h c
  unfolding accepts settled
  no-cause h c n trader a g s =
      let w = within-true (floor h) (state_after b h +ℤ c.purchase) (ceiling h) a in
      let delivered-in = within (pos 0) c.delivered (pos (b.low.bound c.readings)) in
      let taken_in = within (pos 0) c.taken (pos (b.high.bound c.readings)) in
      let x = both_true (delivered-in && taken_in) (within (pos 0) (new_state (state_after b h) c) (pos b.size)) s in
      let y = both_true delivered-in taken_in x.0 in
      let d = within-true (pos 0) c.delivered (pos (b.low.bound c.readings)) y.0 in
      let t = within-true (pos 0) c.taken (pos (b.high.bound c.readings)) y.1 in
      record {
        before_eight = n;
        trader = trader;
        floor = w.0;
        ceiling = w.1;
        possible = record { good = g; delivered_least = d.0; delivered_most = d.1; taken_least = t.0; taken_most = t.1 };
        in_size = within-true (pos 0) (new_state (state_after b h) c) (pos b.size) x.1;
      }

  module _ (h : History) (c : Closing) (x : NoCause b h c) where
    pub no-cause-accepts : accepts h c.purchase ≡ true
    unfolding accepts
    no-cause-accepts = true-within (floor h) (state_after b h +ℤ c.purchase) (ceiling h) x.floor x.ceiling

    pub no-cause-settled : settled h c ≡ true
    unfolding settled
    no-cause-settled =
        rw (
          true-within (pos 0) c.delivered (pos (b.low.bound c.readings)) x.possible.delivered_least x.possible.delivered_most,
          true-within (pos 0) c.taken (pos (b.high.bound c.readings)) x.possible.taken_least x.possible.taken_most,
          true-within (pos 0) (new_state (state_after b h) c) (pos b.size) x.in_size.0 x.in_size.1,
        )

  -- ---- the proposal brings the state to the floor, or to the ceiling, or leaves it
  module _ (o : Opened) (h : History) (v : Passes h) where
    pub record Nearest (p : ℤ) : Type 0 where
      pub accepted : accepts h p ≡ true
      pub least : neg_ℤ (pos b.high.ER) ≤ℤ p
      pub most : p ≤ℤ pos b.low.ER
      pub nearest : (q : ℤ) → accepts h q ≡ true → q ≢ p → nat_abs p < nat_abs q

    room : need b.low h + need b.high h ≤ b.size
    room = omega (arith, need-most b.low h, need-most b.high h, o.fits)

    -- p meets the floor exactly: whatever meets it lies further above
    under-floor : state_after b h <ℤ floor h → Nearest (floor h -ℤ state_after b h)
    under-floor k =
        let p = floor h -ℤ state_after b h in
        let p-is : above p + above (state_after b h) ≡ need b.low h + below (state_after b h) + below p =
        omega (arith, less (floor h) (state_after b h), ap above (floor-is h), ap below (floor-is h)) in
        let k' : above (state_after b h) < need b.low h + below (state_after b h) = omega (arith, whole, ap above (floor-is h), ap below (floor-is h)) in
        record {
          accepted = true-accepts h p (omega arith) (omega (arith, room));
          least = omega (arith, whole, neg (pos b.high.ER));
          most = omega (arith, whole, v.low_passes, v.in_size.0, back_most b.low h);
          nearest = λ q e n.
              let a : above q + below p ≢ above p + below q = λ e. n (same q p e) in
              omega (arith, accepts-true h q e, abs_is p, abs_is q, one-sided p, one-sided q);
        }

    over-ceiling : ceiling h <ℤ state_after b h → Nearest (ceiling h -ℤ state_after b h)
    over-ceiling k =
        let p = ceiling h -ℤ state_after b h in
        let c-is : above (ceiling h) + need b.high h ≡ b.size + below (ceiling h) =
        omega (arith, ap above (ceiling-is h), ap below (ceiling-is h), less (pos b.size) (pos (need b.high h))) in
        let p-is : above p + above (state_after b h) + need b.high h ≡ b.size + below (state_after b h) + below p =
        omega (arith, less (ceiling h) (state_after b h)) in
        let k' : b.size + below (state_after b h) < above (state_after b h) + need b.high h = omega (arith, whole) in
        record {
          accepted = true-accepts h p (omega (arith, room)) (omega arith);
          least = omega (arith, whole, v.high_passes, v.in_size.1, back_most b.high h, neg (pos b.high.ER), less (pos b.size) (state_after b h));
          most = omega (arith, whole);
          nearest = λ q e n.
              let a : above q + below p ≢ above p + below q = λ e. n (same q p e) in
              omega (arith, accepts-true h q e, abs_is p, abs_is q, one-sided p, one-sided q);
        }

    between : floor h ≤ℤ state_after b h → state_after b h ≤ℤ ceiling h → Nearest (pos 0)
    between k l =
        record {
          accepted = true-accepts h (pos 0)
              (omega (arith, whole, ap above (floor-is h), ap below (floor-is h)))
              (omega (arith, whole, ap above (ceiling-is h), ap below (ceiling-is h), less (pos b.size) (pos (need b.high h))));
          least = omega (arith, whole, neg (pos b.high.ER));
          most = omega (arith, whole);
          nearest = λ q e n.
              let a : above q + 0 ≢ 0 + below q = λ e. n (same q (pos 0) e) in
              omega (arith, abs_is q, one-sided q);
        }

    pub proposal_nearest : Nearest (proposal h)
    unfolding proposal
    proposal_nearest = by (lt_z (state_after b h) (floor h)) (lt_z (ceiling h) (state_after b h)) refl refl
      where
        by : (x y : Bool) → lt_z (state_after b h) (floor h) ≡ x → lt_z (ceiling h) (state_after b h) ≡ y
            → Nearest (cond x (floor h -ℤ state_after b h) (cond y (ceiling h -ℤ state_after b h) (pos 0)))
        by true y e f = under-floor (lt_z-true e)
        by false true e f = over-ceiling (lt_z-true f)
        by false false e f = between (lt_z-false (state_after b h) (floor h) e) (lt_z-false (ceiling h) (state_after b h) f)

  -- ---- a refused purchase that stays in 0..size fails at still readings
  in-or-out : (s : ℤ) → InSize b s ⊎ OutOfSize b s
  in-or-out s = by (within (pos 0) s (pos b.size)) refl
    where
      by : (x : Bool) → within (pos 0) s (pos b.size) ≡ x → InSize b s ⊎ OutOfSize b s
      by true e = inl (within-true (pos 0) s (pos b.size) e)
      by false e = inr (within-false (pos 0) s (pos b.size) e)

  module _ (k : Still) (h : History) (p : ℤ) (w : ℕ) where
    still : Outcome b
    still = record {
      readings = k.readings;
      delivered = pos 0;
      taken = pos 0;
      possible = record {
        good = k.good;
        delivered_least = omega (arith, whole);
        delivered_most = omega (arith, whole);
        taken_least = omega (arith, whole);
        taken_most = omega (arith, whole);
      };
    }

    pub refused_fails : accepts h p ≡ false → InSize b (state_after b h +ℤ p) →
        (o : Outcome b) × Fails b h (ending b p w o) × InSize b (new_state (state_after b h) (ending b p w o))
    unfolding still
    refused_fails e i = (still, go (accepts-false h p e), omega (arith, whole, i, sum (state_after b h) p, new_is h c))
      where
        c : Closing
        c = ending b p w still

        go : (¬ Reaches h p) ⊎ (¬ Under h p) → Fails b h c
        go (inl l) = inl (omega (arith, whole, i, sum (state_after b h) p, new_is h c, start-next b.low h c, k.low))
        go (inr l) = inr (omega (arith, whole, i, sum (state_after b h) p, new_is h c, start-next b.high h c, k.high, less (pos b.size) (new_state (state_after b h) c)))

    -- refused exactly where state + p is past empty or full, or some outcome fails
    pub refused_exactly : accepts h p ≡ false ↔ OutOfSize b (state_after b h +ℤ p) ⊎ ((o : Outcome b) × Fails b h (ending b p w o))
    refused_exactly = (λ e. to e (in-or-out (state_after b h +ℤ p)), λ f. from (accepts h p) refl f)
      where
        to : accepts h p ≡ false → InSize b (state_after b h +ℤ p) ⊎ OutOfSize b (state_after b h +ℤ p) →
            OutOfSize b (state_after b h +ℤ p) ⊎ ((o : Outcome b) × Fails b h (ending b p w o))
        to e (inl i) = let f = refused_fails e i in inr (f.0, f.1)
        to e (inr x) = inl x

        never : accepts h p ≡ true → OutOfSize b (state_after b h +ℤ p) ⊎ ((o : Outcome b) × Fails b h (ending b p w o)) → ⊥
        never e (inl (inl x)) = omega (arith, whole, accepts-true h p e, sum (state_after b h) p)
        never e (inl (inr x)) = omega (arith, whole, accepts-true h p e, sum (state_after b h) p)
        never e (inr f) = safe h p w e f.0 f.1

        from : (a : Bool) → accepts h p ≡ a → OutOfSize b (state_after b h +ℤ p) ⊎ ((o : Outcome b) × Fails b h (ending b p w o)) → accepts h p ≡ false
        from false e f = e
        from true e f = absurd (never e f)
