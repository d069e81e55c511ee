-- The traders 1 to 4, and what a closing adds to their totals. Assumes nothing.
use mathlib.Core.Path.{◌≡◌, refl, sym, ap, ◌∙◌}
use mathlib.Core.Bool.{true, cond}
use mathlib.Core.List.{List, [], ◌∷◌, map}
use Prim.Native.Nat.{ℕ, zero, suc, ◌+◌, ◌-◌, ◌≤◌}
use native.Mathlib.Nat.{add-zero}
use native.Mathlib.Omega.{arith}
use borrow.Author.Tests.{leb-true, le-leb}
use lib.Dec.{leb, eqb}
use lib.ListN.{length}
use Rattle.common.specs.Lists.{sum}
use Rattle.common.proofs.Lists.{sum_added, sum-next}
use Rattle.common.proofs.Tests.{both_true}
use Rattle.ledger.specs.Calls.{Closing, is_trader, added_to}
use Rattle.ledger.specs.Promise.{History, extend, total_of, totals_by_trader}

abbrev pub OneToFour : ℕ → Type 0
OneToFour w = (1 ≤ w) × (w ≤ 4)

pub trader-in : (w : ℕ) → is_trader w ≡ true → OneToFour w
trader-in w e =
    let x = both_true (leb 1 w) (leb w 4) e in
    (leb-true 1 w x.0, leb-true w 4 x.1)

pub is-trader : (w : ℕ) → OneToFour w → is_trader w ≡ true
is-trader w i = rw (le-leb 1 w i.0, le-leb w 4 i.1)

-- the sum over four traders has what is added to one
pub sum-with : (w : ℕ) (each : List ℕ) (more : ℕ) → OneToFour w → length each ≡ 4 → sum (added_to w each more) ≡ sum each + more
sum-with w each more i four = sum_added each (w - 1) more (omega (arith, i, four))

module _ (f : Closing → ℕ) (h : History) (c : Closing) (i : OneToFour c.trader) where
  as_it_was : (w : ℕ) → total_of f h w + 0 ≡ total_of f h w
  as_it_was w = add-zero (total_of f h w)

  -- a total of each trader with what the closing adds, where its trader is w
  with-closing : (w : ℕ) → OneToFour w → added_to w (totals_by_trader f h) (f c) ≡ map (λ (v : ℕ). total_of f h v + cond (eqb w v) (f c) 0) (1 ∷ 2 ∷ 3 ∷ 4 ∷ [])
  with-closing zero j = absurd (omega (arith, j))
  with-closing (suc zero) j = rw (as_it_was 2, as_it_was 3, as_it_was 4)
  with-closing (suc (suc zero)) j = rw (as_it_was 1, as_it_was 3, as_it_was 4)
  with-closing (suc (suc (suc zero))) j = rw (as_it_was 1, as_it_was 2, as_it_was 4)
  with-closing (suc (suc (suc (suc zero)))) j = rw (as_it_was 1, as_it_was 2, as_it_was 3)
  with-closing (suc (suc (suc (suc (suc w))))) j = absurd (omega (arith, j))

  -- one closing more in the list
  next_of : (w : ℕ) → total_of f (extend h c) w ≡ total_of f h w + cond (eqb c.trader w) (f c) 0
  next_of w = sum-next (λ (c : Closing). cond (eqb c.trader w) (f c) 0) h c

  pub by-trader-next : added_to c.trader (totals_by_trader f h) (f c) ≡ totals_by_trader f (extend h c)
  by-trader-next = with-closing c.trader i ∙ rw (next_of 1, next_of 2, next_of 3, next_of 4)

  pub all-next : sum (totals_by_trader f (extend h c)) ≡ sum (totals_by_trader f h) + f c
  all-next = ap sum (sym by-trader-next) ∙ sum-with c.trader (totals_by_trader f h) (f c) i refl
