-- Paper 02, No. 10: two contracts of one direction combined, against the two apart; with any number of bounds each, at any start.
-- Assumes nothing.
use mathlib.Core.Path.{◌≡◌, refl, sym, ◌∙◌}
use mathlib.Core.Bool.{cond}
use mathlib.Core.List.{List, [], ◌∷◌, zip_with}
use Prim.Native.Nat.{ℕ, zero, suc, ◌+◌, ◌*◌, ◌-◌, ◌≤◌, ◌<◌}
use native.Mathlib.Omega.{arith}
use native.Mathlib.Decide.{dec_le}
use borrow.Author.Tests.{le-leb, lt-leb}
use lib.Dec.{leb}
use lib.IntN.{ℤ, pos, ◌+ℤ◌, ◌-ℤ◌}
use lib.ListN.{length, get_or}
use Rattle.signed.specs.Sign.{above, below}
use Rattle.signed.proofs.Whole.{whole, sum, less, same}
use Rattle.terms.specs.Terms.{REV, ER}
use Rattle.requirement.specs.Requirement.{left}
use Rattle.requirement.specs.Stacking.{Contract, start_in, left_in, each_added, combined, saved_before, Stacked, Stacking, mw_added, mw_times, InMW}
use Rattle.requirement.proofs.Shortfall.{shortfall}
use Rattle.requirement.proofs.Contracts.{bound_in, short_in, none-back, short-later, start-short}

added-at : (xs ys : List ℕ) → length xs ≡ length ys → (k : ℕ) → get_or (each_added xs ys) k 0 ≡ get_or xs k 0 + get_or ys k 0
unfolding zip_with
added-at [] [] long k = omega arith
added-at [] (y ∷ ys) long k = absurd (omega arith)
added-at (x ∷ xs) [] long k = absurd (omega arith)
added-at (x ∷ xs) (y ∷ ys) long zero = refl
added-at (x ∷ xs) (y ∷ ys) long (suc k) = added-at xs ys (omega arith) k

-- ---- two contracts with as many bounds each

module _ (a b : Contract) (long : length a.bounds ≡ length b.bounds) where
  abbrev both : Contract
  both = combined a b

  added : (i : ℕ) → bound_in both i ≡ bound_in a i + bound_in b i
  added i = added-at a.bounds b.bounds long (i - 1)

  -- no more is left than apart
  left_most : (i : ℕ) → left_in both i ≤ left_in a i + left_in b i
  unfolding left
  left_most zero = omega arith
  left_most (suc zero) = omega arith
  left_most (suc (suc i)) = omega (arith, left_most (suc i), added (suc i))

  abbrev saved : ℕ → ℕ
  saved i = left_in a i + left_in b i - left_in both i

  -- up to period 4 nothing has come back
  at_first : (i : ℕ) → i ≤ 4 → short_in a i + short_in b i ≡ short_in both i
  unfolding shortfall
  at_first zero h = omega arith
  at_first (suc zero) h = omega arith
  at_first (suc (suc i)) h =
      let l : suc i ≤ 4 = omega arith in
      omega (arith, at_first (suc i) l, added (suc i), none-back a (suc i) l, none-back b (suc i) l, none-back both (suc i) l)

  later : (i : ℕ) → short_in a (suc (suc (suc (suc (suc i))))) + short_in b (suc (suc (suc (suc (suc i)))))
      ≡ short_in both (suc (suc (suc (suc (suc i))))) + saved (suc i)
  later i =
      omega (
        arith,
        short-later a i,
        short-later b i,
        short-later both i,
        left_most (suc i),
        added (suc i),
        added (suc (suc i)),
        added (suc (suc (suc i))),
        added (suc (suc (suc (suc i)))),
      )

  module _ (i : ℕ) where
    -- the left that combining saves four periods before, as a natural number
    abbrev more : ℕ
    more = cond (leb i 4) 0 (saved (i - 4))

    more-is : short_in a i + short_in b i ≡ short_in both i + more
    more-is = by (dec_le i 4)
      where
        by : Dec (i ≤ 4) → short_in a i + short_in b i ≡ short_in both i + more
        by (yes h) = rw (le-leb i 4 h) (omega (arith, at_first i h))
        by (no h) =
            let is : suc (suc (suc (suc (suc (i - 5))))) ≡ i = omega arith in
            let before : suc (i - 5) ≡ i - 4 = omega arith in
            rw (lt-leb i 4 (omega arith)) (rw (is, before) at (later (i - 5)))

    none_more : (4 < i → (left_in a (i - 4) ≡ 0) × (left_in b (i - 4) ≡ 0)) → more ≡ 0
    none_more none = by (dec_le i 4)
      where
        by : Dec (i ≤ 4) → more ≡ 0
        by (yes h) = rw (le-leb i 4 h)
        by (no h) = let n = none (omega arith) in rw (lt-leb i 4 (omega arith)) (omega (arith, n.0, n.1))

    saved-is : above (saved_before a b i) ≡ more + below (saved_before a b i)
    saved-is = by (dec_le i 4)
      where
        by : Dec (i ≤ 4) → above (saved_before a b i) ≡ more + below (saved_before a b i)
        by (yes h) = rw (le-leb i 4 h)
        by (no h) =
            rw (lt-leb i 4 (omega arith)) (omega (arith, less (pos (left_in a (i - 4) + left_in b (i - 4))) (pos (left_in both (i - 4))), left_most (i - 4)))

    abbrev separate : ℤ
    separate = start_in a i +ℤ start_in b i

    start-more : above (start_in both i) + below separate ≡ above separate + below (start_in both i) + more
    start-more = omega (arith, start-short a i, start-short b i, start-short both i, more-is, sum (start_in a i) (start_in b i))

    pub stacked : Stacked a b i
    stacked =
        record {
          at_least = omega (arith, whole, start-more);
          equal = λ none. same (start_in both i) separate (omega (arith, start-more, none_more (λ h. none (i - 4) (omega arith) (omega arith))));
          cost = same (start_in both i -ℤ separate) (saved_before a b i) (omega (arith, start-more, less (start_in both i) separate, saved-is));
        }

pub stacking : Stacking
stacking a b eight₁ eight₂ i first last = stacked a b (eight₁ ∙ sym eight₂) i

-- ---- in MW

pub in-mw : InMW
in-mw =
    record {
      sums = λ p q es fs.
          let rev : REV (mw_added p q) ≡ REV p + REV q = omega arith in
          let er : ER (mw_added p q) ≡ ER p + ER q = omega arith in
          rw (rev, er);
      multiples = λ m q es.
          let rev : REV (mw_times m q) ≡ m * REV q = omega arith in
          let er : ER (mw_times m q) ≡ m * ER q = omega arith in
          rw (rev, er);
    }
