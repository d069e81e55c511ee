-- Seeds and readings step by step, and the loop of `fill`. Assumes nothing.
use mathlib.Core.Path.{◌≡◌, refl, sym, ap, ◌∙◌}
use mathlib.Core.Bool.{true}
use mathlib.Core.List.{List, [], ◌∷◌, ◌++◌}
use Prim.Native.Nat.{ℕ, zero, suc, ◌+◌, ◌≤◌, ◌<◌}
use native.Mathlib.Decide.{dec_le}
use native.Mathlib.Nat.{suc-add, zero-add}
use native.Mathlib.Numerals.{add-one}
use native.Mathlib.Omega.{arith}
use borrow.Author.Tests.{lt-ltb, le-ltb, ltb-false, not-true}
use lib.ListN.{length, take, set, length-set}
use lib.Seq.{take-suc-set}
use Rattle.common.specs.Answer.{refused, given}
use Rattle.common.proofs.Answers.{given-clear, given-value}
use Rattle.common.proofs.Tests.{both_true}
use Rattle.test_day.specs.Day.{next_seed, reading, readings, last_seed, fill_causes, filling, filled}

-- ---- the last step

last-next : (n seed : ℕ) → last_seed (suc n) seed ≡ next_seed (last_seed n seed)
unfolding last_seed
last-next zero seed = refl
last-next (suc n) seed = last-next n (next_seed seed)

readings-next : (n seed : ℕ) → readings (suc n) seed ≡ readings n seed ++ (reading (last_seed (suc n) seed) ∷ [])
unfolding readings last_seed
readings-next zero seed = refl
readings-next (suc n) seed = ap (λ (l : List ℕ). reading (next_seed seed) ∷ l) (readings-next n (next_seed seed))

pub readings-length : (n seed : ℕ) → length (readings n seed) ≡ n
unfolding readings
readings-length zero seed = refl
readings-length (suc n) seed = ap suc (readings-length n (next_seed seed))

-- ---- m steps, and n more

pub last-split : (m n seed : ℕ) → last_seed (m + n) seed ≡ last_seed n (last_seed m seed)
unfolding last_seed
last-split zero n seed = rw (zero-add n)
last-split (suc m) n seed = rw (suc-add m n) (last-split m n (next_seed seed))

pub readings-split : (m n seed : ℕ) → readings (m + n) seed ≡ readings m seed ++ readings n (last_seed m seed)
unfolding readings last_seed
readings-split zero n seed = rw (zero-add n)
readings-split (suc m) n seed = rw (suc-add m n) (ap (λ (l : List ℕ). reading (next_seed seed) ∷ l) (readings-split m n (next_seed seed)))

-- a seed stays a seed
pub last-small : (n seed : ℕ) → seed ≤ 2147483647 → last_seed n seed ≤ 2147483647
unfolding last_seed
last-small zero seed h = h
last-small (suc n) seed h = last-small n (next_seed seed) (omega arith)

-- ---- the answers

module _ (seed : ℕ) where
  pub refuses : 2147483647 < seed → (n : ℕ) → filling seed n ≡ refused 21
  unfolding filling
  refuses large n = rw (lt-ltb 2147483647 seed large)

  module _ (good : seed ≤ 2147483647) where
    pub gives : (n : ℕ) → filling seed n ≡ given (last_seed n seed)
    unfolding filling
    gives n = rw (le-ltb 2147483647 seed good)

    pub fills : (buffer : List ℕ) → filled seed buffer ≡ readings (length buffer) seed
    unfolding filled
    fills buffer = rw (le-ltb 2147483647 seed good)

  -- what an answer says of the seed
  module _ (n : ℕ) where
    pub given-good : {last : ℕ} → filling seed n ≡ given last → seed ≤ 2147483647
    unfolding filling
    given-good e = ltb-false 2147483647 seed (not-true _ (both_true _ true (given-clear (fill_causes seed) (last_seed n seed) _ e)).0)

    pub given-last : {last : ℕ} → filling seed n ≡ given last → last_seed n seed ≡ last
    unfolding filling
    given-last e = given-value (fill_causes seed) (last_seed n seed) _ e

    pub refused-large : {k : ℕ} → filling seed n ≡ refused k → 2147483647 < seed
    refused-large {k} e = by (dec_le seed 2147483647)
      where
        by : Dec (seed ≤ 2147483647) → 2147483647 < seed
        by (yes h) = let g : given (last_seed n seed) ≡ refused k = sym (gives h n) ∙ e in let o : ◌≡◌ {A = ℕ} 0 1 = cc in absurd (omega arith)
        by (no h) = omega arith

  -- ---- the loop: after i turns the buffer begins with i readings
  module _ (before : List ℕ) where
    pub record Filled (buffer : List ℕ) (last i : ℕ) : Type 0 where
      pub good : seed ≤ 2147483647
      pub long : length buffer ≡ length before
      pub within : i ≤ length before
      pub last-is : last ≡ last_seed i seed
      pub begins : take i buffer ≡ readings i seed

    pub begin : seed ≤ 2147483647 → Filled before seed 0
    unfolding last_seed readings
    begin h = record { good = h; long = refl; within = omega arith; last-is = refl; begins = refl }

    module _ {buffer : List ℕ} {last i : ℕ} (f : Filled buffer last i) where
      pub step : {s r : ℕ} → i < length before → s ≡ next_seed last → r ≡ reading s → Filled (set buffer i r) s (i + 1)
      step {s} {r} h s-is r-is =
          let e : s ≡ last_seed (suc i) seed = s-is ∙ ap next_seed f.last-is ∙ sym (last-next i seed) in
          record {
            good = f.good;
            long = length-set buffer i r ∙ f.long;
            within = omega (arith, f.long);
            last-is = rw (add-one i) e;
            begins = rw (add-one i, take-suc-set buffer i r (omega (arith, f.long)), f.begins, r-is, e) (sym (readings-next i seed));
          }

      module _ (h : length before ≤ i) where
        end : i ≡ length before
        end = omega (arith, f.within)

        pub done : given last ≡ filling seed (length before)
        done = rw (f.last-is, end) (sym (gives f.good (length before)))
