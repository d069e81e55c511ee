-- Lists and tests over the periods 1 to n: entries, and how an array is filled. Assumes nothing.
use mathlib.Core.Path.{◌≡◌, refl, sym, ap, ◌∙◌}
use mathlib.Core.Bool.{Bool, true, cond, ◌&&◌, and-true}
use mathlib.Core.List.{List, [], ◌∷◌, ◌++◌, map, map-append}
use Prim.Native.Nat.{ℕ, zero, suc, ◌+◌, ◌<◌, min}
use native.Mathlib.Numerals.{add-one}
use native.Mathlib.Omega.{arith}
use native.Mathlib.Decide.{dec_lt}
use borrow.Author.Tests.{le-leb, lt-leb}
use lib.Dec.{leb}
use lib.ListN.{length, get_or, take, set, length-append, get_or-append}
use lib.Seq.{take_all, take-suc-set, get_or_at}
use Rattle.common.specs.Lists.{every}
use Rattle.common.specs.Periods.{periods_to}
use Rattle.common.proofs.Lists.{every_append}
use Rattle.common.proofs.Tests.{both_true}

module _ {A : Type 0} (f : ℕ → A) where
  pub map_next : (n : ℕ) → map f (periods_to (suc n)) ≡ map f (periods_to n) ++ (f (suc n) ∷ [])
  unfolding periods_to
  map_next n = rw map-append

  pub length-periods : (n : ℕ) → length (map f (periods_to n)) ≡ n
  unfolding periods_to
  length-periods zero = refl
  length-periods (suc n) = rw (map-append, length-append, length-periods n) (add-one n)

  pub period-at : (n i : ℕ) (d : A) → i < n → get_or (map f (periods_to n)) i d ≡ f (suc i)
  period-at zero i d h = absurd (omega arith)
  period-at (suc n) i d h = by (dec_lt i n) (λ l. period-at n i d l)
    where
      by : Dec (i < n) → (i < n → get_or (map f (periods_to n)) i d ≡ f (suc i)) → get_or (map f (periods_to (suc n))) i d ≡ f (suc i)
      by (yes l) rec = rw (map_next n, get_or-append (map f (periods_to n)) (f (suc n) ∷ []) d i (omega (arith, length-periods n))) (rec l)
      by (no l) rec =
          let p : i ≡ n = omega arith in
          rw (map_next n, p) (get_or_at (map f (periods_to n)) (f (suc n)) [] d n (length-periods n))

  module _ (xs : List A) (i : ℕ) where
    pub filled_next : (x : A) → i < length xs → take i xs ≡ map f (periods_to i) → x ≡ f (suc i) → take (i + 1) (set xs i x) ≡ map f (periods_to (i + 1))
    filled_next x h filled is = rw (add-one i, take-suc-set xs i x h, filled, is, map_next i)

    pub filled-all : (n : ℕ) → length xs ≡ n → i ≡ n → take i xs ≡ map f (periods_to i) → xs ≡ map f (periods_to n)
    filled-all n long end filled = sym (take_all i xs (omega arith)) ∙ filled ∙ ap (λ (k : ℕ). map f (periods_to k)) end

-- what f is at the periods 1 to n alone matters
pub map-local : {A : Type 0} (f g : ℕ → A) (n : ℕ) → ((k : ℕ) → k < n → f (suc k) ≡ g (suc k)) → map f (periods_to n) ≡ map g (periods_to n)
unfolding periods_to
map-local f g zero h = refl
map-local f g (suc n) h = map_next f n ∙ rw (map-local f g n (λ k l. h k (omega arith)), h n (omega arith)) (sym (map_next g n))

-- ---- a test of every period
module _ (holds : ℕ → Bool) where
  pub every-next : (n : ℕ) → every holds (periods_to (suc n)) ≡ every holds (periods_to n) && holds (suc n)
  unfolding periods_to every
  every-next n = every_append holds (periods_to n) (suc n ∷ []) ∙ ap (λ (b : Bool). every holds (periods_to n) && b) (and-true (holds (suc n)))

  pub every-period : (n : ℕ) → ((k : ℕ) → k < n → holds (suc k) ≡ true) → every holds (periods_to n) ≡ true
  unfolding periods_to every
  every-period zero h = refl
  every-period (suc n) h = every-next n ∙ rw (every-period n (λ k l. h k (omega arith)), h n (omega arith))

  pub period-holds : (n k : ℕ) → every holds (periods_to n) ≡ true → k < n → holds (suc k) ≡ true
  period-holds zero k e l = absurd (omega arith)
  period-holds (suc n) k e l = by (dec_lt k n) (λ m. period-holds n k w.0 m)
    where
      w : (every holds (periods_to n) ≡ true) × (holds (suc n) ≡ true)
      w = both_true (every holds (periods_to n)) (holds (suc n)) (sym (every-next n) ∙ e)

      by : Dec (k < n) → (k < n → holds (suc k) ≡ true) → holds (suc k) ≡ true
      by (yes m) rest = rest m
      by (no m) rest = let p : k ≡ n = omega arith in rw p w.1

-- a test of those periods that are at most c
pub every-until : (holds : ℕ → Bool) (c n : ℕ) → every (λ (i : ℕ). cond (leb i c) (holds i) true) (periods_to n) ≡ every holds (periods_to (min c n))
unfolding periods_to every
every-until holds c zero = let p : min c 0 ≡ 0 = omega arith in rw p
every-until holds c (suc n) = every-next up_to n ∙ by (dec_lt n c) (every-until holds c n)
  where
    up_to : ℕ → Bool
    up_to i = cond (leb i c) (holds i) true

    by : Dec (n < c) → every up_to (periods_to n) ≡ every holds (periods_to (min c n)) → every up_to (periods_to n) && up_to (suc n) ≡ every holds (periods_to (min c (suc n)))
    by (yes l) rest =
        let p : min c n ≡ n = omega arith in
        let q : min c (suc n) ≡ suc n = omega arith in
        rw (rest, p, q, le-leb (suc n) c l) (sym (every-next holds n))
    by (no l) rest =
        let p : min c (suc n) ≡ min c n = omega arith in
        rw (rest, p, lt-leb (suc n) c (omega arith)) (and-true (every holds (periods_to (min c n))))
