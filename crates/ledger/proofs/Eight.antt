-- Eight entries, those of the closed periods and then zeros. Assumes nothing.
use mathlib.Core.Path.{◌≡◌, refl, sym, ◌∙◌}
use mathlib.Core.List.{List, [], ◌∷◌, ◌++◌}
use Prim.Native.Nat.{ℕ, zero, suc, ◌-◌, ◌<◌}
use native.Mathlib.Omega.{arith}
use lib.ListN.{length, get_or, set, replicate, length-append}
use lib.Seq.{append_snoc, set_at}
use Rattle.common.specs.Lists.{sum}
use Rattle.common.specs.Periods.{of_period}
use Rattle.common.proofs.Lists.{sum-append, sum_zeros}
use Rattle.ledger.specs.Promise.{eight_of}

module _ {A : Type 0} (none : A) where
  zeros-at : (m k : ℕ) → get_or (replicate m none) k none ≡ none
  zeros-at zero k = refl
  zeros-at (suc m) zero = refl
  zeros-at (suc m) (suc k) = zeros-at m k

  padded-at : (xs : List A) (m k : ℕ) → get_or (xs ++ replicate m none) k none ≡ get_or xs k none
  padded-at [] m k = zeros-at m k
  padded-at (x ∷ xs) m zero = refl
  padded-at (x ∷ xs) m (suc k) = padded-at xs m k

  -- an entry is that of the list, or none past its end
  pub eight-at : (xs : List A) (k : ℕ) → get_or (eight_of none xs) k none ≡ get_or xs k none
  eight-at xs k = padded-at xs (8 - length xs) k

  -- one entry more
  pub eight-set : (xs : List A) (n : ℕ) (x : A) → length xs ≡ n → n < 8 → set (eight_of none xs) n x ≡ eight_of none (xs ++ (x ∷ []))
  eight-set xs n x long h =
      let p : 8 - length xs ≡ suc (7 - length xs) = omega arith in
      let q : 8 - length (xs ++ (x ∷ [])) ≡ 7 - length xs = omega (arith, length-append xs (x ∷ [])) in
      rw (p, set_at xs none (replicate (7 - length xs) none) x n long, q)
      (sym (append_snoc xs x (replicate (7 - length xs) none)))

pub eight-periods : (xs : List ℕ) → of_period (eight_of 0 xs) ≡ of_period xs
eight-periods xs = λ j i. eight-at 0 xs (i - 1) j

pub eight-sum : (xs : List ℕ) → sum (eight_of 0 xs) ≡ sum xs
eight-sum xs = sum-append xs (replicate (8 - length xs) 0) ∙ omega (arith, sum_zeros (8 - length xs))
