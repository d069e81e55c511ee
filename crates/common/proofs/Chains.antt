-- Chains of entries, and a loop that tests one. Assumes nothing.
use mathlib.Core.Path.{◌≡◌, ◌∙◌}
use mathlib.Core.Bool.{Bool, true, false, ◌&&◌}
use mathlib.Core.List.{List, [], ◌∷◌}
use Prim.Native.Nat.{ℕ, ◌+◌, ◌≤◌, ◌<◌}
use lib.ListN.{length, drop, get_or, drop_of_length-le}
use Rattle.common.specs.Lists.{chain}
use Rattle.common.proofs.Lists.{drop-next}
use Rattle.common.proofs.Tests.{both_true}

module _ {A : Type 0} (holds : A → Bool) (linked : A → A → Bool) where
  -- ---- what a chain says of its entries

  module _ (x y : A) (ys : List A) (e : chain holds linked x (y ∷ ys) ≡ true) where
    pub link : linked x y ≡ true
    unfolding chain
    link = (both_true (holds x) (linked x y) (both_true (holds x && linked x y) (chain holds linked y ys) e).0).1

    pub onward : chain holds linked y ys ≡ true
    unfolding chain
    onward = (both_true (holds x && linked x y) (chain holds linked y ys) e).1

  pub first_holds : (x : A) (xs : List A) → chain holds linked x xs ≡ true → holds x ≡ true
  unfolding chain
  first_holds x [] e = e
  first_holds x (y ∷ ys) e = (both_true (holds x) (linked x y) (both_true (holds x && linked x y) (chain holds linked y ys) e).0).0

  -- ---- a loop that tests a chain: what the entries from the i-th on decide, after the entry `last`

  module _ (xs : List A) {decided : Bool} (last : A) (i : ℕ) (same : decided ≡ chain holds linked last (drop i xs)) where
    module _ (d : A) (h : i < length xs) where
      pub stops : holds last && linked last (get_or xs i d) ≡ false → decided ≡ false
      unfolding chain
      stops bad = same ∙ (rw (drop-next xs i d h, bad))

      pub goes_on : holds last && linked last (get_or xs i d) ≡ true → decided ≡ chain holds linked (get_or xs i d) (drop (i + 1) xs)
      unfolding chain
      goes_on good = same ∙ (rw (drop-next xs i d h, good))

    pub ends : length xs ≤ i → decided ≡ holds last
    unfolding chain
    ends h = same ∙ (rw (drop_of_length-le xs h))
