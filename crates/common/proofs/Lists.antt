-- Sums and tests over lists. Assumes nothing.
use mathlib.Core.Path.{◌≡◌, refl, sym}
use mathlib.Core.Bool.{Bool, true, false, ◌&&◌, and_assoc, and-false}
use mathlib.Core.List.{List, [], ◌∷◌, ◌++◌, map, map-append}
use Prim.Native.Nat.{ℕ, zero, suc, ◌+◌, ◌*◌, ◌≤◌, ◌<◌}
use native.Mathlib.Nat.{add-zero, mul-suc, zero-add}
use native.Mathlib.Numerals.{add-one}
use native.Mathlib.Omega.{arith}
use lib.ListN.{length, get_or, set, take, drop, replicate}
use lib.Seq.{take-suc, drop-cons}
use Rattle.common.specs.Lists.{sum, every, every_from, some_entry}
use Rattle.common.proofs.Tests.{both_true, neither}

-- a turn of a loop over a list: the entries from the i-th on are the i-th and those after it
pub drop-next : {A : Type 0} (xs : List A) (i : ℕ) (d : A) → i < length xs → drop i xs ≡ get_or xs i d ∷ drop (i + 1) xs
drop-next xs i d h = rw (add-one i) (drop-cons xs i d h)

-- ---- sums

pub sum-append : (ms ns : List ℕ) → sum (ms ++ ns) ≡ sum ms + sum ns
unfolding sum
sum-append [] ns = omega arith
sum-append (m ∷ ms) ns = omega (arith, sum-append ms ns)

pub sum-entries : (k : ℕ) (ns : List ℕ) → ((i : ℕ) → i < length ns → get_or ns i 0 ≤ k) → sum ns ≤ k * length ns
unfolding sum
sum-entries k [] h = omega arith
sum-entries k (n ∷ ns) h = omega (arith, h 0 (omega arith), sum-entries k ns (λ i l. h (suc i) (omega arith)), mul-suc k (length ns))

-- a turn of a loop that sums a list
pub sum-take : (ns : List ℕ) (i : ℕ) → i < length ns → sum (take (i + 1) ns) ≡ sum (take i ns) + get_or ns i 0
unfolding sum
sum-take ns i h = rw (add-one i, take-suc ns i 0 h, sum-append) (omega arith)

-- an entry is part of the sum
pub sum-part : (ns : List ℕ) (i : ℕ) → get_or ns i 0 ≤ sum ns
unfolding sum
sum-part [] i = omega arith
sum-part (n ∷ ns) zero = omega arith
sum-part (n ∷ ns) (suc i) = omega (arith, sum-part ns i)

-- and the sum has what is added to an entry
pub sum_added : (ns : List ℕ) (i more : ℕ) → i < length ns → sum (set ns i (get_or ns i 0 + more)) ≡ sum ns + more
unfolding sum
sum_added [] i more h = absurd (omega arith)
sum_added (n ∷ ns) zero more h = omega arith
sum_added (n ∷ ns) (suc i) more h = omega (arith, sum_added ns i more (omega arith))

pub sum_zeros : (n : ℕ) → sum (replicate n 0) ≡ 0
unfolding sum
sum_zeros zero = refl
sum_zeros (suc n) = omega (arith, sum_zeros n)

-- one entry more
pub sum-next : {A : Type 0} (f : A → ℕ) (xs : List A) (x : A) → sum (map f (xs ++ (x ∷ []))) ≡ sum (map f xs) + f x
unfolding sum
sum-next f xs x = rw (map-append, sum-append) (omega arith)

-- ---- a sum of f over a list
module _ (f : ℕ → ℕ) where
  pub sum_same : (g : ℕ → ℕ) → ((n : ℕ) → f n ≡ g n) → (ns : List ℕ) → sum (map f ns) ≡ sum (map g ns)
  unfolding sum
  sum_same g h [] = refl
  sum_same g h (n ∷ ns) = rw (h n, sum_same g h ns)

  pub sum-le : (k : ℕ) → ((n : ℕ) → f n ≤ k) → (ns : List ℕ) → sum (map f ns) ≤ k * length ns
  unfolding sum
  sum-le k h [] = omega arith
  sum-le k h (n ∷ ns) = omega (arith, h n, sum-le k h ns, mul-suc k (length ns))

  map-replicate : (n k : ℕ) → map f (replicate k n) ≡ replicate k (f n)
  map-replicate n zero = refl
  map-replicate n (suc k) = rw (map-replicate n k)

  pub sum-none : (n : ℕ) → f n ≡ 0 → (k : ℕ) → sum (map f (replicate k n)) ≡ 0
  sum-none n h k = rw (map-replicate n k, h) (sum_zeros k)

-- ---- a test of every entry, by the entries

and-swap : (a b c d : Bool) → a && b && (c && d) ≡ a && c && (b && d)
and-swap true true c d = refl
and-swap true false true d = refl
and-swap true false false d = refl
and-swap false b c d = refl

module _ {A : Type 0} (holds : A → Bool) where
  pub every_append : (xs ys : List A) → every holds (xs ++ ys) ≡ every holds xs && every holds ys
  unfolding every
  every_append [] ys = refl
  every_append (x ∷ xs) ys = rw (every_append xs ys) (sym (and_assoc (holds x) (every holds xs) (every holds ys)))

  pub every-same : (x : A) → holds x ≡ true → (n : ℕ) → every holds (replicate n x) ≡ true
  unfolding every
  every-same x h zero = refl
  every-same x h (suc n) = rw h (every-same x h n)

  -- a test that holds wherever another does
  pub every-so : (so : A → Bool) → ((x : A) → holds x ≡ true → so x ≡ true) → (xs : List A) → every holds xs ≡ true → every so xs ≡ true
  unfolding every
  every-so so h [] e = refl
  every-so so h (x ∷ xs) e = let w = both_true (holds x) (every holds xs) e in rw (h x w.0) (every-so so h xs w.1)

  -- a test of two parts, part by part
  pub every-both : (one other : A → Bool) → ((x : A) → holds x ≡ one x && other x) → (xs : List A) → every holds xs ≡ every one xs && every other xs
  unfolding every
  every-both one other h [] = refl
  every-both one other h (x ∷ xs) = rw (h x, every-both one other h xs) (and-swap (one x) (other x) (every one xs) (every other xs))

  module _ (d : A) where
    pub every-at : (xs : List A) → ((i : ℕ) → i < length xs → holds (get_or xs i d) ≡ true) → every holds xs ≡ true
    unfolding every
    every-at [] h = refl
    every-at (x ∷ xs) h = rw (h 0 (omega arith)) (every-at xs (λ i l. h (suc i) (omega arith)))

    pub every-not : (xs : List A) (i : ℕ) → i < length xs → holds (get_or xs i d) ≡ false → every holds xs ≡ false
    unfolding every
    every-not [] i l bad = absurd (omega arith)
    every-not (x ∷ xs) zero l bad = rw bad
    every-not (x ∷ xs) (suc i) l bad = rw (every-not xs i (omega arith) bad) (and-false (holds x))

-- ---- a test of every entry and its place
module _ {A : Type 0} (holds : ℕ → A → Bool) (d : A) where
  -- what it says of each
  entry-from : (at : ℕ) (xs : List A) → every_from at holds xs ≡ true → (i : ℕ) → i < length xs → holds (at + i) (get_or xs i d) ≡ true
  unfolding every_from
  entry-from at [] t i h = absurd (omega arith)
  entry-from at (x ∷ xs) t zero h = rw (add-zero at) (both_true (holds at x) (every_from (suc at) holds xs) t).0
  entry-from at (x ∷ xs) t (suc i) h =
      let place : at + suc i ≡ suc at + i = omega arith in
      rw place (entry-from (suc at) xs (both_true (holds at x) (every_from (suc at) holds xs) t).1 i (omega arith))

  pub entry-holds : (xs : List A) → every_from 0 holds xs ≡ true → (i : ℕ) → i < length xs → holds i (get_or xs i d) ≡ true
  entry-holds xs t i h = rw (zero-add i) at (entry-from 0 xs t i h)

  -- and where it holds of each
  from_entries : (at : ℕ) (xs : List A) → ((i : ℕ) → i < length xs → holds (at + i) (get_or xs i d) ≡ true) → every_from at holds xs ≡ true
  unfolding every_from
  from_entries at [] h = refl
  from_entries at (x ∷ xs) h =
      let here : holds at x ≡ true = rw (add-zero at) at (h 0 (omega arith)) in
      let after : (i : ℕ) → i < length xs → holds (suc at + i) (get_or xs i d) ≡ true =
      λ i l. let place : at + suc i ≡ suc at + i = omega arith in rw place at (h (suc i) (omega arith)) in
      rw here (from_entries (suc at) xs after)

  pub every-entry : (xs : List A) → ((i : ℕ) → i < length xs → holds i (get_or xs i d) ≡ true) → every_from 0 holds xs ≡ true
  every-entry xs h = from_entries 0 xs (λ i l. rw (zero-add i) (h i l))

-- where no entry holds, and neither does what stands past the last
pub some-not : {A : Type 0} (holds : A → Bool) (xs : List A) (i : ℕ) (d : A) → holds d ≡ false → some_entry holds xs ≡ false → holds (get_or xs i d) ≡ false
unfolding some_entry
some-not holds [] i d past none = past
some-not holds (x ∷ xs) zero d past none = (neither (holds x) (some_entry holds xs) none).0
some-not holds (x ∷ xs) (suc i) d past none = some-not holds xs i d past (neither (holds x) (some_entry holds xs) none).1
