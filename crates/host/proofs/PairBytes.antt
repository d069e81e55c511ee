-- The pairs in bytes, read one after the other. Assumes nothing.
use mathlib.Core.Path.{◌≡◌}
use mathlib.Core.List.{List, []}
use Prim.Native.Nat.{ℕ, zero, suc, ◌+◌, ◌<◌}
use native.Mathlib.Numerals.{add-one}
use native.Mathlib.Omega.{arith}
use lib.ListN.{length, set, take, length-append}
use lib.Seq.{take-suc-set}
use Rattle.host.specs.Pairs.{pair_at, first_pairs}

module _ {P : Type 0} (pair : ℕ → ℕ → P) (bytes : List ℕ) where
  pub first-long : (n : ℕ) → length (first_pairs pair n bytes) ≡ n
  unfolding first_pairs
  first-long zero = omega arith
  first-long (suc n) = rw (length-append, first-long n) (add-one n)

  pub none : first_pairs pair 0 bytes ≡ []
  unfolding first_pairs
  none = cc

  -- one more
  pub next : (pairs : List P) (i : ℕ) (p : P) → i < length pairs → p ≡ pair_at pair bytes i → take i pairs ≡ first_pairs pair i bytes
      → take (i + 1) (set pairs i p) ≡ first_pairs pair (i + 1) bytes
  unfolding first_pairs
  next pairs i p h is read = rw (add-one i, take-suc-set pairs i p h, read, is)
