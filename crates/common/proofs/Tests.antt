-- Tests of numbers, two tests together, and a choice by a test. Assumes nothing.
use mathlib.Core.Path.{◌≡◌, refl}
use mathlib.Core.Bool.{Bool, true, false, not, cond, ◌&&◌, ◌||◌, and-eq-true_iff}
use Prim.Native.Nat.{ℕ, ◌≤◌, max}
use native.Mathlib.Omega.{arith}
use native.Mathlib.Decide.{dec_le}
use borrow.Author.Tests.{le-leb, lt-leb, le-ltb, lt-ltb}
use lib.Dec.{leb, ltb}

pub not-leb : (a b : ℕ) → not (leb a b) ≡ ltb b a
not-leb a b = by (dec_le a b)
  where
    by : Dec (a ≤ b) → not (leb a b) ≡ ltb b a
    by (yes h) = rw (le-leb a b h, le-ltb b a h)
    by (no h) = rw (lt-leb a b (omega arith), lt-ltb b a (omega arith))

-- two tests say the same where each says so when the other does
pub leb-same : (a b c d : ℕ) → (a ≤ b → c ≤ d) → (c ≤ d → a ≤ b) → leb a b ≡ leb c d
leb-same a b c d f g = by (dec_le a b)
  where
    by : Dec (a ≤ b) → leb a b ≡ leb c d
    by (yes h) = rw (le-leb a b h, le-leb c d (f h))
    by (no h) = rw (lt-leb a b (omega arith), lt-leb c d (let k : c ≤ d → ⊥ = λ l. h (g l) in omega arith))

pub leb-max : (a b n : ℕ) → leb (max a b) n ≡ leb a n && leb b n
leb-max a b n = by (dec_le a n) (dec_le b n)
  where
    by : Dec (a ≤ n) → Dec (b ≤ n) → leb (max a b) n ≡ leb a n && leb b n
    by (yes p) (yes q) = rw (le-leb a n p, le-leb b n q, le-leb (max a b) n (omega arith))
    by (no p) q = rw (lt-leb a n (omega arith), lt-leb (max a b) n (omega arith))
    by (yes p) (no q) = rw (le-leb a n p, lt-leb b n (omega arith), lt-leb (max a b) n (omega arith))

pub not-both : (a b : Bool) → not (a && b) ≡ not a || not b
not-both true b = refl
not-both false b = refl

pub both_true : (a b : Bool) → a && b ≡ true → (a ≡ true) × (b ≡ true)
both_true a b = (and-eq-true_iff a b).0

pub neither : (a b : Bool) → a || b ≡ false → (a ≡ false) × (b ≡ false)
neither true b e = let o : ◌≡◌ {A = ℕ} 0 1 = cc in absurd (omega arith)
neither false b e = (refl, e)

-- what holds of either choice holds of the one that the test makes
pub by-test : {A : Type 0} (P : A → Type 0) (t : Bool) (a b : A) → (t ≡ true → P a) → (t ≡ false → P b) → P (cond t a b)
by-test P true a b f g = f refl
by-test P false a b f g = g refl
