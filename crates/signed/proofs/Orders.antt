-- Tests of whole numbers, read as facts and back. Assumes nothing.
use mathlib.Core.Path.{◌≡◌, refl, sym, ap, subst}
use mathlib.Core.Logic.{◌⊎◌, inl, inr}
use mathlib.Core.Bool.{Bool, true, false}
use Prim.Native.Nat.{ℕ, ◌+◌}
use native.Mathlib.Omega.{arith}
use borrow.Author.Tests.{leb-false, ltb-false, eqb-true, eq-eqb, ne_eqb}
use lib.Dec.{T, eqb, leb-zero}
use lib.IntN.{ℤ, pos, negsuc, ◌+ℤ◌, ◌-ℤ◌}
use lib.Signed.{le_z, lt_z, ◌≤ℤ◌, ◌<ℤ◌, le_z_yes, lt_z_yes}
use Rattle.common.proofs.Tests.{both_true}
use Rattle.signed.specs.Sign.{above, below, eq_z, greater, within}
use Rattle.signed.proofs.Whole.{whole, sum, less, same, ≤-write, <-write}

is_true : (b : Bool) → T b → b ≡ true
is_true true t = refl
is_true false t = absurd t

is_T : {b : Bool} → b ≡ true → T b
is_T e = subst T (sym e) tt

module _ {a b : ℤ} where
  pub le_z-true : le_z a b ≡ true → a ≤ℤ b
  le_z-true e = le_z_yes (is_T e)

  pub true-le_z : a ≤ℤ b → le_z a b ≡ true
  true-le_z h = is_true (le_z a b) h.le

  pub lt_z-true : lt_z a b ≡ true → a <ℤ b
  lt_z-true e = lt_z_yes (is_T e)

pub le_z-false : (a b : ℤ) → le_z a b ≡ false → b <ℤ a
le_z-false (pos a) (pos b) e = <-write (omega (arith, leb-false a b e))
le_z-false (pos a) (negsuc b) e = omega (arith, whole)
le_z-false (negsuc a) (pos b) e = absurd (subst T e tt)
le_z-false (negsuc a) (negsuc b) e = <-write (omega (arith, leb-false b a e))

pub lt_z-false : (a b : ℤ) → lt_z a b ≡ false → b ≤ℤ a
lt_z-false (pos a) (pos b) e = ≤-write (omega (arith, ltb-false a b e))
lt_z-false (pos a) (negsuc b) e = omega (arith, whole)
lt_z-false (negsuc a) (pos b) e = absurd (subst T e tt)
lt_z-false (negsuc a) (negsuc b) e = ≤-write (omega (arith, ltb-false b a e))

module _ (low z high : ℤ) where
  pub within-true : within low z high ≡ true → (low ≤ℤ z) × (z ≤ℤ high)
  within-true e = let w = both_true (le_z low z) (le_z z high) e in (le_z-true w.0, le_z-true w.1)

  pub true-within : low ≤ℤ z → z ≤ℤ high → within low z high ≡ true
  true-within h k = rw (true-le_z h, true-le_z k)

  pub within-false : within low z high ≡ false → (z <ℤ low) ⊎ (high <ℤ z)
  within-false e = by (le_z low z) refl
    where
      by : (c : Bool) → le_z low z ≡ c → (z <ℤ low) ⊎ (high <ℤ z)
      by false h = inl (le_z-false low z h)
      by true h = inr (le_z-false z high (rw h at e))

pub eq_z-refl : (z : ℤ) → eq_z z z ≡ true
eq_z-refl (pos n) = eq-eqb n n refl
eq_z-refl (negsuc n) = eq-eqb n n refl

pub greater-zero : (z : ℤ) → greater (pos 0) z ≡ pos (above z)
greater-zero (pos n) = rw (leb-zero n)
greater-zero (negsuc n) = refl

eq_z-true : (a b : ℤ) → eq_z a b ≡ true → a ≡ b
eq_z-true (pos m) (pos n) e = ap pos (eqb-true m n e)
eq_z-true (pos m) (negsuc n) e = absurd (subst T (sym e) tt)
eq_z-true (negsuc m) (pos n) e = absurd (subst T (sym e) tt)
eq_z-true (negsuc m) (negsuc n) e = ap negsuc (eqb-true m n e)

-- s = f + b − o − d + t, in natural numbers
module _ (s f b o d t : ℕ) where
  abbrev u : ℤ
  u = pos f +ℤ pos b -ℤ pos o -ℤ pos d +ℤ pos t

  adds : above u + (o + d) ≡ f + b + t + below u
  adds =
      let x = pos f +ℤ pos b in
      let y = x -ℤ pos o in
      omega (arith, sum (pos f) (pos b), less x (pos o), less y (pos d), sum (y -ℤ pos d) (pos t))

  pub balance : eq_z (pos s) u ≡ eqb (s + (o + d)) (f + b + t)
  balance = by (eq_z (pos s) u) refl
    where
      by : (c : Bool) → eq_z (pos s) u ≡ c → c ≡ eqb (s + (o + d)) (f + b + t)
      by true e = let p = eq_z-true (pos s) u e in sym (eq-eqb (s + (o + d)) (f + b + t) (omega (arith, adds, ap above p, ap below p)))
      by false e =
          sym (ne_eqb (s + (o + d)) (f + b + t) (λ q.
          let p = same (pos s) u (omega (arith, adds)) in
          let same_test : eq_z (pos s) u ≡ true = subst (λ z. eq_z (pos s) z ≡ true) p (eq_z-refl (pos s)) in
          let clash : ◌≡◌ {A = ℕ} 0 1 = cc in
          omega arith))
