-- Whole numbers as omega reads them: each is `above z` less `below z`, two natural numbers of which one is 0.
-- `omega (arith, whole, sum x y, less u v)` proves the order of sums and differences: list one `sum`, `less` or `neg` for each
-- operation in play. Assumes nothing.
use mathlib.Core.Path.{◌≡◌, refl, ap}
use mathlib.Core.Bool.{Bool, true, false, not, cond}
use Prim.Native.Nat.{ℕ, zero, suc, ◌+◌, ◌*◌, ◌-◌, ◌≤◌, ◌<◌, min}
use native.Mathlib.Omega.{arith}
use lib.Dec.{T, ltb, ltb→lt, nltb→le, leb→le, le→leb, lt→ltb}
use lib.IntN.{ℤ, pos, negsuc, neg_ℤ, nat_abs, sub_ℕ, ◌+ℤ◌, ◌-ℤ◌, ◌*ℤ◌}
use lib.Signed.{le_z, lt_z, ◌≤ℤ◌, ◌<ℤ◌}
use Rattle.signed.specs.Sign.{above, below}

pub one-sided : (z : ℤ) → min (above z) (below z) ≡ 0
one-sided (pos n) = omega arith
one-sided (negsuc n) = omega arith

pub abs_is : (z : ℤ) → nat_abs z ≡ above z + below z
abs_is (pos n) = omega arith
abs_is (negsuc n) = omega arith

-- ---- sums and differences

sub_is : (a b : ℕ) → above (sub_ℕ a b) + b ≡ a + below (sub_ℕ a b)
sub_is a b = go (ltb a b) (λ t. ltb→lt a b t) (λ t. nltb→le a b t)
  where
    go : (c : Bool) → (T c → a < b) → (T (not c) → b ≤ a)
        → above (cond c (negsuc (b - suc a)) (pos (a - b))) + b ≡ a + below (cond c (negsuc (b - suc a)) (pos (a - b)))
    go true f g = let h : a < b = f tt in omega arith
    go false f g = let h : b ≤ a = g tt in omega arith

pub sum : (a b : ℤ) → above (a +ℤ b) + (below a + below b) ≡ above a + above b + below (a +ℤ b)
sum (pos a) (pos b) = omega arith
sum (pos a) (negsuc b) = omega (arith, sub_is a (suc b))
sum (negsuc a) (pos b) = omega (arith, sub_is b (suc a))
sum (negsuc a) (negsuc b) = omega arith

above-neg : (z : ℤ) → above (neg_ℤ z) ≡ below z
above-neg (pos zero) = refl
above-neg (pos (suc n)) = refl
above-neg (negsuc n) = refl

below-neg : (z : ℤ) → below (neg_ℤ z) ≡ above z
below-neg (pos zero) = refl
below-neg (pos (suc n)) = refl
below-neg (negsuc n) = refl

pub neg : (z : ℤ) → above (neg_ℤ z) + above z ≡ below z + below (neg_ℤ z)
neg z = omega (arith, above-neg z, below-neg z)

pub less : (a b : ℤ) → above (a -ℤ b) + (below a + above b) ≡ above a + below b + below (a -ℤ b)
less a b = omega (arith, sum a (neg_ℤ b), above-neg b, below-neg b)

-- ---- a natural number times a whole one

pub above-times : (n : ℕ) (z : ℤ) → above (pos n *ℤ z) ≡ n * above z
above-times n (pos m) = refl
above-times n (negsuc m) = omega (arith, above-neg (pos (n * suc m)))

pub below-times : (n : ℕ) (z : ℤ) → below (pos n *ℤ z) ≡ n * below z
below-times n (pos m) = omega arith
below-times n (negsuc m) = omega (arith, below-neg (pos (n * suc m)))

-- ---- order

le-above : (a b : ℤ) → T (le_z a b) → above a + below b ≤ above b + below a
le-above (pos a) (pos b) t = omega (arith, leb→le a b t)
le-above (pos a) (negsuc b) t = absurd t
le-above (negsuc a) (pos b) t = omega arith
le-above (negsuc a) (negsuc b) t = omega (arith, leb→le b a t)

above-le : (a b : ℤ) → above a + below b ≤ above b + below a → T (le_z a b)
above-le (pos a) (pos b) h = le→leb a b (omega arith)
above-le (pos a) (negsuc b) h = absurd (omega arith)
above-le (negsuc a) (pos b) h = tt
above-le (negsuc a) (negsuc b) h = le→leb b a (omega arith)

lt_above : (a b : ℤ) → T (lt_z a b) → above a + below b < above b + below a
lt_above (pos a) (pos b) t = omega (arith, ltb→lt a b t)
lt_above (pos a) (negsuc b) t = absurd t
lt_above (negsuc a) (pos b) t = omega arith
lt_above (negsuc a) (negsuc b) t = omega (arith, ltb→lt b a t)

above-lt : (a b : ℤ) → above a + below b < above b + below a → T (lt_z a b)
above-lt (pos a) (pos b) h = lt→ltb a b (omega arith)
above-lt (pos a) (negsuc b) h = absurd (omega arith)
above-lt (negsuc a) (pos b) h = tt
above-lt (negsuc a) (negsuc b) h = lt→ltb b a (omega arith)

pub ≤-read : {a b : ℤ} → a ≤ℤ b → above a + below b ≤ above b + below a
≤-read {a} {b} h = le-above a b h.le

pub ≤-write : {a b : ℤ} → above a + below b ≤ above b + below a → a ≤ℤ b
≤-write {a} {b} h = record { le = above-le a b h }

pub <-read : {a b : ℤ} → a <ℤ b → above a + below b < above b + below a
<-read {a} {b} h = lt_above a b h.lt

pub <-write : {a b : ℤ} → above a + below b < above b + below a → a <ℤ b
<-write {a} {b} h = record { lt = above-lt a b h }

pub ruleset whole = (≤-read, ≤-write, <-read, <-write)

pub same : (a b : ℤ) → above a + below b ≡ above b + below a → a ≡ b
same (pos a) (pos b) h = ap pos (omega arith)
same (pos a) (negsuc b) h = absurd (omega arith)
same (negsuc a) (pos b) h = absurd (omega arith)
same (negsuc a) (negsuc b) h = ap negsuc (omega arith)
