-- A fraction rounded to a whole number: by what it is, in order, to the nearest, and as `pence` works it out. Assumes nothing.
use mathlib.Core.Path.{◌≡◌, refl, sym, ap, ◌∙◌}
use Prim.Native.Nat.{ℕ, suc, ◌+◌, ◌*◌, ◌-◌, ◌/◌, ◌≤◌, ◌<◌, ◌^◌, min}
use native.Mathlib.Nat.{mul-le-mul, mul-div-mul_right, div-div-eq-div-mul, div-eq_of_lt-le, le-div_iff_mul-le, div-mul-le_self, lt-div-mul-add}
use native.Mathlib.Omega.{arith}
use native.Mathlib.Decide.{dec_le}
use lib.IntN.{ℤ, pos, negsuc, ◌+ℤ◌, ◌-ℤ◌, ◌*ℤ◌}
use lib.Signed.{◌≤ℤ◌}
use Rattle.signed.specs.Sign.{above, below, nearest}
use Rattle.signed.proofs.Signs.{sub-pos, sub-neg, nearest-sub}
use Rattle.signed.proofs.Whole as whole
use Rattle.signed.proofs.Whole.{above-times, below-times}
use Rattle.payment.specs.Exact.{Exact, ratio, plus, quotient, rounded, HalfUp}
use Rattle.payment.specs.Payment.{parts_less}
use Rattle.payment.proofs.Fractions.{Is, scaled, told, half_is, plus-is}

-- ---- a fraction rounded down

-- (n + 1) / d, less a part that is too small to matter
fine : (n d k : ℕ) → 0 < k → n / d ≡ (suc n * k - 1) / (k * d)
fine n d k h =
    let q : (suc n * k - 1) / k ≡ n = div-eq_of_lt-le k (omega arith) (omega arith) in
    sym (ap (λ (t : ℕ). t / d) q) ∙ div-div-eq-div-mul (suc n * k - 1) k d

quotient-same : (m n : ℤ) (d e : ℕ) → 0 < d → 0 < e → above m * e + below n * d ≡ above n * d + below m * e → quotient m d ≡ quotient n e
quotient-same (pos a) (pos c) d e hd he h =
    let p : a * e ≡ c * d = omega arith in
    let q : d * e ≡ e * d = omega arith in
    ap pos (sym (mul-div-mul_right a d he) ∙ rw (p, q) (mul-div-mul_right c e hd))
quotient-same (pos a) (negsuc c) d e hd he h = absurd (omega arith)
quotient-same (negsuc a) (pos c) d e hd he h = absurd (omega arith)
quotient-same (negsuc a) (negsuc c) d e hd he h =
    let p : suc a * e ≡ suc c * d = omega arith in
    let q : e * d ≡ d * e = omega arith in
    ap negsuc (fine a d e he ∙ rw (p, q) (sym (fine c e d hd)))

div_mono : (m n d : ℕ) → 0 < d → m ≤ n → m / d ≤ n / d
div_mono m n d h le = (le-div_iff_mul-le h).1 (omega (arith, div-mul-le_self m d))

quotient-mono : (m n : ℤ) (d : ℕ) → 0 < d → m ≤ℤ n → quotient m d ≤ℤ quotient n d
quotient-mono (pos a) (pos c) d h le = whole.≤-write (omega (arith, div_mono a c d h (omega (arith, whole.≤-read le))))
quotient-mono (pos a) (negsuc c) d h le = absurd (omega (arith, whole.≤-read le))
quotient-mono (negsuc a) (pos c) d h le = whole.≤-write (omega arith)
quotient-mono (negsuc a) (negsuc c) d h le = whole.≤-write (omega (arith, div_mono c a d h (omega (arith, whole.≤-read le))))

-- d times the quotient is at most z, and less than d below it
quotient-law : (z : ℤ) (d : ℕ) → 0 < d → let r = quotient z d in
    (above r * d + below z ≤ above z + below r * d) × (above z + below r * d < above r * d + d + below z)
quotient-law (pos n) d h = (omega (arith, div-mul-le_self n d), omega (arith, lt-div-mul-add {a = n} h))
quotient-law (negsuc n) d h = (omega (arith, lt-div-mul-add {a = n} h), omega (arith, div-mul-le_self n d))

-- ---- (a − b) / d rounded to a whole number

-- 2 (a − b) + d, of which 2 d are 1
abbrev doubled : ℕ → ℕ → ℕ → ℤ
doubled a b d = pos (a * 2 + d) -ℤ pos (b * 2)

rounded-is : {x : Exact} {a b d : ℕ} → Is x a b d → 0 < d → rounded x ≡ quotient (doubled a b d) (d * 2)
unfolding rounded
rounded-is {x} {a} {b} {d} i h =
    let y = plus x (ratio 1 2) in
    let none : b * 2 + 0 ≡ b * 2 = omega arith in
    let j = told (plus-is (scaled i 2) (half_is d)) refl none in
    quotient-same y.numerator (doubled a b d) y.denominator (d * 2) j.some (omega arith)
    (omega (arith, j.same, ap (λ (t : ℕ). y.denominator * t) (whole.less (pos (a * 2 + d)) (pos (b * 2)))))

module _ {x y : Exact} {a b a' b' d : ℕ} (i : Is x a b d) (j : Is y a' b' d) (h : 0 < d) where
  -- the greater fraction is not rounded to less
  pub rounded-mono : a + b' ≤ a' + b → rounded x ≤ℤ rounded y
  rounded-mono le =
      rw (rounded-is i h, rounded-is j h)
      (quotient-mono (doubled a b d) (doubled a' b' d) (d * 2) (omega arith)
      (whole.≤-write (omega (arith, whole.less (pos (a * 2 + d)) (pos (b * 2)), whole.less (pos (a' * 2 + d)) (pos (b' * 2))))))

  pub rounded-same : a + b' ≡ a' + b → rounded x ≡ rounded y
  rounded-same e =
      let p : doubled a b d ≡ doubled a' b' d =
      whole.same (doubled a b d) (doubled a' b' d) (omega (arith, whole.less (pos (a * 2 + d)) (pos (b * 2)), whole.less (pos (a' * 2 + d)) (pos (b' * 2)))) in
      rw (rounded-is i h, rounded-is j h, p)

-- ---- to the nearest, a half upward

-- with p − q for r, u − v for 2n, and a − b for 2n + d
module _ (d p q u v a b : ℕ) (twice : a + (v + 0) ≡ u + d * 1 + b) where
  -- g − h is 2r − 1
  low : (g h : ℕ) → g + (2 * q + 1) ≡ 2 * p + 0 + h → p * (d * 2) + b ≤ a + q * (d * 2) → d * g + v ≤ u + d * h
  low g h e l = omega (arith, ap (λ (k : ℕ). d * k) e)

  -- g − h is 2r + 1
  high : (g h : ℕ) → g + (2 * q + 0) ≡ 2 * p + 1 + h → a + q * (d * 2) < p * (d * 2) + d * 2 + b → u + d * h < d * g + v
  high g h e l = omega (arith, ap (λ (k : ℕ). d * k) e)

pub half_up : HalfUp
unfolding rounded
half_up x some =
    let d = x.denominator in
    let r = rounded x in
    let u = pos 2 *ℤ x.numerator in
    let z = u +ℤ pos (d * 1) in
    let t = pos 2 *ℤ r in
    let lo = t -ℤ pos 1 in
    let hi = t +ℤ pos 1 in
    let l = quotient-law z (d * 2) (omega arith) in
    let s = whole.sum u (pos (d * 1)) in
    let lo-is : above lo + (2 * below r + 1) ≡ 2 * above r + 0 + below lo = rw (above-times 2 r, below-times 2 r) at (whole.less t (pos 1)) in
    let hi-is : above hi + (2 * below r + 0) ≡ 2 * above r + 1 + below hi = rw (above-times 2 r, below-times 2 r) at (whole.sum t (pos 1)) in (
      whole.≤-write (rw (above-times d lo, below-times d lo) (low d (above r) (below r) (above u) (below u) (above z) (below z) s (above lo) (below lo) lo-is l.0)),
      whole.<-write (rw (above-times d hi, below-times d hi) (high d (above r) (below r) (above u) (below u) (above z) (below z) s (above hi) (below hi) hi-is l.1)),
    )

-- ---- in parts of a penny

pub parts_is : (a b : ℕ) → Is (parts_less a b) a b 3600000000000
parts_is a b = record { some = omega arith; same = omega (arith, whole.less (pos a) (pos b)) }

-- of a gain n and a loss m one is 0
module _ (n m : ℕ) where
  abbrev up : ℕ
  up = (n + 1800000000000) / 3600000000000

  abbrev off : ℕ
  off = (m + 1799999999999) / 3600000000000

  abbrev Quotients : Type 0
  Quotients = pos up -ℤ pos off ≡ quotient (doubled n m 3600000000000) 7200000000000

  not-below : m * 2 ≤ n * 2 + 3600000000000 → up - off ≡ (n * 2 + 3600000000000 - m * 2) / 7200000000000 → off ≤ up → Quotients
  not-below h p le = rw (sub-pos up off le, sub-pos (n * 2 + 3600000000000) (m * 2) h) (ap pos p)

  gained : m ≡ 0 → Quotients
  gained z = not-below (omega arith) (omega arith) (omega arith)

  lost : n ≡ 0 → Quotients
  lost z = by (dec_le (m * 2) 3600000000000)
    where
      by : Dec (m * 2 ≤ 3600000000000) → Quotients
      by (yes h) = not-below (omega arith) (omega arith) (omega arith)
      by (no h) =
          let p : off - suc up ≡ (m * 2 - suc (n * 2 + 3600000000000)) / 7200000000000 = omega arith in
          rw (sub-neg up off (omega arith), sub-neg (n * 2 + 3600000000000) (m * 2) (omega arith)) (ap negsuc p)

module _ (e l w : ℕ) (h : (e ≤ 10000000000) × (l ≤ 10000000000) × (w ≤ 1800000000)) where
  abbrev gain : ℕ
  gain = (e - min e l) * w

  abbrev loss : ℕ
  loss = (l - min e l) * w

  pub gain-most : (e - min e l) * w ≤ 18000000000000000000
  gain-most = let g : e - min e l ≤ 10000000000 = omega arith in mul-le-mul g h.2

  pub loss-most : (l - min e l) * w ≤ 18000000000000000000
  loss-most = let g : l - min e l ≤ 10000000000 = omega arith in mul-le-mul g h.2

  one-is-0 : Quotients gain loss
  one-is-0 = by (dec_le l e)
    where
      by : Dec (l ≤ e) → Quotients gain loss
      by (yes le) = let p : l - min e l ≡ 0 = omega arith in gained gain loss (ap (λ (t : ℕ). t * w) p ∙ omega arith)
      by (no le) = let p : e - min e l ≡ 0 = omega arith in lost gain loss (ap (λ (t : ℕ). t * w) p ∙ omega arith)

  -- what both have goes from both
  less_both : gain + l * w ≡ e * w + loss
  less_both =
      let p : e - min e l + min e l ≡ e = omega arith in
      let q : l - min e l + min e l ≡ l = omega arith in
      omega (arith, ap (λ (t : ℕ). t * w) p, ap (λ (t : ℕ). t * w) q)

  pub pence-is : nearest (pos ((gain + 1800000000000) / 3600000000000) -ℤ pos ((loss + 1799999999999) / 3600000000000))
      ≡ rounded (parts_less (e * w) (l * w))
  pence-is =
      let a : up gain loss < 2 ^ 63 = omega (arith, gain-most) in
      let b : off gain loss < 2 ^ 63 = omega (arith, loss-most) in
      nearest-sub (up gain loss) (off gain loss) a b ∙ one-is-0 ∙ sym (rounded-is (parts_is gain loss) (omega arith))
      ∙ rounded-same (parts_is gain loss) (parts_is (e * w) (l * w)) (omega arith) less_both
