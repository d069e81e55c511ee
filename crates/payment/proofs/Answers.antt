-- The answers of `payment`, by its tests in their order. Assumes nothing.
use mathlib.Core.Path.{◌≡◌, refl}
use mathlib.Core.Bool.{Bool, true, false, cond, ◌&&◌}
use mathlib.Core.List.{List, [], ◌∷◌, map}
use Prim.Native.Nat.{ℕ, ◌*◌, ◌-◌, ◌≤◌, ◌<◌, max}
use native.Mathlib.Nat.{mul-le-mul, mul-le-mul_right}
use native.Mathlib.Omega.{arith}
use borrow.Author.Tests.{lt-leb, le-ltb, leb-true}
use lib.Dec.{leb}
use lib.IntN.{ℤ}
use lib.ListN.{length}
use Rattle.std.specs.Prelude.{Some, None}
use Rattle.common.specs.Answer.{refused, given}
use Rattle.common.specs.Lists.{sum, every}
use Rattle.common.proofs.Tests.{both_true}
use Rattle.payment.specs.Payment.{quantity_rule, seconds, pieces_rule, work, measured_of, amount, payment_causes, paying, first_from}
use Rattle.payment.specs.declared.Piece.{Piece}

-- ---- what `measure` says of the pieces

module _ (ps : List Piece) where
  pub kept_rule : {w : ℕ} → measured_of ps ≡ Some w → (pieces_rule ps ≡ true) × (w ≡ sum (map work ps))
  unfolding measured_of
  kept_rule {w} e = by (pieces_rule ps) e
    where
      by : (t : Bool) → cond t (Some (sum (map work ps))) None ≡ Some w → (t ≡ true) × (w ≡ sum (map work ps))
      by true e = (refl, cc)
      by false e = let o : ◌≡◌ {A = ℕ} 0 1 = cc in absurd (omega arith)

  pub broken-rule : measured_of ps ≡ None → pieces_rule ps ≡ false
  unfolding measured_of
  broken-rule e = by (pieces_rule ps) e
    where
      by : (t : Bool) → cond t (Some (sum (map work ps))) None ≡ None → t ≡ false
      by true e = let o : ◌≡◌ {A = ℕ} 0 1 = cc in absurd (omega arith)
      by false e = refl

work-by-seconds : (ps : List Piece) → every quantity_rule ps ≡ true → sum (map work ps) ≤ 1000000 * seconds ps
unfolding sum every
work-by-seconds [] e = omega arith
work-by-seconds (p ∷ ps) e =
    let t = both_true (quantity_rule p) (every quantity_rule ps) e in
    omega (arith, mul-le-mul_right p.duration (leb-true p.quantity 1000000 t.0), work-by-seconds ps t.1)

-- 1,000,000 kW for 1,800 seconds
pub work-most : (ps : List Piece) → pieces_rule ps ≡ true → sum (map work ps) ≤ 1800000000
unfolding pieces_rule
work-most ps e =
    let t = both_true (leb (length ps) 64 && every quantity_rule ps) (leb (seconds ps) 1800) e in
    let u = both_true (leb (length ps) 64) (every quantity_rule ps) t.0 in
    omega (arith, work-by-seconds ps u.1, leb-true (seconds ps) 1800 t.1)

-- ---- what goes from a kW and second fits its bound

pub lost-most : (price adjustment k f : ℕ) → price ≤ 10000 → adjustment ≤ 10000 → max price adjustment * (1000000 - k * f) ≤ 10000000000
lost-most price adjustment k f p a =
    let m : max price adjustment ≤ 10000 = omega arith in
    let s : 1000000 - k * f ≤ 1000000 = omega arith in
    mul-le-mul m s

-- ---- the answers, where the figures are within their limits

module _ (price adjustment k f : ℕ) (ps : List Piece) (p : price ≤ 10000) (a : adjustment ≤ 10000) (hk : k ≤ 1000) (hf : f ≤ 1000) where
  pub pieces-over : pieces_rule ps ≡ false → (refused 20 ≡ paying price adjustment k f ps) × (5 ≡ first_from 1 (payment_causes price adjustment k f ps))
  unfolding paying payment_causes first_from
  pieces-over h = rw (le-ltb 10000 price p, le-ltb 10000 adjustment a, le-ltb 1000 k hk, le-ltb 1000 f hf, h) (refl, refl)

  pub paid : pieces_rule ps ≡ true → {z : ℤ} → z ≡ amount price adjustment k f ps
      → (given z ≡ paying price adjustment k f ps) × (0 ≡ first_from 1 (payment_causes price adjustment k f ps))
  unfolding paying payment_causes first_from
  paid h e = rw (le-ltb 10000 price p, le-ltb 10000 adjustment a, le-ltb 1000 k hk, le-ltb 1000 f hf, h, e) (refl, refl)

-- more than 64 pieces are refused, whichever they are
pub alike-over : (price adjustment k f : ℕ) (ps qs : List Piece) → 64 < length ps → 64 < length qs
    → paying price adjustment k f ps ≡ paying price adjustment k f qs
unfolding paying payment_causes pieces_rule
alike-over price adjustment k f ps qs p q = rw (lt-leb (length ps) 64 p, lt-leb (length qs) 64 q)
